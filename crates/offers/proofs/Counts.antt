-- How many events are accepted: as many as there are stamps, and no more than offers.
use Prim.Native.Nat.{ℕ, ◌≤◌}
use mathlib.Core.List.{List}
use mathlib.Core.Path.{◌≡◌, ap, ◌∙◌}
use native.Mathlib.Omega.{arith}
use lib.ListN.{length}
use Rattle.paper.specs.Event.{first_events}
use Rattle.paper.specs.Machine.{start}
use Rattle.paper.specs.Stamp.{never_sent}
use Rattle.paper.specs.Terms.{Terms}
use Rattle.paper.proofs.Agreement.{agreement_list}
use Rattle.paper.proofs.Laws.Runs.{clocked_few, length_events}
use Rattle.paper.proofs.Laws.Slots.{length_stamps}
use Rattle.offers.specs.Turn.{stamps_at, accepted_at}

pub stamps_many : (terms : Terms) → terms.processes ≤ 32 → (l : List ℕ) (i : ℕ) → length (stamps_at terms l i) ≡ length (accepted_at terms l i)
stamps_many terms few l i = ap length (agreement_list terms few (first_events i l)) ∙ length_stamps (accepted_at terms l i) never_sent

pub accepted_few : (terms : Terms) (l : List ℕ) (i : ℕ) → length (accepted_at terms l i) ≤ i
accepted_few terms l i = omega (arith, clocked_few terms (first_events i l) (start terms), length_events i l)
