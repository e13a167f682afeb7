-- What is claimed of the saving of sheet A, of sheets without messages or with messages that are never received, and of its refusals (theorem `saved_A`).
use Rattle.std.specs.Prelude.{ℕ, ◌≡◌, false, List, [], ◌∷◌, ◌++◌, Float, pos, negsuc}
use Rattle.std.specs.Float.{fin}
use Rattle.paper.specs.Claims.Samples.{A, event_bytes, lent, cleared}
use Rattle.paper.specs.Refusals.{of_call, refused, done}
use Rattle.paper.specs.Savings.{hundredths, no_messages, percent, tallying, savings, storing}
use Rattle.paper.specs.Sheet.{written}
use Rattle.paper.specs.Terms.{plain}

-- 50, and 200 / 3 as a 64-bit float: 4691249611844267 / 2 ^ 46.
abbrev pub fifty : Float
fifty = fin false 25 (pos 1)

abbrev pub two_thirds : Float
two_thirds = fin false 4691249611844267 (negsuc 45)

-- One send that is never received, and two internal events.
abbrev pub unreceived : List ℕ
unreceived = event_bytes 1 0 1 1

abbrev pub silent : List ℕ
silent = event_bytes 0 0 0 0 ++ event_bytes 0 1 0 0

pub record SavedA : Type 0 where
  pub counts_of_A : (tallying (written (plain 3) A) (lent 25 9)).0 ≡ done (record { processes = 3; events = 8; sends = 4; carried = 6 })
  pub saving_of_A : (savings (written (plain 3) A) (lent 25 9)).0 ≡ done (percent fifty)
  pub hundredths_of_A : hundredths (record { processes = 3; events = 8; sends = 4; carried = 6 }) ≡ 5000
  pub stored_of_A : (storing (written (plain 3) A) (lent 25 9) (two_thirds ∷ two_thirds ∷ [])).1 ≡ fifty ∷ two_thirds ∷ []
  pub no_slot : storing (written (plain 3) A) (lent 25 9) [] ≡ ((refused (of_call 21), cleared 24 8), [])
  pub never_received : (savings (written (plain 3) unreceived) (lent 25 9)).0 ≡ done (percent two_thirds)
  pub without_messages : (storing (written (plain 2) silent) (lent 25 9) (fifty ∷ [])).1 ≡ fifty ∷ []
  pub none_told : (savings (written (plain 2) silent) (lent 25 9)).0 ≡ done no_messages
  pub none_without_slot : (storing (written (plain 2) silent) (lent 25 9) []).0.0 ≡ refused (of_call 21)
