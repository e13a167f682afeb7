-- The checks 1 to 7 put together from single checks; and what the answer says to a caller that goes on with later checks.
use Prim.Native.Nat.{ℕ}
use mathlib.Core.List.{List}
use mathlib.Core.Logic.{◌≢◌}
use mathlib.Core.Path.{◌≡◌, sym, ap}
use lib.ListN.{length}
use Rattle.paper.specs.Reading.{header_checks}
use Rattle.paper.specs.Refusals.{Refusal, of_call, refused, outcome}
use Rattle.paper.specs.Terms.{wrong_count}
use Rattle.paper.proofs.Laws.Refused as paper
use Rattle.sheet.specs.Header.{in_turn, wrong_length, wrong_letters, wrong_version, wrong_zeros, wrong_list, wrong_stamps, Lies}
use Rattle.sheet.specs.declared.header.Parts.{Parts}

module _ {b : List ℕ} {p : Parts} (l : Lies b p) where
  pub in_order :
      header_checks b 0
      ≡ in_turn (wrong_length b) (wrong_letters b) (wrong_version b) (wrong_count p.terms.processes) (wrong_zeros b) (wrong_list (length b) p.list)
      (wrong_stamps (length b) p.list p.stamps) 0
  unfolding header_checks
  in_order = rw (l.processes, l.list.offset, l.list.size, l.stamps.offset, l.stamps.size)

-- What the answer says: the number that refuses; of what is found, `is_done` of the paper.
pub is_refused : {A : Type 0} (a : A) (r n : ℕ) → refused (of_call r) ≡ outcome (of_call n) a → (n ≡ r) × (n ≢ 0)
is_refused a r n h = let (z, q) = paper.is_refused (of_call n) a (of_call r) h in (sym (ap (λ (x : Refusal). x.number) q), z)
