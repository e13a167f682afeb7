-- One line: it is right where both events are there and its verdict is the one on them.
use Prim.Native.Nat.{ℕ}
use mathlib.Core.Path.{◌≡◌, refl, ap, ◌∙◌}
use mathlib.Core.Bool.{Bool, true, false, ◌&&◌, ◌||◌, not, false≢true}
use mathlib.Core.List.{List}
use lib.Dec.{ltb}
use borrow.Author.Tests.{lt-ltb}
use Rattle.paper.specs.Marking.{Line}
use Rattle.paper.specs.Refusals.{Outcome}
use Rattle.paper.proofs.Sheets.Checks.{below, neither}
use Rattle.order.specs.Judge.{not_both, row_verdict}
use Rattle.pupil.specs.Rows.{says, row_right}

not_there : (x y z : Bool) → (not x || not y) ≡ true → false ≡ (x && y && z)
not_there true true z h = absurd (false≢true h)
not_there true false z h = refl
not_there false y z h = refl

module _ (n m : ℕ) (clocks : List ℕ) (l : Line) where
  pub missing : not_both m l.one l.other ≡ true → false ≡ row_right n m clocks l
  unfolding row_right
  missing h = not_there (ltb l.one m) (ltb l.other m) (says (row_verdict n clocks l.one l.other) l.verdict) h

  pub found : {o : Outcome ℕ} → not_both m l.one l.other ≡ false → o ≡ row_verdict n clocks l.one l.other → says o l.verdict ≡ row_right n m clocks l
  unfolding row_right
  found h e =
      let (a, b) = (neither (not (ltb l.one m)) (not (ltb l.other m)) (below l.one m) (below l.other m)).0 h in
      ap (λ (x : Outcome ℕ). says x l.verdict) e ∙ rw (lt-ltb l.one m a, lt-ltb l.other m b)
