-- The loop over the lines: what holds at its head, and one law each for its start and a turn.
use Prim.Native.Nat.{ℕ, suc, ◌+◌, ◌≤◌}
use native.Mathlib.Nat.{zero-add}
use native.Mathlib.Numerals.{add-one}
use native.Mathlib.Omega.{arith}
use mathlib.Core.Path.{◌≡◌, refl, sym, ap, ◌∙◌}
use mathlib.Core.Bool.{Bool, true, false, cond}
use mathlib.Core.List.{List}
use lib.ListN.{set}
use lib.Seq.{sets}
use Rattle.std.specs.Int.{from_bool}
use Rattle.paper.specs.Marking.{line_at}
use Rattle.paper.specs.Stamp.{count, upto}
use Rattle.paper.proofs.Laws.Masks.{count_le, length_upto}
use Rattle.paper.proofs.Laws.Stores.{stored}
use Rattle.pupil.specs.Rows.{row_right, row_mark, row_marks, row_total}

-- The first j lines are marked.
pub record To (n m : ℕ) (clocks lines old slots : List ℕ) (total j : ℕ) : Type 0 where
  pub is : slots ≡ sets old 0 (row_marks n m clocks lines j)
  pub sum : total ≡ row_total n m clocks lines j
  pub small : total ≤ j

module _ {n m : ℕ} {clocks lines old : List ℕ} where
  pub to_start : To n m clocks lines old old 0 0
  unfolding upto count
  to_start = record { is = refl; sum = refl; small = omega arith }

  module _ {slots : List ℕ} {total j : ℕ} (t : To n m clocks lines old slots total j) where
    abbrev p : ℕ → Bool
    p i = row_right n m clocks (line_at lines i)

    one_more : (r : Bool) → r ≡ p j → total + from_bool r ≡ row_total n m clocks lines (suc j)
    unfolding count
    one_more r e = rw (e, t.sum) (go (p j))
      where
        go : (s : Bool) → count p j + from_bool s ≡ cond s (count p j + 1) (count p j)
        go true = refl
        go false = omega arith

    store : (r : Bool) → r ≡ p j → set slots j (from_bool r) ≡ sets old 0 (row_marks n m clocks lines (suc j))
    unfolding upto
    store r e =
        let f = row_mark n m clocks lines in
        let q : from_bool r ≡ f j = go r ∙ ap (λ (x : Bool). cond x 1 0) e in
        rw q (rw zero-add at (stored slots old 0 j (f j) (row_marks n m clocks lines j) t.is (sym (length_upto f j))))
      where
        go : (s : Bool) → from_bool s ≡ cond s 1 0
        go true = refl
        go false = refl

    -- Whether the line at j is right is put into its slot and added to the total.
    pub to_more :
        {r : Bool} {x y : ℕ} → r ≡ p j → x ≡ from_bool r → y ≡ from_bool r → To n m clocks lines old (set slots j x) (total + y) (j + 1)
    to_more {r} {x} {y} e f g =
        let s : total + y ≡ row_total n m clocks lines (suc j) = rw g (one_more r e) in
        let next : suc j ≡ j + 1 = sym (add-one j) in
        record {
          is = rw f (store r e) ∙ ap (λ (i : ℕ). sets old 0 (row_marks n m clocks lines i)) next;
          sum = s ∙ ap (row_total n m clocks lines) next;
          small = omega (arith, s, count_le p (suc j));
        }
