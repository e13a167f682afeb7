-- The percentage in its slot.
use mathlib.Core.Path.{refl, sym, ap, ◌∙◌}
use native.Mathlib.Omega.{arith}
use borrow.Author.Tests.{eqb-false}
use Prim.Native.Nat.{◌≤◌}
use lib.ListN.{length}
use Rattle.course.specs.Said.{work}
use Rattle.percentage.specs.Said.{counts, saving}
use Rattle.percentage.proofs.Placed.{put_none, put_first, placing_done}
use Rattle.percentage.proofs.place.Goals as goal
use Rattle.percentage.proofs.place.Goals.{Else-is_empty}

some : (c : Else-is_empty) → 1 ≤ length c.args.percent.now
some c = let n = eqb-false (length c.args.percent.now) 0 (sym c.is_empty.ensures ∙ c.if-is_empty.false) in omega arith

pub returns-in-Some : goal.returns-in-Some
returns-in-Some c =
    let a = c.args in
    placing_done (counts a.c) (work a.clocks.now a.masks.now a.values.now) a.percent.now (some (goal.at.returns-in-Some c).Else-is_empty) c.in-Some.ensures
    (put_first _ _ _ refl)

pub returns-in_default : goal.returns-in_default
returns-in_default c =
    let a = c.args in
    placing_done (counts a.c) (work a.clocks.now a.masks.now a.values.now) a.percent.now (some (goal.at.returns-in_default c).Else-is_empty) c.figure-saved.ensures
    (put_none _ _ (ap saving c.in_default.is))
