use mathlib.Core.Path.{sym, ap}
use native.Mathlib.Omega.{arith}
use borrow.Author.Tests.{le-leb, lt-leb, true-eqb, false-eqb}
use lib.ListN.{length}
use Rattle.std.proofs.Common.{Some}
use Rattle.number.specs.Digits.{number_of}
use Rattle.number.proofs.parse.Goals as goal
use Rattle.number.proofs.parse.Goals.{then-is_empty-via-then-is_empty, then-is_empty-via-else-is_empty+then-text-gt5, then-is_empty-via-else-is_empty+else-text-gt5+then-not-all_digits}

pub returns-then-is_empty : goal.returns-then-is_empty
unfolding number_of
returns-then-is_empty c = elim c.then-is_empty.branch [
  | then-is_empty-via-then-is_empty w ↦
      let e = true-eqb _ _ w.if-is_empty.ensures in
      simp (lt-leb 1 (length c.args.text.now) (omega arith))
  | then-is_empty-via-else-is_empty+then-text-gt5 w ↦
      simp (le-leb 1 (length c.args.text.now) (omega arith), lt-leb (length c.args.text.now) 5 (omega arith))
  | then-is_empty-via-else-is_empty+else-text-gt5+then-not-all_digits w ↦
      let e = false-eqb _ _ w.if-is_empty.ensures in
      simp (le-leb 1 (length c.args.text.now) (omega arith), le-leb _ _ w.if-text-gt5.false, sym w.if-not-all_digits.ensures)
]

pub returns : goal.returns
unfolding number_of
returns c =
    let e = false-eqb _ _ c.if-is_empty.ensures in
    simp (le-leb 1 (length c.args.text.now) (omega arith), le-leb _ _ c.if-text-gt5.false, sym c.if-not-all_digits.ensures) (ap Some c.value.ensures)
