use native.Mathlib.Omega.{arith}
use borrow.Author.Tests.{le-leb, lt-leb}
use lib.ListN.{length}
use Rattle.lines.specs.Marker.{marker_text}
use Rattle.octets.proofs.Appended.{join, same}
use Rattle.lines.proofs.Laws.{printed, unprinted}
use Rattle.lines.proofs.MarkerLines.{first_marks}
use Rattle.lines.proofs.marker_text.Goals as goal
use Rattle.lines.proofs.marker_text.Goals.{then-len-gt200-via-then-len-gt200, then-len-gt200-via-else-len-gt200+then-marks-len}

pub returns-then-len-gt200 : goal.returns-then-len-gt200
unfolding marker_text
returns-then-len-gt200 c = elim c.then-len-gt200.branch [
  | then-len-gt200-via-then-len-gt200 w ↦ simp (lt-leb c.args.len 200 (omega arith)) (unprinted _)
  | then-len-gt200-via-else-len-gt200+then-marks-len w ↦
      simp (le-leb c.args.len 200 (omega arith), lt-leb c.args.len (length c.args.marks.now) (omega arith)) (unprinted _)
]

pub returns : goal.returns
unfolding marker_text
returns c =
    let a = c.put_marks-at.ensures in
    let b = c.put_total.ensures in
    simp (le-leb _ _ c.if-len-gt200.false, le-leb _ _ c.if-marks-len.false) (printed (join (same (first_marks _ _ c.if-marks-len.false) a.0) b.0) (omega (arith, a.1, b.1)))
