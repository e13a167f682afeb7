use native.Mathlib.Omega.{arith}
use Rattle.lines.specs.Marker.{mark_line}
use Rattle.lines.proofs.Laws.{lined_none, lined_more}
use Rattle.lines.proofs.marker.put_marks.Goals as goal

pub loop-j-init : goal.loop-j-init
loop-j-init c = lined_none _ _ _ (omega arith) (omega arith)

pub loop-j-preserved : goal.loop-j-preserved
unfolding mark_line
loop-j-preserved c = let p = c.put_mark-end.ensures in lined_more _ c.loop-j.invariant p.0 p.1
