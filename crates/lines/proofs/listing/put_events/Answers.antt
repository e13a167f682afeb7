use native.Mathlib.Omega.{arith}
use Rattle.lines.proofs.Laws.{lined_none, lined_more}
use Rattle.lines.proofs.listing.put_events.Goals as goal

pub loop-i-init : goal.loop-i-init
loop-i-init c = lined_none _ _ _ (omega arith) (omega arith)

pub loop-i-preserved : goal.loop-i-preserved
loop-i-preserved c = let p = c.put_event-end.ensures in lined_more _ c.loop-i.invariant p.0 p.1
