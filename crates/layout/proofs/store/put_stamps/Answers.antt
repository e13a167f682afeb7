-- What is stored from here on completes the stamps.
use Rattle.layout.proofs.Stored.{put_more, put_nothing, put_end}
use Rattle.layout.proofs.store.put_stamps.Goals as goal

pub loop-stamp-preserved-in-Some-stamp : goal.loop-stamp-preserved-in-Some-stamp
loop-stamp-preserved-in-Some-stamp c = put_more c.loop-stamp.invariant (rw c.in-Some-stamp.is at c.in-Some.ensures.steps) c.put_stamp-to.ensures

pub loop-stamp-preserved : goal.loop-stamp-preserved
loop-stamp-preserved c = put_nothing c.loop-stamp.invariant (rw c.in_default.is at c.in-Some.ensures.steps)

pub returns : goal.returns
returns c = put_end c.loop-stamp.invariant c.in-None.ensures.steps.0
