-- The loop has counted the sends of the first i events.
use Rattle.std.proofs.Common.{arith}
use Rattle.percentage.specs.Slots.{is_send_at}
use Rattle.percentage.proofs.Sends.{none_sent, one_at_most, sent_more}
use Rattle.percentage.proofs.sends_in.Goals as goal

pub loop-i-init : goal.loop-i-init
loop-i-init c = (none_sent c.args.list.now, omega arith)

pub loop-i-preserved : goal.loop-i-preserved
loop-i-preserved c =
    let l = c.loop-i in
    let f = rw c.kind_at.ensures at c.from-sends.ensures in
    (sent_more c.args.list.now l.i l.sends _ l.invariant.0 f, omega (arith, l.invariant.1, one_at_most (is_send_at c.args.list.now l.i), f))
