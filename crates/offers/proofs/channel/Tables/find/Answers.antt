-- The chain of sends whose numbers share their last ten bits, walked from the newest: what is looked for is below the place reached, or nowhere.
use mathlib.Core.Path.{sym, ◌∙◌}
use Rattle.offers.proofs.Columns.{message_at, next_at}
use Rattle.offers.proofs.Chains.{chasing_next, chasing_less}
use Rattle.offers.proofs.channel.Tables.find.Goals as goal

pub loop-a-smaller : goal.loop-a-smaller
loop-a-smaller c = rw (c.wide-a-in-loop-a.ensures.0, ← next_at c.args.self.now) (chasing_less c.requires.1 c.if-x-eq0.false c.loop-a.invariant c.loop-a-test.true)

pub loop-a-preserved : goal.loop-a-preserved
loop-a-preserved c =
    let t = c.args.self.now in
    rw (c.wide-a-in-loop-a.ensures.0, ← next_at t)
    (chasing_next c.requires.1 c.if-x-eq0.false c.loop-a.invariant c.loop-a-test.true (λ q. c.if-self-a.false (sym (message_at t _) ∙ q)))
