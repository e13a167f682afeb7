use Rattle.offers.specs.Tables.{tables}
use Rattle.offers.proofs.Chains.{Chasing}
use Rattle.offers.proofs.channel.Tables.find.Given as goal

abbrev pub invariant-loop-a : goal.invariant-loop-a
invariant-loop-a l = Chasing (tables l.self).message l.k l.x.0 l.a

abbrev pub decreases-loop-a : goal.decreases-loop-a
decreases-loop-a l = l.a
