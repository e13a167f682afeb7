use Rattle.std.proofs.Common.{◌≡◌}
use Rattle.paper.specs.Order.{within}
use Rattle.clock.proofs.ways.Given as goal

abbrev pub invariant-loop-k : goal.invariant-loop-k
invariant-loop-k l = (l.there ≡ within l.k l.first l.second) × (l.back ≡ within l.k l.second l.first)
