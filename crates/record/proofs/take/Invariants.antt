use Rattle.record.proofs.Taking.{Taken}
use Rattle.record.proofs.take.Given as goal

abbrev pub invariant-loop-k : goal.invariant-loop-k
invariant-loop-k l = Taken l.own l.mask l.values l.at l.initial.running l.k-iterator.0 l.next l.running
