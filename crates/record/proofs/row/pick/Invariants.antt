use Rattle.record.proofs.Picking.{Picked}
use Rattle.record.proofs.row.pick.Given as goal

abbrev pub invariant-loop-k : goal.invariant-loop-k
invariant-loop-k l = Picked l.mask l.clock l.initial.out l.at l.k-iterator.0 l.c l.out
