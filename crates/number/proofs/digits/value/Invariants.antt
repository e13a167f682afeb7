use Rattle.number.proofs.Walks.{Made}
use Rattle.number.proofs.digits.value.Given as goal

abbrev pub invariant-loop-b : goal.invariant-loop-b
invariant-loop-b l = Made l.s l.v l.b-index
