use native.Mathlib.Omega.{arith}
use Rattle.number.proofs.Walks.{made_fits}
use Rattle.number.proofs.digits.value.Goals as goal

pub overflow_mul-v : goal.overflow_mul-v
overflow_mul-v c = omega (arith, made_fits c.loop-b.invariant c.loop-b-test.true c.requires)
