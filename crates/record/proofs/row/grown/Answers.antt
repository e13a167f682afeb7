-- The mask of what grew: at the end of the loop all components are passed.
use mathlib.Core.Path.{◌≡◌}
use native.Mathlib.Omega.{arith}
use Rattle.record.proofs.row.grown.Goals as goal

pub returns : goal.returns
returns c = let e : c.loop-k.k ≡ 32 = omega arith in rw (← e) c.loop-k.invariant
