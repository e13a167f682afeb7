-- Class mode with 512 slots of its own for Lamport numbers, which say nothing in the answer.
use mathlib.Core.Path.{ap, ◌∙◌}
use Prim.Native.Nat.{ℕ}
use lib.ListN.{length-replicate}
use native.Mathlib.Omega.{arith}
use Rattle.paper.proofs.Ample.{class_unasked}
use Rattle.course.proofs.class.Goals as goal

pub returns : goal.returns
returns c = ap (λ p. (p.0, p.1)) c.class_lamport.ensures ∙ class_unasked _ (omega (arith, length-replicate {A = ℕ} 512 0)) _ _ _ _
