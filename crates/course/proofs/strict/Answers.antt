-- The strict course with 512 slots of its own for Lamport numbers, which say nothing in the answer.
use mathlib.Core.Path.{ap, ◌∙◌}
use Prim.Native.Nat.{ℕ}
use lib.ListN.{length-replicate}
use native.Mathlib.Omega.{arith}
use Rattle.paper.proofs.Ample.{strict_unasked}
use Rattle.course.proofs.strict.Goals as goal

pub returns : goal.returns
returns c = ap (λ p. p.0) c.strict_lamport.ensures ∙ strict_unasked _ (omega (arith, length-replicate {A = ℕ} 512 0)) _ _ _
