-- The map to the paper's outcomes is one to one: a promise in the paper's words allows one answer.
use Prim.Native.Nat.{ℕ}
use mathlib.Core.Path.{◌≡◌}
use Rattle.std.specs.Prelude.{Result}
use Rattle.clock.specs.declared.Refusal as declared
use Rattle.clock.proofs.One.{one_told}
use Rattle.teaching.specs.Said.{chained}

pub one_chained : (r s : Result ℕ declared.Refusal) → chained r ≡ chained s → r ≡ s
one_chained r s h = one_told (λ k l e. e) r s h
