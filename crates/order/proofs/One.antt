-- The map to the paper's outcomes is one to one: a promise in the paper's words allows one answer.
use mathlib.Core.Path.{◌≡◌}
use Rattle.std.specs.Prelude.{Result}
use Rattle.clock.specs.declared.Refusal as declared
use Rattle.clock.specs.declared.Verdict.{Verdict}
use Rattle.clock.proofs.One.{one_told, one_number}
use Rattle.order.specs.Said.{compared}

pub one_compared : (r s : Result Verdict declared.Refusal) → compared r ≡ compared s → r ≡ s
one_compared r s h = one_told one_number r s h
