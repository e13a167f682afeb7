-- The paper's outcome for each case of what is answered here.
use Rattle.std.specs.Prelude.{ℕ, Result}
use Rattle.clock.specs.Said.{told, number}
use Rattle.clock.specs.declared.Refusal as declared
use Rattle.clock.specs.declared.Verdict.{Verdict}
use Rattle.paper.specs.Refusals.{Outcome}

abbrev pub compared : Result Verdict declared.Refusal → Outcome ℕ
compared r = told number r
