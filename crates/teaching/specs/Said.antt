-- The paper's outcome for each case of what is answered here.
use Rattle.std.specs.Prelude.{ℕ, Result}
use Rattle.clock.specs.Said.{told}
use Rattle.clock.specs.declared.Refusal as declared
use Rattle.paper.specs.Refusals.{Outcome}

abbrev pub chained : Result ℕ declared.Refusal → Outcome ℕ
chained r = told (λ k. k) r
