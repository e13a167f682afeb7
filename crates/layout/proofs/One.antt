-- The maps to the paper's outcomes are one to one: a promise in the paper's words allows one answer.
use mathlib.Core.Path.{◌≡◌}
use Rattle.std.specs.Prelude.{Result}
use Rattle.clock.specs.declared.Refusal.{Refusal}
use Rattle.clock.proofs.One.{one_told}
use Rattle.layout.specs.Said.{wrote}
use Rattle.layout.specs.declared.Written as declared

pub one_wrote : (r s : Result declared.Written Refusal) → wrote r ≡ wrote s → r ≡ s
one_wrote r s h = one_told (λ v w e. λ i. record { events = (e i).events; bytes = (e i).bytes }) r s h
