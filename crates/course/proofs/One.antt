-- The maps to the paper's outcomes are one to one: a promise in the paper's words allows one answer.
use Prim.Native.Nat.{ℕ}
use mathlib.Core.Path.{◌≡◌}
use Rattle.std.specs.Prelude.{Result}
use Rattle.clock.specs.declared.Refusal.{Refusal}
use Rattle.clock.proofs.One.{one_told}
use Rattle.course.specs.Said.{classed, judged}
use Rattle.course.specs.declared.Classed.{Classed}

pub one_classed : (r s : Result Classed Refusal) → classed r ≡ classed s → r ≡ s
one_classed r s h = one_told (λ a b e. λ i. record { accepted = (e i).accepted; carried = (e i).carried }) r s h

pub one_judged : (r s : Result ℕ Refusal) → judged r ≡ judged s → r ≡ s
one_judged r s h = one_told (λ a b e. e) r s h
