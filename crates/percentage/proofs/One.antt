-- The maps to the paper's outcomes are one to one: a promise in the paper's words allows one answer.
use Prim.Native.Nat.{ℕ}
use native.Mathlib.Omega.{arith}
use mathlib.Core.Path.{◌≡◌, refl, ap}
use Rattle.std.specs.Prelude.{Float, Option, None, Some, Result}
use Rattle.clock.specs.declared.Refusal.{Refusal}
use Rattle.clock.proofs.One.{one_told}
use Rattle.percentage.specs.Said.{counts, counted, saving, saved}
use Rattle.percentage.specs.declared.Counts as declared

pub one_counts : (c d : declared.Counts) → counts c ≡ counts d → c ≡ d
one_counts c d h = λ i. record { processes = (h i).processes; events = (h i).events; sends = (h i).sends; carried = (h i).carried }

pub one_counted : (r s : Result declared.Counts Refusal) → counted r ≡ counted s → r ≡ s
one_counted r s h = one_told one_counts r s h

pub one_saving : (r s : Option Float) → saving r ≡ saving s → r ≡ s
one_saving None None h = refl
one_saving (Some x) (Some y) h = ap Some cc
one_saving None (Some y) h = let z : ◌≡◌ {A = ℕ} 0 1 = cc in absurd (omega arith)
one_saving (Some x) None h = let z : ◌≡◌ {A = ℕ} 0 1 = cc in absurd (omega arith)

pub one_saved : (r s : Result (Option Float) Refusal) → saved r ≡ saved s → r ≡ s
one_saved r s h = one_told one_saving r s h
