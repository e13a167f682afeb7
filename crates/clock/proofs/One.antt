-- The maps to the paper's words are one to one: equal numbers and values mean equal answers, so that a promise in those words allows one answer.
use native.Mathlib.Omega.{arith}
use mathlib.Core.Path.{◌≡◌, refl, sym, ap}
use Rattle.std.specs.Prelude.{Result, Ok, Err}
use Rattle.clock.specs.Said.{stated, refusal, number, told, ordered}
use Rattle.clock.specs.declared.Refusal as declared
use Rattle.clock.specs.declared.Terms as declared_terms
use Rattle.clock.specs.declared.Verdict.{Verdict}
use Rattle.clock.specs.declared.Verdict.TheVariants.{Before, After, Neither, Same}
use Rattle.paper.specs.Refusals.{Refusal}
use Rattle.paper.proofs.OneOutcome.{same_refused, same_done, not_both}

pub one_refusal : (r s : declared.Refusal) → refusal r ≡ refusal s → r ≡ s
one_refusal r s h =
    let n = ap (λ (x : Refusal). x.number) h in
    let p = ap (λ (x : Refusal). x.position) h in
    λ i. record { number = n i; position = record { 0 = p i } }

pub one_stated : (t u : declared_terms.Terms) → stated t ≡ stated u → t ≡ u
one_stated t u h = λ i. record { version = (h i).version; processes = (h i).processes; present = (h i).present }

pub one_number : (v w : Verdict) → number v ≡ number w → v ≡ w
one_number Before Before h = refl
one_number Before After h = absurd (omega arith)
one_number Before Neither h = absurd (omega arith)
one_number Before Same h = absurd (omega arith)
one_number After Before h = absurd (omega arith)
one_number After After h = refl
one_number After Neither h = absurd (omega arith)
one_number After Same h = absurd (omega arith)
one_number Neither Before h = absurd (omega arith)
one_number Neither After h = absurd (omega arith)
one_number Neither Neither h = refl
one_number Neither Same h = absurd (omega arith)
one_number Same Before h = absurd (omega arith)
one_number Same After h = absurd (omega arith)
one_number Same Neither h = absurd (omega arith)
one_number Same Same h = refl

pub one_told :
    {A B : Type 0} {f : A → B} → ((a b : A) → f a ≡ f b → a ≡ b) → (r s : Result A declared.Refusal) → told f r ≡ told f s → r ≡ s
one_told one (Err r) (Err s) h = ap Err (one_refusal r s (same_refused h))
one_told one (Ok a) (Ok b) h = ap Ok (one a b (same_done h))
one_told one (Err r) (Ok b) h = absurd (not_both h)
one_told one (Ok a) (Err s) h = absurd (not_both (sym h))

pub one_ordered : (r s : Result Verdict declared.Refusal) → ordered r ≡ ordered s → r ≡ s
one_ordered r s h = one_told one_number r s h
