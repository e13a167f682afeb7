-- Refusal numbers are below 256, and the positions of refused events at most 512.
use Prim.Native.Nat.{ℕ, suc, ◌+◌, min, ◌≤◌, ◌<◌}
use native.Mathlib.Omega.{arith}
use mathlib.Core.Path.{◌≡◌, refl}
use mathlib.Core.Bool.{Bool}
use mathlib.Core.List.{List, [], ◌∷◌, zip_with}
use lib.Dec.{eqb}
use lib.ListN.{length}
use borrow.Author.Tests.{eqb-true}
use Rattle.paper.specs.Buffers.{lacking}
use Rattle.paper.specs.Event.{Event}
use Rattle.paper.specs.Machine.{State, shape, answer, offered, answers}
use Rattle.paper.specs.Reading.{first_refused, begins, stamps_refused}
use Rattle.paper.specs.Refusals.{first, Refusal, of_call, ◌then◌, Checks, refusal_of}
use Rattle.paper.specs.Terms.{Terms}
use Rattle.paper.proofs.Laws.Refused.{of_first}
use Rattle.paper.proofs.Laws.Tables.{cond_cases}
use Rattle.oboefinch.specs.Packed.{refusal_fields}
use Rattle.oboefinch.proofs.Small.{Small}

pub record Mild (r : Refusal) : Type 0 where
  pub number : r.number < 256
  pub position : r.position ≤ 512

pub mild_small : (r : Refusal) → Mild r → Small (refusal_fields r)
mild_small r m = record { number = m.number; x = omega arith; y = omega (arith, m.position); z = omega arith }

-- A number c that is min 255 c.
pub capped : (t : Bool) (r k : ℕ) → min 255 (first t r k) ≡ first t (min 255 r) (min 255 k)
capped = of_first (min 255)

pub call_mild : (c : ℕ) → min 255 c ≡ c → Mild (of_call c)
call_mild c h = record { number = omega arith; position = omega arith }

pub then_mild : (r k : Refusal) → Mild r → (r.number ≡ 0 → Mild k) → Mild (r then k)
then_mild r k m h = cond_cases Mild (eqb r.number 0) k r (λ q. h (eqb-true r.number 0 q)) (λ q. m)

answer_capped : (t : Terms) (s : State) (e : Event) → min 255 (answer t s e) ≡ answer t s e
unfolding answer shape
answer_capped t s e = simp capped

-- The checks of a call, by their place.
pub checks_mild : (c : Checks) → min 255 c.early ≡ c.early → (c.early ≡ 0 → Mild c.late) → Mild (refusal_of c)
checks_mild c e l = then_mild (of_call c.early) c.late (call_mild c.early e) l

-- 9, whatever slots are asked for.
pub lacking_capped : (m : ℕ) (more : List (List ℕ)) → min 255 (lacking m more) ≡ lacking m more
unfolding lacking
lacking_capped m [] = refl
lacking_capped m (slots ∷ more) = simp (capped, lacking_capped m more)

-- Events in order, from position i on.
pub events_mild : (t : Terms) (es : List Event) (s : State) (i : ℕ) → i + length es ≤ 512 → Mild (first_refused i (answers t s es))
unfolding first_refused answers
events_mild t [] s i l = call_mild 0 refl
events_mild t (e ∷ es) s i l =
    then_mild (record { number = answer t s e; position = i }) _
    (record { number = omega (arith, answer_capped t s e); position = omega arith })
    (λ q. events_mild t es (offered t s e) (suc i) (omega arith))

-- Stamps in order, likewise.
pub stamps_mild : (ts : List (List ℕ)) (i : ℕ) (b : List ℕ) → i + length ts ≤ 512 → Mild (stamps_refused i ts b)
unfolding stamps_refused
stamps_mild [] i [] l = call_mild 0 refl
stamps_mild [] i (x ∷ b) l = call_mild 19 refl
stamps_mild (u ∷ ts) i b l =
    cond_cases Mild (begins u b) _ _ (λ q. stamps_mild ts (suc i) _ (omega arith))
    (λ q. record { number = omega arith; position = omega arith })

pub zip_few : {A B C : Type 0} (f : A → B → C) (l : List A) (m : List B) → length (zip_with f l m) ≤ length l
unfolding zip_with
zip_few f [] m = omega arith
zip_few f (x ∷ l) [] = omega arith
zip_few f (x ∷ l) (y ∷ m) = omega (arith, zip_few f l m)
