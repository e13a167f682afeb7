-- From what the called function gave, in the paper's words, to the number and what is lent.
use mathlib.Core.Path.{◌≡◌, refl, sym, ap, subst, ◌∙◌}
use Prim.Native.Nat.{ℕ}
use Rattle.std.specs.Prelude.{Result, Ok, Err}
use Rattle.clock.specs.Said.{told}
use Rattle.clock.specs.declared.Refusal as declared
use Rattle.paper.specs.Buffers.{Work}
use Rattle.paper.specs.Refusals.{Outcome}
use Rattle.oboefinch.specs.Packed.{Fields, Small, packed, fields, answered, with_work, with_output}

-- The fields x are those of what was given, p.
pub record Tells {A : Type 0} (told : A → Fields) (x : Fields) (p : Outcome A) : Type 0 where
  pub is : x ≡ fields told p

-- f is the paper's word for the good case, g has the fields of that.
pub tells : {A B : Type 0} (f : A → B) (g : B → Fields) (r : Result A declared.Refusal) → Tells g (fields (λ x. g (f x)) (told (λ x. x) r)) (told f r)
tells f g (Ok x) = record { is = refl }
tells f g (Err e) = record { is = refl }

module _ {A : Type 0} {g : A → Fields} {x : Fields} {p : Outcome A} (t : Tells g x p) where
  pub small_alone : {o : Outcome A} → p ≡ o → Small (fields g o) → Small x
  small_alone e s = subst Small (sym (t.is ∙ ap (fields g) e)) s

  as_given : {k : ℕ} → k ≡ packed x → k ≡ answered g p
  as_given h = h ∙ ap packed t.is

  module _ {w : Work} {o : Outcome A × Work} (e : (p, w) ≡ o) where
    pub small_work : Small (fields g o.0) → Small x
    small_work s = small_alone (ap (λ (q : Outcome A × Work). q.0) e) s

    pub answer_work : {k : ℕ} → k ≡ packed x → (k, w) ≡ with_work g o
    answer_work h = ap (λ (j : ℕ). (j, w)) (as_given h) ∙ ap (with_work g) e

  module _ {B : Type 0} {w : Work} {out : B} {o : (Outcome A × Work) × B} (e : ((p, w), out) ≡ o) where
    pub small_output : Small (fields g o.0.0) → Small x
    small_output s = small_alone (ap (λ (q : (Outcome A × Work) × B). q.0.0) e) s

    pub answer_output : {k : ℕ} → k ≡ packed x → ((k, w), out) ≡ with_output g o
    answer_output h = ap (λ (j : ℕ). ((j, w), out)) (as_given h) ∙ ap (with_output g) e

  module _ {B C : Type 0} {w : Work} {out : B} {further : C} {o : (Outcome A × Work) × B × C} (e : ((p, w), out, further) ≡ o) where
    pub small_two : Small (fields g o.0.0) → Small x
    small_two s = small_alone (ap (λ (q : (Outcome A × Work) × B × C). q.0.0) e) s
