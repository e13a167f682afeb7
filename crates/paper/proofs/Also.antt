-- One more check behind all others: what refuses a call refuses it still and leaves the same; else the check refuses and clears, or the call is done.
use Prim.Native.Nat.{ℕ}
use native.Mathlib.Decide.{ℕ_discrete}
use mathlib.Core.Path.{◌≡◌, sym, ap, ◌∙◌}
use mathlib.Core.Logic.{◌≢◌}
use mathlib.Core.List.{List}
use borrow.Author.Tests.{eq-eqb, ne_eqb}
use Rattle.paper.specs.Buffers.{Work, filled, cleared, call}
use Rattle.paper.specs.Event.{how_many}
use Rattle.paper.specs.Machine.{accepted_of}
use Rattle.paper.specs.Refusals.{Refusal, of_call, Checks, refusal_of, ◌also◌, after, Outcome, refused, done}
use Rattle.paper.specs.Terms.{Terms}
use Rattle.paper.proofs.Laws.Refused.{is_refused, refusal_early, refusal_late, after_early, after_late, after_done}
use Rattle.paper.proofs.Sheets.Checks.{placed, is_done}

-- What a call that was done left behind.
pub call_done :
    {A : Type 0} (c : Checks) (a x : A) (t : Terms) (list : List ℕ) (w w' : Work) → (done x, w') ≡ call c a t list w
    → ((c.early ≡ 0) × (c.late.number ≡ 0)) × (a ≡ x) × (w' ≡ filled t (how_many list) (accepted_of t list) w)
call_done {A} c a x t list w w' h =
    let (z, same) = (is_done (refusal_of c) a x).0 (sym (ap (λ (p : Outcome A × Work). p.0) h)) in
    let (early, late) = (placed c).0 z in
    ((early, late), same, ap (λ (p : Outcome A × Work). p.1) h ∙ after_done c _ _ w early late)

-- What a lent thing is after one more check, by what the others gave.
module _ {A : Type 0} (c : Checks) (k : Refusal) (left cleared old : A) where
  pub also_kept : (left₁ : A) → (refusal_of c).number ≢ 0 → after (c also k) left cleared old ≡ after c left₁ cleared old
  also_kept left₁ h = go (ℕ_discrete c.early 0)
    where
      go : Dec (c.early ≡ 0) → after (c also k) left cleared old ≡ after c left₁ cleared old
      go (yes e) =
          let l : c.late.number ≢ 0 = λ q. h (ap (λ (r : Refusal). r.number) (refusal_late c e) ∙ q) in
          rw (eq-eqb c.early 0 e, ne_eqb c.late.number 0 l, ne_eqb c.late.number 0 l)
      go (no e) = rw (ne_eqb c.early 0 e)

  module _ (early : c.early ≡ 0) (late : c.late.number ≡ 0) where
    pub also_cleared : k.number ≢ 0 → after (c also k) left cleared old ≡ cleared
    also_cleared h = rw (eq-eqb c.early 0 early, eq-eqb c.late.number 0 late, ne_eqb k.number 0 h)

    pub also_left : k.number ≡ 0 → after (c also k) left cleared old ≡ left
    also_left h = rw (eq-eqb c.early 0 early, eq-eqb c.late.number 0 late, eq-eqb k.number 0 h)

-- What refuses.
module _ (c : Checks) (k : Refusal) where
  pub also_first : (refusal_of c).number ≢ 0 → refusal_of (c also k) ≡ refusal_of c
  also_first h = go (ℕ_discrete c.early 0)
    where
      go : Dec (c.early ≡ 0) → refusal_of (c also k) ≡ refusal_of c
      go (yes e) =
          let l : c.late.number ≢ 0 = λ q. h (ap (λ (r : Refusal). r.number) (refusal_late c e) ∙ q) in
          rw (eq-eqb c.early 0 e, ne_eqb c.late.number 0 l)
      go (no e) = rw (ne_eqb c.early 0 e)

  pub also_last : c.early ≡ 0 → c.late.number ≡ 0 → refusal_of (c also k) ≡ k
  also_last early late = rw (eq-eqb c.early 0 early, eq-eqb c.late.number 0 late)

module _ {A B C : Type 0} (c : Checks) (k : Refusal) (a : A) (b : B) (t : Terms) (list : List ℕ) (w : Work) (left out : C) where
  -- What a call leaves that also writes an output, `left` where nothing refuses.
  abbrev Ends : Type 0
  Ends = (Outcome B × Work) × C

  pub also_refused :
      (given : Refusal) (w' : Work) → (refused given, w') ≡ call c a t list w
      → ◌≡◌ {A = Ends} ((refused given, w'), out) (call (c also k) b t list w, after (c also k) left out out)
  also_refused given w' h = go (ℕ_discrete c.early 0)
    where
      x : w' ≡ after c (filled t (how_many list) (accepted_of t list) w) (cleared t (how_many list) w) w
      x = ap (λ (p : Outcome A × Work). p.1) h

      z : ((refusal_of c).number ≢ 0) × (given ≡ refusal_of c)
      z = is_refused (refusal_of c) a given (ap (λ (p : Outcome A × Work). p.0) h)

      go : Dec (c.early ≡ 0) → ◌≡◌ {A = Ends} ((refused given, w'), out) (call (c also k) b t list w, after (c also k) left out out)
      go (yes e) =
          let l : c.late.number ≢ 0 = λ q. z.0 (ap (λ (r : Refusal). r.number) (refusal_late c e) ∙ q) in
          let g : given ≡ c.late = z.1 ∙ refusal_late c e in
          let y : w' ≡ cleared t (how_many list) w = x ∙ after_late c _ _ w e l in
          rw (eq-eqb c.early 0 e, ne_eqb c.late.number 0 l, ne_eqb c.late.number 0 l) (λ i. ((refused (g i), y i), out))
      go (no e) =
          let g : given ≡ of_call c.early = z.1 ∙ refusal_early c e in
          let y : w' ≡ w = x ∙ after_early c _ _ w e in
          rw (ne_eqb c.early 0 e, ne_eqb c.early 0 e) (λ i. ((refused (g i), y i), out))

  module _ (early : c.early ≡ 0) (late : c.late.number ≡ 0) where
    pub also_late :
        k.number ≢ 0
        → ◌≡◌ {A = Ends} (call (c also k) b t list w, after (c also k) left out out) ((refused k, cleared t (how_many list) w), out)
    also_late h = rw (eq-eqb c.early 0 early, eq-eqb c.late.number 0 late, ne_eqb k.number 0 h)

    pub also_done :
        k.number ≡ 0
        → ◌≡◌ {A = Ends} (call (c also k) b t list w, after (c also k) left out out) ((done b, filled t (how_many list) (accepted_of t list) w), left)
    also_done h = rw (eq-eqb c.early 0 early, eq-eqb c.late.number 0 late, eq-eqb k.number 0 h)
