-- The checks of a cascade told apart by their numbers: which check gives a number, and that the others do not.
use Prim.Native.Nat.{ℕ}
use mathlib.Core.Path.{◌≡◌, refl, sym, ap}
use mathlib.Core.Logic.{◌↔◌, ◌≢◌}
use mathlib.Core.Bool.{Bool, true, false, cond, false≢true}
use native.Mathlib.Omega.{arith}
use lib.Dec.{eqb}
use borrow.Author.Tests.{eqb-true, eqb-false}
use Rattle.paper.specs.Refusals.{first, Refusal, of_call, ◌then◌, Checks, refusal_of, ◌also◌, refused, done, outcome}

-- It is this check.
pub this : {P : Type 0} (t : Bool) (r k : ℕ) → k ≢ r → (t ≡ true) ↔ P → (first t r k ≡ r) ↔ P
this true r k h p = (λ e. p.0 refl, λ e. refl)
this false r k h p = (λ e. absurd (h e), λ e. absurd (false≢true (p.1 e)))

-- It is a later one.
pub later : {P Q : Type 0} (t : Bool) (r k x : ℕ) → r ≢ x → (t ≡ false) ↔ P → (k ≡ x) ↔ Q → (first t r k ≡ x) ↔ (P × Q)
later true r k x h p q = (λ e. absurd (h e), λ e. absurd (false≢true (sym (p.1 e.0))))
later false r k x h p q = (λ e. (p.0 refl, q.0 e), λ e. q.1 e.1)

-- It is neither this nor a later one.
pub neither : (t : Bool) (r k x : ℕ) → r ≢ x → k ≢ x → first t r k ≢ x
neither true r k x h i = h
neither false r k x h i = i

-- What a check that does not hold says, denied.
pub fails : {P : Type 0} (t : Bool) → (t ≡ false) ↔ P → (t ≡ true) ↔ (P → ⊥)
fails true p = (λ e x. false≢true (sym (p.1 x)), λ f. refl)
fails false p = (λ e. absurd (false≢true e), λ f. absurd (f (p.0 refl)))

-- A call is refused with x exactly when that is what refuses it.
pub is_refused : {A : Type 0} (r x : Refusal) (a : A) → x.number ≢ 0 → (outcome r a ≡ refused x) ↔ (r ≡ x)
is_refused {A} r x a z = go (eqb r.number 0) refl
  where
    go : (b : Bool) → eqb r.number 0 ≡ b → (cond b (done a) (refused r) ≡ refused x) ↔ (r ≡ x)
    go true e = (λ q. let w : ◌≡◌ {A = ℕ} 0 1 = cc in absurd (omega arith), λ q. absurd (z (rw q at (eqb-true r.number 0 e))))
    go false e = (λ q. cc, λ q. ap refused q)

-- The second of two refusals.
pub then_is : (r k x : Refusal) → r.number ≢ x.number → x.number ≢ 0 → (r then k ≡ x) ↔ ((r.number ≡ 0) × (k ≡ x))
then_is r k x d z = go (eqb r.number 0) refl
  where
    go : (b : Bool) → eqb r.number 0 ≡ b → (cond b k r ≡ x) ↔ ((r.number ≡ 0) × (k ≡ x))
    go true e = (λ q. (eqb-true r.number 0 e, q), λ h. h.1)
    go false e = (λ q. absurd (d (ap (λ (y : Refusal). y.number) q)), λ h. absurd (eqb-false r.number 0 e h.0))

-- One more check, behind all others.
pub also_behind : (c : Checks) (r : Refusal) → refusal_of (c also r) ≡ (refusal_of c then r)
also_behind c r = go (eqb c.early 0) refl
  where
    go : (b : Bool) → eqb c.early 0 ≡ b → cond b (c.late then r) (of_call c.early) ≡ (cond b c.late (of_call c.early) then r)
    go true e = refl
    go false e = rw e
