-- Comparing two lent clocks: the second length need not be looked at, since it is to equal the first.
use Prim.Native.Nat.{ℕ}
use mathlib.Core.Path.{◌≡◌, refl, sym, ap, ◌∙◌}
use mathlib.Core.Bool.{Bool, true, false, cond, ◌&&◌, ◌||◌, not}
use mathlib.Core.List.{List}
use lib.Dec.{eqb}
use lib.ListN.{length}
use borrow.Author.Tests.{eqb-true, not-false}
use Rattle.paper.specs.Order.{within}
use Rattle.paper.specs.Questions.{ordering}
use Rattle.paper.specs.Terms.{wrong_count}
use Rattle.paper.specs.Refusals.{of_call, refused, done}
use Rattle.paper.proofs.Laws.Verdict.{verdict_within}

-- The test of the code.
abbrev pub unfit : ℕ → ℕ → Bool
unfit a b = wrong_count a || not (eqb a b)

or_self : (x : Bool) → (x || x || false) ≡ (x || false)
or_self true = refl
or_self false = refl

pub or_true : (b : Bool) → (b || true) ≡ true
or_true true = refl
or_true false = refl

same_test : (a b : ℕ) → (wrong_count a || wrong_count b || not (eqb a b)) ≡ unfit a b
same_test a b = go (eqb a b) refl
  where
    go : (t : Bool) → eqb a b ≡ t → (wrong_count a || wrong_count b || not t) ≡ (wrong_count a || not t)
    go true e = ap (λ c. wrong_count a || wrong_count c || false) (sym (eqb-true a b e)) ∙ or_self (wrong_count a)
    go false e = or_true (wrong_count a || wrong_count b) ∙ sym (or_true (wrong_count a))

module _ (v w : List ℕ) where
  pub ordering_refused : unfit (length v) (length w) ≡ true → refused (of_call 4) ≡ ordering v w
  unfolding ordering
  ordering_refused h = rw (same_test (length v) (length w), h)

  pub ordering_judged :
      (there back : Bool) → unfit (length v) (length w) ≡ false → there ≡ within (length v) v w → back ≡ within (length v) w v
      → done (cond (there && not back) 1 (cond (back && not there) 2 (cond (there && back) 4 3))) ≡ ordering v w
  unfolding ordering
  ordering_judged there back h p q = rw (same_test (length v) (length w), h, verdict_within (length v) v w, p, q)

or_last : (x y : Bool) → (x || y) ≡ false → y ≡ false
or_last true y h = absurd (mathlib.Core.Bool.true≢false h)
or_last false y h = h

pub same_length : (a b : ℕ) → unfit a b ≡ false → a ≡ b
same_length a b h = eqb-true a b (not-false (eqb a b) (or_last (wrong_count a) (not (eqb a b)) h))
