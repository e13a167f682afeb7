-- `as_in_reading`, `as_on_the_course`: what reading, or the strict course, refuses, every call that builds on it refuses alike. Their checks are those of the
-- first, and then more (`also_refused`).
use Prim.Native.Nat.{ℕ}
use mathlib.Core.Path.{◌≡◌, sym, ap}
use mathlib.Core.List.{List, []}
use borrow.Author.Tests.{ne_eqb}
use Rattle.paper.specs.Buffers.{Work, call}
use Rattle.paper.specs.Claims.AsInReading.{AsInReading, AsOnTheCourse}
use Rattle.paper.specs.Marking.{marking}
use Rattle.paper.specs.Questions.{strict_checks, strict, writing, comparing, chaining, comparing_sheet, chaining_sheet}
use Rattle.paper.specs.Reading.{reading_checks, reading}
use Rattle.paper.specs.Refusals.{Refusal, Checks, refusal_of, ◌also◌, after, Outcome, refused, outcome}
use Rattle.paper.specs.Savings.{tallying, savings, storing}
use Rattle.paper.specs.Sheet.{terms_in, list_in}
use Rattle.paper.specs.Terms.{Terms}
use Rattle.paper.proofs.Also.{also_refused}
use Rattle.paper.proofs.Laws.Refused.{is_refused}

module _ {A : Type 0} (c : Checks) (a : A) (t : Terms) (list : List ℕ) (w : Work) {r : Refusal} {v : Work} (h : call c a t list w ≡ (refused r, v)) where
  -- The same checks with another answer.
  other : {B : Type 0} (b : B) → call c b t list w ≡ (refused r, v)
  other b =
      let (z, same) = is_refused (refusal_of c) a r (sym (ap (λ (p : Outcome A × Work). p.0) h)) in
      let q : outcome (refusal_of c) b ≡ refused r = rw (ne_eqb (refusal_of c).number 0 z) (ap refused (sym same)) in
      λ i. (q i, (h i).1)

  -- One more check, or two, and an output.
  once : {B C : Type 0} (k : Refusal) (b : B) (left out : C) → ◌≡◌ {A = (Outcome B × Work) × C} (call (c also k) b t list w, after (c also k) left out out) ((refused r, v), out)
  once k b left out = sym (also_refused c k a b t list w left out r v (sym h))

  twice :
      {B C : Type 0} (k l : Refusal) (b : B) (left out : C)
      → ◌≡◌ {A = (Outcome B × Work) × C} (call (c also k also l) b t list w, after (c also k also l) left out out) ((refused r, v), out)
  twice {B} {C} k l b left out =
      sym (also_refused (c also k) l b b t list w left out r v (sym (ap (λ (p : (Outcome B × Work) × C). p.0) (once k b left out))))

module _ (w : Work) (r : Refusal) (v : Work) where
  pub as_in_reading : (b : List ℕ) → reading b w ≡ (refused r, v) → AsInReading b w r v
  unfolding reading comparing_sheet chaining_sheet marking tallying savings storing
  as_in_reading b h =
      let c = reading_checks b w [] in
      let t = terms_in b in
      let list = list_in b in
      record {
        compared = λ i j. ap (λ (p : (Outcome ℕ × Work) × List ℕ). p.0) (once c _ t list w h _ _ [] []);
        chained = λ i j out. twice c _ t list w h _ _ _ _ out;
        marked = λ lines out e. rw e (once c _ t list w h _ _ _ out);
        tallied = other c _ t list w h _;
        saved = other c _ t list w h _;
        stored = λ out. once c _ t list w h _ _ _ out;
      }

  pub as_on_the_course : (t : Terms) (list : List ℕ) → strict t list w ≡ (refused r, v) → AsOnTheCourse t list w r v
  unfolding strict writing comparing chaining
  as_on_the_course t list h =
      let c = strict_checks t list w [] in
      record {
        written = λ out. once c _ t list w h _ _ _ out;
        compared = λ i j. ap (λ (p : (Outcome ℕ × Work) × List ℕ). p.0) (once c _ t list w h _ _ [] []);
        chained = λ i j out. twice c _ t list w h _ _ _ _ out;
      }
