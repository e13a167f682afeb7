-- What the page holds after writing: work buffers and page are long enough for every list, so the writer's outcome is the program's answer.
use Prim.Native.Nat.{ℕ, ◌≤◌}
use native.Mathlib.Decide.{ℕ_discrete}
use native.Mathlib.Omega.{arith}
use mathlib.Core.Bool.{false}
use mathlib.Core.List.{List, []}
use mathlib.Core.Logic.{◌≢◌}
use mathlib.Core.Path.{◌≡◌, refl, sym, ap, ◌∙◌, subst}
use lib.Dec.{ltb}
use lib.ListN.{length}
use borrow.Author.Tests.{ne_eqb, le-ltb}
use Rattle.paper.specs.Buffers.{Work, ample}
use Rattle.paper.specs.Event.{how_many}
use Rattle.paper.specs.Listing.{refusal_line}
use Rattle.paper.specs.Questions.{Written, strict_checks, writing_checks, writing}
use Rattle.std.specs.Prelude.{Ok, Err}
use Rattle.paper.specs.Refusals.{first, Refusal, of_call, Checks, refusal_of, after, Outcome, refused, done}
use Rattle.paper.specs.Sheet.{written}
use Rattle.paper.specs.Stands.{no_further}
use Rattle.paper.specs.Terms.{Terms}
use Rattle.paper.proofs.Also.{call_done, also_first, also_last}
use Rattle.paper.proofs.Laws.Refused.{is_refused, refusal_late, after_early, after_late, after_done}
use Rattle.paper.proofs.Laws.Stores.{laid_front}
use Rattle.paper.proofs.RoundTrip.{list_accepted, writing_number}
use Rattle.paper.proofs.Sheets.Checks.{placed, is_done}
use Rattle.paper.proofs.Sheets.Layout.{written_long}
use Rattle.paper.proofs.Sheets.Sizes.{stamps_short}
use Rattle.lines.specs.Text.{Printed}
use Rattle.write.specs.Answer.{write_answer}
use Rattle.write.specs.Said.{Stands}

-- A refusal leaves the output as it was.
kept : (c : Checks) (left old : List ℕ) → (refusal_of c).number ≢ 0 → after c left old old ≡ old
kept c left old h = go (ℕ_discrete c.early 0)
  where
    go : Dec (c.early ≡ 0) → after c left old old ≡ old
    go (yes e) = after_late c left old old e (λ q. h (ap (λ (r : Refusal). r.number) (refusal_late c e) ∙ q))
    go (no e) = after_early c left old old e

module _ (t : Terms) (list : List ℕ) where
  abbrev xs : List ℕ
  xs = written t list

  abbrev checks : Checks
  checks = strict_checks t list ample []

  -- No sheet is longer than 40,960 bytes.
  fits : (refusal_of checks).number ≡ 0 → length xs ≤ 40960
  fits z =
      let (m, few, size) = ((list_accepted t list ample []).0 z).0.listed.whole_records in
      omega (arith, written_long t list, stamps_short t list (omega arith))

  module _ (old : List ℕ) (long : 40960 ≤ length old) where
    -- 21 is not given: what refuses is what refuses the list.
    refused_so : (refusal_of (writing_checks t list ample old)).number ≢ 0 → ((refusal_of checks).number ≢ 0) × (refusal_of (writing_checks t list ample old) ≡ refusal_of checks)
    refused_so h = go (ℕ_discrete (refusal_of checks).number 0)
      where
        late : Refusal
        late = of_call (first (ltb (length old) (length xs)) 21 0)

        go : Dec ((refusal_of checks).number ≡ 0) → ((refusal_of checks).number ≢ 0) × (refusal_of (writing_checks t list ample old) ≡ refusal_of checks)
        go (no l) = (l, also_first checks late l)
        go (yes z) =
            let (early, events) = (placed checks).0 z in
            let roomy : ltb (length old) (length xs) ≡ false = le-ltb (length old) (length xs) (omega (arith, fits z)) in
            let none : late.number ≡ 0 = rw roomy in
            absurd (h (ap (λ (r : Refusal). r.number) (also_last checks late early events) ∙ none))

    module _ (left : Work) (new : List ℕ) where
      abbrev Ends : Type 0
      Ends = (Outcome Written × Work) × List ℕ

      pub write_refused :
          (r : Refusal) (k : ℕ) (last : List ℕ) → ((refused r, left), new) ≡ writing t list ample old → Printed new (refusal_line r) k last
          → Stands old (write_answer t list) (Err k) last
      unfolding writing write_answer
      write_refused r k last e p =
          let (z, q) = is_refused (refusal_of (writing_checks t list ample old)) _ r (ap (λ (x : Ends). x.0.0) e) in
          let (number, same) = refused_so z in
          let untouched : new ≡ old = ap (λ (x : Ends). x.1) e ∙ kept (writing_checks t list ample old) _ old z in
          let answer : refused r ≡ write_answer t list = ap refused (q ∙ same) ∙ rw (ne_eqb (refusal_of checks).number 0 number) in
          subst (λ o. Stands old o (Err k) last) answer (subst (λ (l : List ℕ). Printed l (refusal_line r) k last) untouched p)

      pub write_done :
          (x : Written) → ((done x, left), new) ≡ writing t list ample old
          → Stands old (write_answer t list) (Ok x.bytes) new
      unfolding writing write_answer
      write_done x e =
          let c = writing_checks t list ample old in
          let ((early, late), same, rest) =
          call_done c (record { events = how_many list; bytes = length xs }) x t list ample left (ap (λ (y : Ends). y.0) e) in
          let ((given, room), inside) = (writing_number t list ample old).0 ((placed c).1 (early, late)) in
          let none : (refusal_of checks).number ≡ 0 = (list_accepted t list ample []).1 (given, (room, no_further)) in
          let size : x.bytes ≡ length xs = ap (λ (y : Written). y.bytes) (sym same) in
          let answer : done xs ≡ write_answer t list = sym ((is_done (refusal_of checks) xs xs).1 (none, refl)) in
          subst (λ o. Stands old o (Ok x.bytes) new) answer
          (record {
            size = size;
            bytes = ap (λ (y : Ends). y.1) e ∙ after_done c _ old old early late ∙ sym (laid_front xs old inside);
            short = omega (arith, fits none);
          })
