-- `never_short`: no call refuses with 9 or 21 where it is lent ample slots and an output of the size that a program lends, for every input.
-- The other checks have other numbers; these two never hold, for past the checks before them there are at most 32 processes and 512 events.
use Prim.Native.Nat.{ℕ, suc, ◌%◌, ◌≤◌}
use native.Mathlib.Omega.{arith}
use mathlib.Core.Bool.{Bool, true, false, cond, ◌||◌, not}
use mathlib.Core.List.{List, [], ◌∷◌}
use mathlib.Core.Path.{◌≡◌, refl, sym, ap, ◌∙◌, subst}
use lib.Dec.{eqb, ltb}
use lib.ListN.{length, drop}
use borrow.Author.Tests.{eqb-true, le-ltb}
use Rattle.paper.specs.Buffers.{ample, lacking, nine}
use Rattle.paper.specs.Claims.NeverShort.{Other, NeverShort}
use Rattle.paper.specs.Class.{list_checks, class_checks, class}
use Rattle.paper.specs.Event.{Event, how_many, events_of}
use Rattle.paper.specs.Machine.{State, start, offered, shape, answer, answers, answers_of, accepted_of}
use Rattle.paper.specs.Marking.{line_count, wrong_lines, marking_checks, marking}
use Rattle.paper.specs.Questions.{writing_checks, writing, asked, comparing_sheet, chained, chain_slots, chaining_sheet}
use Rattle.paper.specs.Reading.{header_checks, first_refused, begins, stamps_refused, reading_checks, reading}
use Rattle.paper.specs.Refusals.{first, Refusal, of_call, ◌then◌, Checks, refusal_of, refused, outcome}
use Rattle.paper.specs.Savings.{tallying}
use Rattle.paper.specs.Sheet.{processes_in, terms_in, list_in, stamps_in, pieces, written}
use Rattle.paper.specs.Terms.{Terms}
use Rattle.paper.proofs.Ample.{list_then, header_then, list_brief, sheet_brief, roomy_ample, reading_unasked}
use Rattle.paper.proofs.Laws.Refused.{of_first, is_refused}
use Rattle.paper.proofs.Laws.Tables.{cond_cases}
use Rattle.paper.proofs.ReadExactly.{early_says}
use Rattle.paper.proofs.Sheets.Checks.{neither, equal, not_below, in_order, list_passed}
use Rattle.paper.proofs.Sheets.Layout.{written_long}
use Rattle.paper.proofs.Sheets.Sizes.{stamps_short}

-- A number of such checks is kept by what puts 0 for the two numbers.
abbrev kept : ℕ → ℕ
kept c = cond (eqb c 9 || eqb c 21) 0 c

is_other : (c : ℕ) → kept c ≡ c → Other c
is_other c h = (
  λ e. let z : ◌≡◌ {A = ℕ} 0 9 = subst (λ (x : ℕ). kept x ≡ x) e h in omega arith,
  λ e. let z : ◌≡◌ {A = ℕ} 0 21 = subst (λ (x : ℕ). kept x ≡ x) e h in omega arith,
)

none : Other 0
none = (λ e. omega arith, λ e. omega arith)

then_later : (r k : Refusal) → Other r.number → (r.number ≡ 0 → Other k.number) → Other (r then k).number
then_later r k p q = cond_cases (λ (x : Refusal). Other x.number) (eqb r.number 0) k r (λ e. q (eqb-true r.number 0 e)) (λ e. p)

then_other : (r k : Refusal) → Other r.number → Other k.number → Other (r then k).number
then_other r k p q = then_later r k p (λ z. q)

answer_other : (t : Terms) (s : State) (e : Event) → Other (answer t s e)
unfolding answer shape
answer_other t s e = is_other _ (simp (of_first kept))

events_other : (es : List Event) (t : Terms) (s : State) (i : ℕ) → Other (first_refused i (answers t s es)).number
unfolding first_refused answers
events_other [] t s i = none
events_other (e ∷ es) t s i =
    then_other (record { number = answer t s e; position = i }) (first_refused (suc i) (answers t (offered t s e) es))
    (answer_other t s e) (events_other es t (offered t s e) (suc i))

stamps_other : (ts : List (List ℕ)) (i : ℕ) (b : List ℕ) → Other (stamps_refused i ts b).number
unfolding stamps_refused
stamps_other [] i [] = none
stamps_other [] i (x ∷ b) = (λ e. omega arith, λ e. omega arith)
stamps_other (u ∷ ts) i b =
    cond_cases (λ (x : Refusal). Other x.number) (begins u b) _ _ (λ q. stamps_other ts (suc i) (drop (length u) b)) (λ q. (λ e. omega arith, λ e. omega arith))

no_slots : (m : ℕ) → lacking m [] ≡ 0
unfolding lacking
no_slots m = refl

one_slot : (m : ℕ) (slots : List ℕ) → m ≤ length slots → lacking m (slots ∷ []) ≡ 0
unfolding lacking
one_slot m slots h = rw (le-ltb (length slots) m h)

-- Lines that are not refused are at most 200.
pub few_lines : (lines : List ℕ) → wrong_lines lines ≡ false → line_count lines ≤ 200
few_lines lines h =
    let l = ((neither (not (eqb (length lines % 6) 0)) (ltb 1200 (length lines)) (equal (length lines % 6) 0) (not_below 1200 (length lines))).0 h).1 in
    omega arith

-- Checks by their place: neither the early number nor the late refusal is one of the two.
by_place_other : (c : Checks) → Other c.early → (c.early ≡ 0 → Other c.late.number) → Other (refusal_of c).number
by_place_other c p q = then_later (of_call c.early) c.late p q

-- What a call refuses with is its refusal.
outcome_other : {A : Type 0} (r : Refusal) (a : A) → Other r.number → (given : Refusal) → outcome r a ≡ refused given → Other given.number
outcome_other r a h given e = subst (λ (x : Refusal). Other x.number) (sym (is_refused r a given (sym e)).1) h

-- A rest that is 0 where the checks before it pass leaves their numbers.
rest_other : (f : ℕ → ℕ) (k : ℕ) → ((i : ℕ) → f i ≡ cond (eqb (f 0) 0) i (f 0)) → Other (f 0) → (f 0 ≡ 0 → k ≡ 0) → Other (f k)
rest_other f k h p z =
    subst Other (sym (h k)) (cond_cases Other (eqb (f 0) 0) k (f 0) (λ q. subst Other (sym (z (eqb-true (f 0) 0 q))) none) (λ q. p))

module _ (t : Terms) (list : List ℕ) where
  -- 9 of ample slots and of further ones that are at least 512.
  list_nine : (more : List (List ℕ)) → (how_many list ≤ 512 → lacking (how_many list) more ≡ 0) → Other (list_checks t list (nine t (how_many list) ample more))
  list_nine more h =
      rest_other (list_checks t list) (nine t (how_many list) ample more) (list_then t list) (is_other _ (simp (of_first kept)))
      (λ z. let (few, brief) = list_brief t list z in rw (roomy_ample t.processes (how_many list) few brief) (h brief))

  class_other : (answered : List ℕ) → 512 ≤ length answered → Other (refusal_of (class_checks t list ample (answered ∷ []))).number
  class_other answered long =
      by_place_other (class_checks t list ample (answered ∷ []))
      (list_nine (answered ∷ []) (λ brief. one_slot (how_many list) answered (omega arith))) (λ z. none)

  writing_other : (out : List ℕ) → 38936 ≤ length out → Other (refusal_of (writing_checks t list ample out)).number
  writing_other out long =
      by_place_other (writing_checks t list ample out) (list_nine [] (λ brief. no_slots (how_many list)))
      (λ z.
      then_other (first_refused 0 (answers_of t list)) _ (events_other (events_of list) t (start t) 0)
      (rw (le-ltb (length out) (length (written t list)) (omega (arith, written_few z))) none))
    where
      small : list_checks t list (nine t (how_many list) ample []) ≡ 0 → length list ≤ 4096
      small z =
          let (listed, rest) = (list_passed t list (nine t (how_many list) ample []) (λ q. q, λ q. q)).0 z in
          let (m, few, size) = listed.whole_records in
          omega arith

      written_few : list_checks t list (nine t (how_many list) ample []) ≡ 0 → length (written t list) ≤ 38936
      written_few z = let l = small z in omega (arith, written_long t list, stamps_short t list l)

-- Questions and marks on a sheet.
module _ (b : List ℕ) where
  abbrev t : Terms
  t = terms_in b

  abbrev list : List ℕ
  list = list_in b

  early_other : Other (reading_checks b ample []).early
  unfolding header_checks
  early_other =
      rest_other (header_checks b) (nine t (how_many list) ample []) (header_then b) (is_other _ (simp (of_first kept)))
      (λ z. let (few, brief) = sheet_brief b z in rw (roomy_ample (processes_in b) (how_many list) few brief) (no_slots (how_many list)))

  late_other : Other (reading_checks b ample []).late.number
  late_other =
      then_other (first_refused 0 (answers_of t list)) _ (events_other (events_of list) t (start t) 0)
      (stamps_other (pieces (accepted_of t list)) 0 (stamps_in b))

  reading_other : Other (refusal_of (reading_checks b ample [])).number
  reading_other = by_place_other (reading_checks b ample []) early_other (λ z. late_other)

  asked_other : (i j : ℕ) → Other (asked (reading_checks b ample []) list i j).late.number
  asked_other i j = then_other (reading_checks b ample []).late _ late_other (is_other _ (simp (of_first kept)))

  -- 31 slots are room for the chain.
  chained_other : (i j : ℕ) (out : List ℕ) → 31 ≤ length out → Other (refusal_of (chained (reading_checks b ample []) t list i j out)).number
  chained_other i j out long =
      by_place_other (chained (reading_checks b ample []) t list i j out) early_other
      (λ z.
      then_other (asked (reading_checks b ample []) list i j).late _ (asked_other i j)
      (rw (le-ltb (length out) (chain_slots (processes_in b)) (omega (arith, few z))) (is_other _ (simp (of_first kept)))))
    where
      few : (reading_checks b ample []).early ≡ 0 → processes_in b ≤ 32
      few z = ((early_says b ample []).0 z).0.right.processes.1

  -- Lines that are not refused are at most as many as the slots for their marks.
  marking_other : (lines out : List ℕ) → 200 ≤ length out → Other (refusal_of (marking_checks b lines ample out)).number
  marking_other lines out long =
      let c = reading_checks b ample [] in
      by_place_other (marking_checks b lines ample out) (whole_first (wrong_lines lines))
      (λ z.
      let w = ((in_order (wrong_lines lines) 30 c.early (omega arith) (λ h. h, λ h. h) (λ h. h, λ h. h)).0 z).0 in
      then_other c.late _ late_other (rw (le-ltb (length out) (line_count lines) (omega (arith, few_lines lines w))) none))
    where
      whole_first : (x : Bool) → Other (first x 30 (reading_checks b ample []).early)
      whole_first true = (λ e. omega arith, λ e. omega arith)
      whole_first false = early_other

pub never_short : NeverShort
unfolding class writing reading comparing_sheet chaining_sheet marking tallying
never_short =
    record {
      classed = λ t list answered long r. outcome_other _ _ (class_other t list answered long) r;
      written = λ t list out long r. outcome_other _ _ (writing_other t list out long) r;
      read = λ b r. outcome_other _ _ (reading_other b) r;
      numbered = λ b numbers long r e. outcome_other _ _ (reading_other b) r (sym (ap (λ x. x.0) (reading_unasked numbers long b ample)) ∙ e);
      compared = λ b i j r. outcome_other _ _ (by_place_other (asked (reading_checks b ample []) (list_in b) i j) (early_other b) (λ z. asked_other b i j)) r;
      chained = λ b i j out long r. outcome_other _ _ (chained_other b i j out long) r;
      marked = λ b lines out long r. outcome_other _ _ (marking_other b lines out long) r;
      tallied = λ b r. outcome_other _ _ (reading_other b) r;
    }
