-- From reading to marking: what refuses the sheet refuses the marking, and on an accepted sheet the lines are judged by the slots as on the events.
use Prim.Native.Nat.{ℕ, ◌/◌, ◌%◌, ◌≤◌, ◌<◌}
use native.Mathlib.Omega.{arith}
use mathlib.Core.Path.{◌≡◌, refl, sym, ap, ap₂, ◌∙◌}
use mathlib.Core.Bool.{Bool, true, false, cond, ◌&&◌, not}
use mathlib.Core.List.{List, []}
use lib.Dec.{eqb, ltb}
use lib.ListN.{length}
use lib.Seq.{sets}
use borrow.Author.Tests.{ltb-true, ltb-false, lt-ltb, le-ltb}
use Rattle.paper.specs.Buffers.{Work, laid}
use Rattle.paper.specs.Event.{how_many}
use Rattle.paper.specs.Machine.{Clocked, accepted_of}
use Rattle.paper.specs.Marking.{Line, line_count, line_at, wrong_lines, is_right, mark, marks, total, Marked, marking}
use Rattle.paper.specs.Questions.{judged}
use Rattle.paper.specs.Reading.{read_of, reading_checks, reading}
use Rattle.paper.specs.Refusals.{first, Refusal, of_call, Outcome, refused, done}
use Rattle.paper.specs.Sheet.{processes_in, terms_in, list_in}
use Rattle.paper.specs.Stamp.{count, upto}
use Rattle.paper.specs.Stands.{Stands}
use Rattle.paper.specs.Terms.{Terms}
use Rattle.paper.proofs.Also.{also_refused, also_late, also_done}
use Rattle.paper.proofs.Laws.Masks.{length_upto}
use Rattle.paper.proofs.Laws.Stores.{laid_front}
use Rattle.paper.proofs.Sheets.Checks.{not_below, equal, neither}
use Rattle.paper.proofs.Stands.{all}
use Rattle.course.specs.Said.{wiped}
use Rattle.course.proofs.Passed.{wiped_held}
use Rattle.sheet.proofs.Accepted.{Accepted}
use Rattle.order.specs.Judge.{row_verdict}
use Rattle.order.proofs.Judging.{row_judged}
use Rattle.pupil.specs.Rows.{says, row_right, row_marks, row_total, marking_rest}

-- A line is right by the slots exactly where it is right on the events.
right_rows :
    {t : Terms} {list : List ℕ} {w w' : Work} → Stands t list w w' → (l : Line)
    → row_right t.processes (how_many list) w'.clocks l ≡ is_right t.processes (accepted_of t list) l
unfolding row_right is_right
right_rows {t} {list} {w} {w'} s l = rw (all s) (go (ltb a m) (ltb b m) refl refl)
  where
    m : ℕ
    m = how_many list

    a : ℕ
    a = l.one

    b : ℕ
    b = l.other

    go :
        (x y : Bool) → ltb a m ≡ x → ltb b m ≡ y
        → (x && y && says (row_verdict t.processes w'.clocks a b) l.verdict)
        ≡ (x && y && eqb l.verdict (judged t.processes (accepted_of t list) a b))
    go true true p q =
        ap (λ (o : Outcome ℕ). says o l.verdict)
        (row_judged s.held a b (omega (arith, all s, ltb-true a m p)) (omega (arith, all s, ltb-true b m q)))
    go true false p q = refl
    go false y p q = refl

module _ (b lines : List ℕ) (w : Work) (out : List ℕ) where
  abbrev n : ℕ
  n = processes_in b

  abbrev cs : List Clocked
  cs = accepted_of (terms_in b) (list_in b)

  abbrev answer : Marked
  answer = record { total = total n cs lines; lines = line_count lines }

  pub mark_30 : {given : Refusal} → wrong_lines lines ≡ true → given ≡ of_call 30 → ((refused given, w), out) ≡ marking b lines w out
  unfolding marking
  mark_30 h e = rw h (λ i. ((refused (e i), w), out))

  module _ (whole : wrong_lines lines ≡ false) where
    pub mark_refused : {given : Refusal} {w' : Work} → (refused given, w') ≡ reading b w → ((refused given, w'), out) ≡ marking b lines w out
    unfolding reading marking
    mark_refused {given} {w'} h =
        let ms = marks n cs lines in
        rw whole
        (also_refused (reading_checks b w []) (of_call (first (ltb (length out) (line_count lines)) 21 0)) (read_of (terms_in b) (list_in b)) answer
        (terms_in b) (list_in b) w (laid (length ms) ms out) out given w' h)

    -- What is left to do on an accepted sheet, in its two cases.
    module _ {w' : Work} {t : Terms} {at size carried : ℕ} (s : Accepted b w w' t at size carried) where
      abbrev m : ℕ
      m = how_many (list_in b)

      late_is : ltb (length out) (line_count lines) ≡ true → ((refused (of_call 21), wiped n m w'), out) ≡ marking b lines w out
      unfolding marking
      late_is e =
          let ms = marks n cs lines in
          let x = wiped_held s.stands.held in
          rw (whole, e)
          ((λ i. ((refused (of_call 21), x i), out))
          ∙ sym (also_late (reading_checks b w []) (of_call 21) (read_of (terms_in b) (list_in b)) answer (terms_in b) (list_in b) w
          (laid (length ms) ms out) out s.early s.late (λ z. omega arith)))

      done_is :
          ltb (length out) (line_count lines) ≡ false
          → let k = line_count lines in
          let c = w'.clocks in
          ((done (record { total = row_total n m c lines k; lines = k }), w'), sets out 0 (row_marks n m c lines k)) ≡ marking b lines w out
      unfolding marking marks total
      done_is e =
          let k = line_count lines in
          let ms = marks n cs lines in
          let right : (j : ℕ) → row_right n m w'.clocks (line_at lines j) ≡ is_right n cs (line_at lines j) =
          λ j. right_rows s.stands (line_at lines j) in
          let f : row_total n m w'.clocks lines k ≡ total n cs lines = λ i. count (λ j. right j i) k in
          let g : sets out 0 (row_marks n m w'.clocks lines k) ≡ laid (length ms) ms out =
          (λ i. sets out 0 (upto (λ j. cond (right j i) 1 0) k))
          ∙ laid_front ms out (omega (arith, length_upto (mark n cs lines) k, ltb-false (length out) k e)) in
          let y = s.stands.held.is in
          rw (whole, e)
          ((λ i. ((done (record { total = f i; lines = k }), y i), g i))
          ∙ sym (also_done (reading_checks b w []) (of_call 0) (read_of (terms_in b) (list_in b)) answer (terms_in b) (list_in b) w
          (laid (length ms) ms out) out s.early s.late refl))

      rest_is : marking_rest n m lines w' out ≡ marking b lines w out
      rest_is = go (ltb (length out) (line_count lines)) refl
        where
          go :
              (x : Bool) → ltb (length out) (line_count lines) ≡ x
              → let k = line_count lines in
              let c = w'.clocks in
              cond x ((refused (of_call 21), wiped n m w'), out)
              ((done (record { total = row_total n m c lines k; lines = k }), w'), sets out 0 (row_marks n m c lines k))
              ≡ marking b lines w out
          go true e = late_is e
          go false e = done_is e

      pub mark_rest : {x : (Outcome Marked × Work) × List ℕ} → x ≡ marking_rest t.processes (size / 8) lines w' out → x ≡ marking b lines w out
      mark_rest e = e ∙ sym (ap₂ (λ (u : Terms) (k : ℕ). marking_rest u.processes k lines w' out) s.terms s.many) ∙ rest_is
