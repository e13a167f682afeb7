-- The text that is printed for each case of marking is the text of its outcome.
use Prim.Native.Nat.{ℕ, ◌≤◌}
use native.Mathlib.Omega.{arith}
use mathlib.Core.List.{List}
use mathlib.Core.Path.{◌≡◌, sym, ap, ◌∙◌}
use lib.ListN.{length, replicate, length-replicate}
use Rattle.paper.specs.Buffers.{Work, laid, ample}
use Rattle.paper.specs.Machine.{Clocked, accepted_of}
use Rattle.paper.specs.Marking.{line_count, mark, marks, total, Marked, marking_checks, marking}
use Rattle.paper.specs.Refusals.{Outcome, done}
use Rattle.paper.specs.Sheet.{processes_in, terms_in, list_in}
use Rattle.paper.proofs.Also.{call_done}
use Rattle.paper.proofs.Laws.Masks.{length_upto}
use Rattle.paper.proofs.Laws.Refused.{after_done}
use Rattle.paper.proofs.Sheets.Checks.{placed}
use Rattle.paper.proofs.TotalRight.{marking_number}
use Rattle.lines.specs.Marker.{marker_lines, marker_text}
use Rattle.lines.proofs.MarkerLines.{marker_after}
use Rattle.desk.specs.Answers.{text_of}
use Rattle.marker.specs.Answer.{marker_answer}

module _ (b lines : List ℕ) where
  abbrev n : ℕ
  n = processes_in b

  abbrev cs : List Clocked
  cs = accepted_of (terms_in b) (list_in b)

  abbrev ms : List ℕ
  ms = marks n cs lines

  abbrev lent : List ℕ
  lent = replicate 200 0

  abbrev Ends : Type 0
  Ends = (Outcome Marked × Work) × List ℕ

  pub marker_told :
      {o : Outcome Marked} {after : Work} {slots : List ℕ} → ((o, after), slots) ≡ marking b lines ample lent
      → text_of (λ m. marker_lines ms m.total) o ≡ marker_answer b lines
  unfolding marker_answer
  marker_told e = ap (λ (x : Ends). text_of (λ m. marker_lines ms m.total) x.0.0) e

  -- The slots begin with the marks.
  pub marker_done :
      {m : Marked} {after : Work} {slots : List ℕ} → ((done m, after), slots) ≡ marking b lines ample lent
      → marker_text slots m.total m.lines ≡ marker_answer b lines
  unfolding marking marks
  marker_done {m} {after} {slots} e =
      let c = marking_checks b lines ample lent in
      let ((early, late), same, rest) =
      call_done c (record { total = total n cs lines; lines = line_count lines }) m (terms_in b) (list_in b) ample after (ap (λ (x : Ends). x.0) e) in
      let many : length ms ≡ line_count lines = length_upto (mark n cs lines) (line_count lines) in
      let few : length ms ≤ 200 =
      omega (arith, many, ((marking_number b lines ample lent).0 ((placed c).1 (early, late))).1.1, length-replicate {A = ℕ} 200 0) in
      let held : slots ≡ laid (length ms) ms lent = ap (λ (x : Ends). x.1) e ∙ after_done c _ lent lent early late in
      let k : m.lines ≡ length ms = sym (ap (λ (x : Marked). x.lines) same) ∙ sym many in
      (λ i. marker_text (held i) m.total (k i)) ∙ marker_after ms lent m.total few ∙ marker_told e
