-- Lines judged by the clock slots that reading fills, n slots to each event.
use Rattle.std.specs.Prelude.{ℕ, Bool, false, cond, ◌&&◌, List, eqb, ltb, length}
use Rattle.std.proofs.lemmas.List.Edits.{sets}
use Rattle.paper.specs.Buffers.{Work}
use Rattle.paper.specs.Marking.{Line, line_count, line_at, Marked}
use Rattle.paper.specs.Refusals.{Outcome, refused, done, of_call}
use Rattle.paper.specs.Stamp.{count, upto}
use Rattle.course.specs.Said.{wiped}
use Rattle.order.specs.Judge.{row_verdict}

-- Whether a verdict is the one that was given.
abbrev pub says : Outcome ℕ → ℕ → Bool
says (refused r) v = false
says (done x) v = eqb v x

-- Whether a line is right: both events are there, and its verdict is the one on their slots.
unfoldable pub row_right : ℕ → ℕ → List ℕ → Line → Bool
row_right n m clocks l = ltb l.one m && ltb l.other m && says (row_verdict n clocks l.one l.other) l.verdict

-- The mark of the line at j, the marks of the first k lines, and how many of these are right.
abbrev pub row_mark : ℕ → ℕ → List ℕ → List ℕ → ℕ → ℕ
row_mark n m clocks lines j = cond (row_right n m clocks (line_at lines j)) 1 0

abbrev pub row_marks : ℕ → ℕ → List ℕ → List ℕ → ℕ → List ℕ
row_marks n m clocks lines k = upto (row_mark n m clocks lines) k

abbrev pub row_total : ℕ → ℕ → List ℕ → List ℕ → ℕ → ℕ
row_total n m clocks lines k = count (λ j. row_right n m clocks (line_at lines j)) k

-- What is left to check and to do where the clocks of the sheet's m events stand in the work buffers w.
abbrev pub marking_rest : ℕ → ℕ → List ℕ → Work → List ℕ → (Outcome Marked × Work) × List ℕ
marking_rest n m lines w out =
    let k = line_count lines in
    cond (ltb (length out) k) ((refused (of_call 21), wiped n m w), out)
    ((done (record { total = row_total n m w.clocks lines k; lines = k }), w), sets out 0 (row_marks n m w.clocks lines k))
