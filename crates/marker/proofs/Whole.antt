-- The first 40,961 bytes of a sheet have the answer of the whole sheet.
use Rattle.std.proofs.Common.{◌≡◌, ℕ, true, false, List, take, replicate, eqb, ap, refl}
use Rattle.paper.specs.Buffers.{ample}
use Rattle.paper.specs.Listing.{refusal_line}
use Rattle.paper.specs.Machine.{accepted_of}
use Rattle.paper.specs.Marking.{line_count, wrong_lines, marks, total, marking_checks, marking}
use Rattle.paper.specs.Refusals.{first, of_call}
use Rattle.paper.specs.Sheet.{processes_in, terms_in, list_in}
use Rattle.lines.specs.Marker.{marker_lines}
use Rattle.desk.proofs.Longer.{sheet_longer, only_refused, cut_short}
use Rattle.marker.specs.Answer.{marker_answer}

-- The list is judged before the sheet.
pub enough : (lines b : List ℕ) → marker_answer (take 40961 b) lines ≡ marker_answer b lines
unfolding marker_answer marking
enough lines = cut_short (λ b. marker_answer b lines) 40960 (refusal_line (of_call (first (wrong_lines lines) 30 1))) (λ b long.
    let n = processes_in b in
    let cs = accepted_of (terms_in b) (list_in b) in
    only_refused (λ m. marker_lines (marks n cs lines) m.total) (record { total = total n cs lines; lines = line_count lines })
    (marking_checks b lines ample (replicate 200 0)) (first (wrong_lines lines) 30 1)
    (ap (first (wrong_lines lines) 30) (sheet_longer b _ long))
    (elim (wrong_lines lines) as (λ w. eqb (first w 30 1) 0 ≡ false) [ true ↦ refl | false ↦ refl ]))
