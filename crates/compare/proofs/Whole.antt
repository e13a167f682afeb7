-- The first 40,961 bytes of a sheet have the answer of the whole sheet.
use Rattle.std.proofs.Common.{◌≡◌, ℕ, List, [], take, refl}
use Rattle.paper.specs.Buffers.{ample}
use Rattle.paper.specs.Figures.{Position}
use Rattle.paper.specs.Listing.{refusal_line}
use Rattle.paper.specs.Machine.{accepted_of}
use Rattle.paper.specs.Questions.{asked, judged, comparing_sheet}
use Rattle.paper.specs.Reading.{reading_checks}
use Rattle.paper.specs.Refusals.{of_call}
use Rattle.paper.specs.Sheet.{processes_in, terms_in, list_in}
use Rattle.lines.specs.Programs.{verdict_line}
use Rattle.desk.proofs.Longer.{sheet_longer, only_refused, cut_short}
use Rattle.compare.specs.Answer.{compare_answer}

pub enough : (x y : Position) (b : List ℕ) → compare_answer (take 40961 b) x y ≡ compare_answer b x y
unfolding compare_answer comparing_sheet
enough x y = cut_short (λ b. compare_answer b x y) 40960 (refusal_line (of_call 1)) (λ b long.
    only_refused verdict_line (judged (processes_in b) (accepted_of (terms_in b) (list_in b)) x y) (asked (reading_checks b ample []) (list_in b) x y) 1
    (sheet_longer b _ long) refl)
