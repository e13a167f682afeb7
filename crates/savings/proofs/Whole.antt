-- The first 40,961 bytes of a sheet have the answer of the whole sheet.
use Rattle.std.proofs.Common.{◌≡◌, ℕ, List, [], take, refl}
use Rattle.paper.specs.Buffers.{ample}
use Rattle.paper.specs.Listing.{refusal_line}
use Rattle.paper.specs.Reading.{reading_checks}
use Rattle.paper.specs.Refusals.{of_call}
use Rattle.paper.specs.Savings.{counts_in, tallying}
use Rattle.desk.proofs.Longer.{sheet_longer, only_refused, cut_short}
use Rattle.savings.specs.Answer.{counts_line, savings_answer}

pub enough : (b : List ℕ) → savings_answer (take 40961 b) ≡ savings_answer b
unfolding savings_answer tallying
enough = cut_short savings_answer 40960 (refusal_line (of_call 1))
    (λ b long. only_refused counts_line (counts_in b) (reading_checks b ample []) 1 (sheet_longer b _ long) refl)
