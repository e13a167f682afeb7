-- The first 40,961 bytes of a sheet have the answer of the whole sheet.
use Rattle.std.proofs.Common.{◌≡◌, ℕ, List, [], take, replicate, length, refl}
use Rattle.paper.specs.Buffers.{ample}
use Rattle.paper.specs.Chain.{chain}
use Rattle.paper.specs.Figures.{Position}
use Rattle.paper.specs.Listing.{refusal_line}
use Rattle.paper.specs.Machine.{accepted_of}
use Rattle.paper.specs.Questions.{chained, chaining_sheet}
use Rattle.paper.specs.Reading.{reading_checks}
use Rattle.paper.specs.Refusals.{of_call}
use Rattle.paper.specs.Sheet.{terms_in, list_in}
use Rattle.lines.specs.Programs.{chain_line}
use Rattle.desk.proofs.Longer.{sheet_longer, only_refused, cut_short}
use Rattle.chain.specs.Answer.{chain_answer}

pub enough : (x y : Position) (b : List ℕ) → chain_answer (take 40961 b) x y ≡ chain_answer b x y
unfolding chain_answer chaining_sheet
enough x y = cut_short (λ b. chain_answer b x y) 40960 (refusal_line (of_call 1)) (λ b long.
    let path = chain (accepted_of (terms_in b) (list_in b)) x y in
    only_refused (λ k. chain_line path) (length path) (chained (reading_checks b ample []) (terms_in b) (list_in b) x y (replicate 31 0)) 1
    (sheet_longer b _ long) refl)
