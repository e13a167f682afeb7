-- The first 40,961 bytes of a sheet have the listing of the whole sheet.
use Rattle.std.proofs.Common.{◌≡◌, ℕ, List, [], ◌∷◌, take, replicate, refl}
use Rattle.paper.specs.Buffers.{ample}
use Rattle.paper.specs.Listing.{refusal_line}
use Rattle.paper.specs.Reading.{read_of, reading_checks, reading, reading_lamport}
use Rattle.paper.specs.Refusals.{of_call}
use Rattle.paper.specs.Sheet.{terms_in, list_in}
use Rattle.desk.proofs.Longer.{sheet_longer, only_refused, cut_short}
use Rattle.listing.specs.Answer.{listed, lamport_listed, listing_answer, listing_lamport_answer}

pub enough : (b : List ℕ) → listing_answer (take 40961 b) ≡ listing_answer b
unfolding listing_answer reading
enough = cut_short listing_answer 40960 (refusal_line (of_call 1))
    (λ b long. only_refused listed (read_of (terms_in b) (list_in b)) (reading_checks b ample []) 1 (sheet_longer b _ long) refl)

pub lamport_enough : (b : List ℕ) → listing_lamport_answer (take 40961 b) ≡ listing_lamport_answer b
unfolding listing_lamport_answer reading_lamport
lamport_enough = cut_short listing_lamport_answer 40960 (refusal_line (of_call 1))
    (λ b long. only_refused lamport_listed (read_of (terms_in b) (list_in b)) (reading_checks b ample (replicate 512 0 ∷ [])) 1 (sheet_longer b _ long) refl)
