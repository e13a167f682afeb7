-- What `listing` prints of its input: the text of the paper's outcome.
use Rattle.std.specs.Prelude.{ℕ, List, replicate}
use Rattle.paper.specs.Buffers.{ample}
use Rattle.paper.specs.Listing.{listing, lamport_listing}
use Rattle.paper.specs.Reading.{Read, reading, reading_lamport}
use Rattle.desk.specs.Answers.{text_of}

-- What is printed of an accepted sheet, and with Lamport numbers.
abbrev pub listed : Read → List ℕ
listed r = listing r.terms r.list

abbrev pub lamport_listed : Read → List ℕ
lamport_listed r = lamport_listing r.terms r.list

-- `listing`.
unfoldable pub listing_answer : List ℕ → List ℕ
listing_answer b = text_of listed (reading b ample).0

-- `listing lamport`.
unfoldable pub listing_lamport_answer : List ℕ → List ℕ
listing_lamport_answer b = text_of lamport_listed (reading_lamport b ample (replicate 512 0)).0.0
