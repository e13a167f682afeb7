-- The paper's outcomes for each case of what is answered here.
use Rattle.std.specs.Prelude.{ℕ, List, ◌≡◌, take, drop, Result, Ok, Err}
use Rattle.clock.specs.Said.{stated, told}
use Rattle.clock.specs.declared.Refusal.{Refusal}
use Rattle.paper.specs.Buffers.{Work}
use Rattle.paper.specs.Reading as read
use Rattle.paper.specs.Reading.{Read}
use Rattle.paper.specs.Refusals.{Outcome}
use Rattle.paper.specs.Sheet.{list_offset, list_size}
use Rattle.sheet.specs.declared.Contents.{Contents}

-- What is read of the sheet b; the list is told by where it lies in b.
abbrev pub read_as : List ℕ → Result Contents Refusal → Outcome Read
read_as b r = told (λ c. record { terms = stated c.terms; list = take c.size (drop c.offset b); carried = c.carried }) r

-- The list of an accepted sheet lies where its header says.
abbrev pub Where : List ℕ → Result Contents Refusal → Type 0
Where b (Err r) = Unit
Where b (Ok c) = (c.offset ≡ list_offset b) × (c.size ≡ list_size b)

-- What the reader promises: from the sheet b and the work buffers w it gives r and leaves w'.
abbrev pub Reads : List ℕ → Work → Result Contents Refusal → Work → Type 0
Reads b w r w' = (read_as b r, w') ≡ read.reading b w

-- What the reader of Lamport numbers promises: from the sheet b, the work buffers w and `numbers` it gives r and leaves w' and numbers'.
abbrev pub Numbers : List ℕ → Work → List ℕ → Result Contents Refusal → Work → List ℕ → Type 0
Numbers b w numbers r w' numbers' = ((read_as b r, w'), numbers') ≡ read.reading_lamport b w numbers
