-- Bytes from 24 on in neither part may hold anything and alter no answer (the paper, "The sheet"; theorem `elsewhere`).
use Rattle.std.specs.Prelude.{ℕ, ◌+◌, ◌≤◌, ◌<◌, ◌≡◌, ◌⊎◌, List, Float}
use Rattle.paper.specs.Buffers.{Work}
use Rattle.paper.specs.Marking.{marking}
use Rattle.paper.specs.Questions.{comparing_sheet, chaining_sheet}
use Rattle.paper.specs.Reading.{reading, reading_lamport}
use Rattle.paper.specs.Savings.{tallying, savings, storing}
use Rattle.paper.specs.Sheet.{list_offset, list_size, stamps_offset, stamps_size}

abbrev pub Inside : ℕ → ℕ → ℕ → Type 0
Inside offset size k = (offset ≤ k) × (k < offset + size)

-- A byte of the header, or of one of the parts that it names.
abbrev pub Used : List ℕ → ℕ → Type 0
Used b k = (k < 24) ⊎ (Inside (list_offset b) (list_size b) k ⊎ Inside (stamps_offset b) (stamps_size b) k)

-- Two sheets are answered alike, in every call that takes a sheet, and leave the same in every lent slot.
pub record Elsewhere (b c : List ℕ) (w : Work) : Type 0 where
  pub read : reading b w ≡ reading c w
  pub read_lamport : (numbers : List ℕ) → reading_lamport b w numbers ≡ reading_lamport c w numbers
  pub compared : (i j : ℕ) → comparing_sheet b w i j ≡ comparing_sheet c w i j
  pub chained : (i j : ℕ) (out : List ℕ) → chaining_sheet b w i j out ≡ chaining_sheet c w i j out
  pub marked : (lines out : List ℕ) → marking b lines w out ≡ marking c lines w out
  pub tallied : tallying b w ≡ tallying c w
  pub saved : savings b w ≡ savings c w
  pub stored : (out : List Float) → storing b w out ≡ storing c w out
