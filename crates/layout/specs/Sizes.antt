-- The sheet that is written from the stamps in the work buffers, and how many bytes they take.
use Rattle.std.specs.Prelude.{ℕ, zero, suc, ◌+◌, length, get_or}
use mathlib.Core.List.{List, ◌++◌, flatten}
use Rattle.clock.specs.Event.{kind_at}
use Rattle.paper.specs.Event.{how_many}
use Rattle.paper.specs.Sheet.{header}
use Rattle.paper.specs.Terms.{Terms}
use Rattle.sheet.specs.Held.{left}
use Rattle.sheet.specs.declared.walk.Stamps.{Stamps}
use Rattle.sheet.specs.Slots.{kind_size, slot_pieces}

module _ (list masks : List ℕ) where
  -- How many bytes k events from the one at i on have among the stamps: 4 for each send, and 2 for each value.
  unfoldable pub size_from : ℕ → ℕ → ℕ
  size_from zero i = 0
  size_from (suc k) i = kind_size (kind_at list i) (get_or masks i 0) + size_from k (suc i)

  abbrev pub slot_size : ℕ
  slot_size = size_from (how_many list) 0

-- The stamps of all sends, those that are left, and the sheet that is written: with its stamps, and from the slots.
abbrev pub slot_stamps : List ℕ → List ℕ → List ℕ → List ℕ
slot_stamps list masks vs = flatten (slot_pieces list masks vs)

abbrev pub left_bytes : Stamps → List ℕ
left_bytes s = flatten (left s)

abbrev pub sheet_of : Terms → List ℕ → List ℕ → List ℕ
sheet_of terms list stamps = header terms (length list) (length stamps) ++ (list ++ stamps)

abbrev pub slot_written : Terms → List ℕ → List ℕ → List ℕ → List ℕ
slot_written terms list masks vs = sheet_of terms list (slot_stamps list masks vs)
