-- The stamps that stand in the work buffers, as their bytes.
use Rattle.std.specs.Prelude.{ℕ, List, [], Option, None, Some}
use Rattle.paper.specs.Sheet.{stamp_bytes}
use Rattle.sheet.specs.Slots.{slot_pieces}
use Rattle.sheet.specs.declared.walk.Stamp.{Stamp}
use Rattle.sheet.specs.declared.walk.Stamps.{Stamps}

-- What the sheet has of an event among its stamps: of a send its stamp, of any other event nothing.
abbrev pub piece_of : Option Stamp → List ℕ
piece_of None = []
piece_of (Some t) = stamp_bytes (record { mask = t.mask; values = t.values.now })

-- The pieces of the events that are left.
abbrev pub left : Stamps → List (List ℕ)
left s = slot_pieces s.list.now s.masks.now s.values.now
