-- What is said of the slots that are lent, as one value.
use Rattle.std.specs.Prelude.{ℕ, List}
use Rattle.lines.specs.declared.event.Slots.{Slots}
use Rattle.lines.specs.Slots.{slot_line}

-- The line of the event at position i, accepted as number a.
abbrev pub line_of : Slots → ℕ → ℕ → List ℕ
line_of s i a = slot_line s.processes s.list.now s.clocks.now s.masks.now s.numbers.now i a
