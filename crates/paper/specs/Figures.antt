-- Three sorts of figure (the paper, "The job"), none of which may stand where another is asked for. Here each is a number, and the name says which is meant; in the
-- code each is a type of its own.
use Rattle.std.specs.Prelude.{ℕ}

-- A process, from 0.
abbrev pub Process : Type 0
Process = ℕ

-- The position of an event in its list, or among the accepted events.
abbrev pub Position : Type 0
Position = ℕ

-- The number of a message.
abbrev pub MessageNumber : Type 0
MessageNumber = ℕ
