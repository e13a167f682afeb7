-- Lists, sheets and lent slots for examples.
use Rattle.std.specs.Prelude.{ℕ, List, [], ◌∷◌, ◌++◌, replicate}
use Rattle.paper.specs.Buffers.{Work}

-- The record of an event.
abbrev pub event_bytes : ℕ → ℕ → ℕ → ℕ → List ℕ
event_bytes kind process peer message = kind ∷ process ∷ peer ∷ 0 ∷ message ∷ 0 ∷ 0 ∷ 0 ∷ []

-- The event list of sheet A, and list B.
abbrev pub A : List ℕ
A =
    event_bytes 1 0 1 1 ++ (event_bytes 1 2 1 2 ++ (event_bytes 2 1 0 1 ++ (event_bytes 1 1 0 3
    ++ (event_bytes 2 1 2 2 ++ (event_bytes 1 1 0 4 ++ (event_bytes 2 0 1 3 ++ event_bytes 2 0 1 4))))))

abbrev pub B : List ℕ
B =
    event_bytes 0 0 0 0 ++ (event_bytes 0 0 0 0 ++ (event_bytes 0 0 0 0 ++ (event_bytes 0 0 0 0
    ++ (event_bytes 1 0 1 1 ++ (event_bytes 2 1 0 1 ++ (event_bytes 1 1 0 2 ++ event_bytes 1 1 0 3))))))

-- Work buffers of so many clock, mask and value slots, all holding 9.
abbrev pub slots : ℕ → ℕ → ℕ → Work
slots clocks masks values = record { clocks = replicate clocks 9; masks = replicate masks 9; values = replicate values 9 }

abbrev pub lent : ℕ → ℕ → Work
lent clocks masks = slots clocks masks clocks

-- Work buffers with one slot more than is named, once a call refused behind 9: the named slots are 0.
abbrev pub cleared : ℕ → ℕ → Work
cleared clocks masks =
    record { clocks = replicate clocks 0 ++ (9 ∷ []); masks = replicate masks 0 ++ (9 ∷ []); values = replicate clocks 0 ++ (9 ∷ []) }
