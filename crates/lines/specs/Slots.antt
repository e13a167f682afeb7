-- The listing of an accepted list, over the lent slots that hold its clocks and masks, and its Lamport numbers where they are asked for.
use Rattle.std.specs.Prelude.{ℕ, ◌*◌, Bool, cond, ◌&&◌, List, [], ◌++◌, eqb, ltb, leb, length, get_or, drop}
use Rattle.paper.specs.Bytes.{text}
use Rattle.paper.specs.Event.{Event, internal, send, event_at, how_many}
use Rattle.paper.specs.Listing.{decimal, word, letter, event_words, head_line}
use Rattle.paper.specs.Machine.{Clocked}
use Rattle.paper.specs.Stamp.{Stamp}
use Rattle.lines.specs.Text.{each}

-- The kind as a letter: I, S, R.
unfoldable pub kind_letter : ℕ → ℕ
kind_letter kind = cond (eqb kind internal) 73 (cond (eqb kind send) 83 82)

-- Position, kind, process, peer, message: how an event's line begins.
unfoldable pub event_fields : ℕ → Event → List ℕ
event_fields i e = decimal i ++ text " " ++ letter e ++ word e.process ++ word e.peer ++ word e.message

-- The event at position i of the list, a events accepted before it: its clock is n slots from n * a on, its mask is slot a.
abbrev pub slot_event : ℕ → List ℕ → List ℕ → ℕ → ℕ → Clocked
slot_event n list clocks i a = record { event = event_at list (8 * i); clock = drop (n * a) clocks }

abbrev pub slot_stamp : List ℕ → ℕ → Stamp
slot_stamp masks a = record { mask = get_or masks a 0; values = [] }

-- What comes before its line's last field and end; its number is the last field, where one is lent; and the line.
unfoldable pub slot_words : ℕ → List ℕ → List ℕ → List ℕ → ℕ → ℕ → List ℕ
slot_words n list clocks masks i a = event_words n i (slot_event n list clocks i a) (slot_stamp masks a)

unfoldable pub last_field : List ℕ → ℕ → List ℕ
last_field numbers a = cond (ltb a (length numbers)) (word (get_or numbers a 0)) []

unfoldable pub slot_line : ℕ → List ℕ → List ℕ → List ℕ → List ℕ → ℕ → ℕ → List ℕ
slot_line n list clocks masks numbers i a = slot_words n list clocks masks i a ++ last_field numbers a ++ text "\n"

-- At most 32 processes and 4,096 bytes of events, n clock slots and a mask slot for each event.
unfoldable pub fitting : ℕ → List ℕ → List ℕ → List ℕ → Bool
fitting n list clocks masks = leb n 32 && leb (length list) 4096 && leb (n * how_many list) (length clocks) && leb (how_many list) (length masks)

-- The head line and a line for each event; nothing where the slots do not fit.
unfoldable pub numbered_text : ℕ → List ℕ → List ℕ → List ℕ → List ℕ → ℕ → List ℕ
numbered_text n list clocks masks numbers carried =
    cond (fitting n list clocks masks)
    (head_line (how_many list) n carried ++ each (λ i. slot_line n list clocks masks numbers i i) (how_many list))
    []

-- No numbers are lent; or one for each event.
abbrev pub listing_text : ℕ → List ℕ → List ℕ → List ℕ → ℕ → List ℕ
listing_text n list clocks masks carried = numbered_text n list clocks masks [] carried

unfoldable pub listing_lamport_text : ℕ → List ℕ → List ℕ → List ℕ → List ℕ → ℕ → List ℕ
listing_lamport_text n list clocks masks numbers carried =
    cond (leb (how_many list) (length numbers)) (numbered_text n list clocks masks numbers carried) []
