-- What the programs beyond the paper print, byte for byte.
use Rattle.std.specs.Prelude.{ℕ, zero, suc, ◌+◌, cond, ◌&&◌, List, [], ◌∷◌, ◌++◌, eqb, leb, length, get_or, take}
use Rattle.paper.specs.Buffers.{entries}
use Rattle.paper.specs.Bytes.{byte, text}
use Rattle.paper.specs.Event.{how_many}
use Rattle.paper.specs.Listing.{decimal, word, words, event_line}
use Rattle.paper.specs.Machine.{Clocked, answers_of, accepted_of}
use Rattle.paper.specs.Order.{nothing}
use Rattle.paper.specs.Stamp.{Stamp, no_stamp, stamps}
use Rattle.paper.specs.Terms.{Terms}
use Rattle.lines.specs.Slots.{slot_line, fitting}
use Rattle.lines.specs.Text.{each}

-- `compare`: the verdict's number, on a line.
unfoldable pub verdict_line : ℕ → List ℕ
verdict_line v = decimal v ++ text "\n"

-- `chain`: the positions on one line, one blank between them; an empty line for an empty chain.
unfoldable pub chain_line : List ℕ → List ℕ
chain_line [] = text "\n"
chain_line (x ∷ xs) = decimal x ++ words xs ++ text "\n"

-- The same of the first k slots of a chain; nothing where there are fewer, or k is over 512.
unfoldable pub chain_text : List ℕ → ℕ → List ℕ
chain_text chain k = cond (leb k 512 && leb k (length chain)) (chain_line (take k chain)) []

-- `class`: first `offers M processes N accepted K entries E`.
unfoldable pub class_head : ℕ → ℕ → ℕ → ℕ → List ℕ
class_head m n accepted carried =
    text "offers" ++ word m ++ text " processes" ++ word n ++ text " accepted" ++ word accepted ++ text " entries" ++ word carried ++ text "\n"

-- How many of the first k offers are accepted.
unfoldable pub accepted_before : List ℕ → ℕ → ℕ
accepted_before rs zero = 0
accepted_before rs (suc k) = accepted_before rs k + cond (eqb (byte rs k) 0) 1 0

-- A refused offer: `P refused R`.
unfoldable pub refused_line : ℕ → ℕ → List ℕ
refused_line p r = decimal p ++ text " refused" ++ word r ++ text "\n"

-- A line for the offer at i: as in the listing where it is accepted, `P refused R` where it is not.
unfoldable pub offer_line : ℕ → List ℕ → List ℕ → List ℕ → List ℕ → ℕ → List ℕ
offer_line n list rs clocks masks i = cond (eqb (byte rs i) 0) (slot_line n list clocks masks [] i (accepted_before rs i)) (refused_line i (byte rs i))

-- The head line and a line for each offer in order; nothing where the slots do not fit.
unfoldable pub class_text : ℕ → List ℕ → List ℕ → List ℕ → List ℕ → ℕ → ℕ → List ℕ
class_text n list rs clocks masks accepted carried =
    cond (fitting n list clocks masks && leb (how_many list) (length rs))
    (class_head (how_many list) n accepted carried ++ each (offer_line n list rs clocks masks) (how_many list))
    []

-- The same line without slots: an accepted offer has the clock and the mask of the event accepted there.
unfoldable pub class_line : ℕ → List ℕ → List Clocked → List Stamp → ℕ → List ℕ
class_line n rs cs ts i =
    let a = accepted_before rs i in
    cond (eqb (byte rs i) 0) (event_line n i (get_or cs a nothing) (get_or ts a no_stamp)) (refused_line i (byte rs i))

-- What `class` prints of a list.
unfoldable pub class_listing : Terms → List ℕ → List ℕ
class_listing t list =
    let cs = accepted_of t list in
    class_head (how_many list) t.processes (length cs) (entries cs)
    ++ each (class_line t.processes (answers_of t list) cs (stamps cs)) (how_many list)
