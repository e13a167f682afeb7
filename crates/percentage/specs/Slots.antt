-- Sends counted in the bytes of a list, and what is left to do where a sheet is counted.
use Rattle.std.specs.Prelude.{ℕ, Bool, cond, List, eqb, ltb, Float, length}
use Rattle.clock.specs.Event.{kind_at}
use Rattle.paper.specs.Buffers.{Work}
use Rattle.paper.specs.Event.{send}
use Rattle.paper.specs.Refusals.{Outcome, refused, done, of_call}
use Rattle.paper.specs.Savings.{Counts, Saving, saving, stored}
use Rattle.paper.specs.Stamp.{count}
use Rattle.course.specs.Said.{wiped}

-- Whether the event at i is a send, and how many of the first m are.
abbrev pub is_send_at : List ℕ → ℕ → Bool
is_send_at list i = eqb (kind_at list i) send

abbrev pub slot_sends : List ℕ → ℕ → ℕ
slot_sends list m = count (is_send_at list) m

-- What is left to check and to do for the counts c with the work buffers w of their sheet.
abbrev pub placing : Counts → Work → List Float → (Outcome Saving × Work) × List Float
placing c w out =
    cond (ltb (length out) 1) ((refused (of_call 21), wiped c.processes c.events w), out) ((done (saving c), w), stored (saving c) out)
