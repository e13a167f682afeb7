-- The paper's outcomes for each case of what is answered here.
use Rattle.std.specs.Prelude.{ℕ, ◌+◌, cond, List, ◌≡◌, Result, ltb, length}
use Rattle.std.proofs.lemmas.List.Edits.{sets}
use Rattle.clock.specs.Said.{told}
use Rattle.clock.specs.declared.Refusal.{Refusal}
use Rattle.course.specs.Said.{wiped}
use Rattle.paper.specs.Buffers.{Work}
use Rattle.paper.specs.Event.{how_many}
use Rattle.paper.specs.Questions as questions
use Rattle.paper.specs.Questions.{Written}
use Rattle.paper.specs.Refusals.{Outcome, refused, done, of_call}
use Rattle.paper.specs.Terms.{Terms}
use Rattle.layout.specs.Sizes.{slot_size, slot_written}
use Rattle.layout.specs.declared.Written as declared

abbrev pub wrote : Result declared.Written Refusal → Outcome Written
wrote r = told (λ w. record { events = w.events; bytes = w.bytes }) r

-- What the writer promises: from the terms, the list, the work buffers w and the output out it gives r and leaves w' and out'.
abbrev pub Writes : Terms → List ℕ → Work → List ℕ → Result declared.Written Refusal → Work → List ℕ → Type 0
Writes terms list w out r w' out' = ((wrote r, w'), out') ≡ questions.writing terms list w out

-- What is left to check and to write of a list whose stamps stand in the work buffers w.
abbrev pub laying : Terms → List ℕ → Work → List ℕ → (Outcome Written × Work) × List ℕ
laying terms list w out =
    let size = 24 + length list + slot_size list w.masks in
    cond (ltb (length out) size) ((refused (of_call 21), wiped terms.processes (how_many list) w), out)
    ((done (record { events = how_many list; bytes = size }), w), sets out 0 (slot_written terms list w.masks w.values))
