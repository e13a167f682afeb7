-- The paper's outcomes for each case of what is answered here, the lent work buffers as one, and what clearing leaves.
use Rattle.std.specs.Prelude.{ℕ, Result, cond, List, [], leb, length}
use Rattle.paper.specs.Buffers.{Work, laid, cleared}
use Rattle.paper.specs.Class.{Classed}
use Rattle.paper.specs.Refusals.{Outcome}
use Rattle.paper.specs.Terms.{plain}
use Rattle.clock.specs.Said.{told}
use Rattle.clock.specs.declared.Refusal.{Refusal}
use Rattle.course.specs.Slots.{named}
use Rattle.course.specs.declared.Classed as declared

abbrev pub work : List ℕ → List ℕ → List ℕ → Work
work clocks masks values = record { clocks = clocks; masks = masks; values = values }

abbrev pub classed : Result declared.Classed Refusal → Outcome Classed
classed r = told (λ (c : declared.Classed). record { accepted = c.accepted; carried = c.carried }) r

abbrev pub judged : Result ℕ Refusal → Outcome ℕ
judged r = told (λ (v : ℕ). v) r

-- The work buffers once the slots named for m events of n processes are cleared, where they are lent.
abbrev pub wiped : ℕ → ℕ → Work → Work
wiped n m w = cond (named n m (length w.clocks) (length w.masks) (length w.values)) (cleared (plain n) m w) w

-- A further work buffer once its m slots are cleared, where they are lent.
abbrev pub wiped_slots : ℕ → List ℕ → List ℕ
wiped_slots m slots = cond (leb m (length slots)) (laid m [] slots) slots
