-- The paper's outcome for each case of what is answered here.
use Rattle.std.specs.Prelude.{Result}
use Rattle.clock.specs.Said.{told}
use Rattle.clock.specs.declared.Refusal as declared_refusal
use Rattle.paper.specs.Marking.{Marked}
use Rattle.paper.specs.Refusals.{Outcome}
use Rattle.pupil.specs.declared.Marked as declared

-- The paper's total and number of lines.
abbrev pub mark : declared.Marked → Marked
mark x = record { total = x.total; lines = x.lines }

abbrev pub marked : Result declared.Marked declared_refusal.Refusal → Outcome Marked
marked r = told mark r
