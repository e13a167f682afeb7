-- The paper's outcome for each case of what is answered here.
use Rattle.std.specs.Prelude.{Float, Option, None, Some, Result}
use Rattle.clock.specs.Said.{told}
use Rattle.clock.specs.declared.Refusal.{Refusal}
use Rattle.paper.specs.Refusals.{Outcome}
use Rattle.paper.specs.Savings as paper
use Rattle.percentage.specs.declared.Counts as declared

abbrev pub counts : declared.Counts → paper.Counts
counts c = record { processes = c.processes; events = c.events; sends = c.sends; carried = c.carried }

abbrev pub counted : Result declared.Counts Refusal → Outcome paper.Counts
counted r = told counts r

abbrev pub saving : Option Float → paper.Saving
saving None = paper.no_messages
saving (Some x) = paper.percent x

abbrev pub saved : Result (Option Float) Refusal → Outcome paper.Saving
saved r = told saving r
