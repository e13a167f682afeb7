-- The line is that of the tally's outcome.
use Rattle.percentage.proofs.Told.{count_bounds}
use Rattle.savings.proofs.Lined.{line_of}
use Rattle.desk.proofs.Printed.{printed_as}
use Rattle.savings.proofs.answer.savings_answer.Goals as goal

pub counts_text-requires : goal.counts_text-requires
counts_text-requires c = count_bounds _ _ c.in-Ok.ensures

pub returns-in-Err : goal.returns-in-Err
returns-in-Err c = printed_as (line_of _ _ _ c.in-Err.ensures) c.refusal_text.ensures

pub returns-in-Ok : goal.returns-in-Ok
returns-in-Ok c = printed_as (line_of _ _ _ c.in-Ok.ensures) c.counts_text.ensures
