-- The text is that of the outcome of comparing.
use Rattle.desk.proofs.Printed.{printed_as}
use Rattle.compare.proofs.Asked.{compare_told}
use Rattle.compare.proofs.answer.compare_answer.Goals as goal

pub returns-in-Err : goal.returns-in-Err
returns-in-Err c = printed_as (compare_told _ _ _ c.in-Err.ensures) c.refusal_text.ensures

pub returns-in-Ok : goal.returns-in-Ok
returns-in-Ok c = printed_as (compare_told _ _ _ c.in-Ok.ensures) c.verdict_text.ensures
