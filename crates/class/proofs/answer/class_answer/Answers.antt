-- The text is that of class mode's outcome.
use Rattle.desk.proofs.Printed.{printed_as}
use Rattle.class.proofs.Answered.{class_refused, class_done}
use Rattle.class.proofs.answer.class_answer.Goals as goal

pub returns-in-Err : goal.returns-in-Err
returns-in-Err c = printed_as (class_refused _ _ _ _ _ c.in-Err.ensures) c.refusal_text.ensures

pub returns-in-Ok : goal.returns-in-Ok
returns-in-Ok c = printed_as (class_done _ _ _ _ _ c.in-Ok.ensures) c.class_text.ensures
