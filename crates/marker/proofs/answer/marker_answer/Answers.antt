-- The text is that of the marking's outcome.
use Rattle.desk.proofs.Printed.{printed_as}
use Rattle.marker.proofs.Marked.{marker_told, marker_done}
use Rattle.marker.proofs.answer.marker_answer.Goals as goal

pub returns-in-Err : goal.returns-in-Err
returns-in-Err c = printed_as (marker_told _ _ c.in-Err.ensures) c.refusal_text.ensures

pub returns-in-Ok : goal.returns-in-Ok
returns-in-Ok c = printed_as (marker_done _ _ c.in-Ok.ensures) c.marker_text.ensures
