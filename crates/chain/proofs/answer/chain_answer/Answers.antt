-- The text is that of the chain's outcome.
use Rattle.desk.proofs.Printed.{printed_as}
use Rattle.chain.proofs.Asked.{chain_refused, chain_done}
use Rattle.chain.proofs.answer.chain_answer.Goals as goal

pub returns-in-Err : goal.returns-in-Err
returns-in-Err c = printed_as (chain_refused _ _ _ c.in-Err.ensures) c.refusal_text.ensures

pub returns-in-Ok : goal.returns-in-Ok
returns-in-Ok c = printed_as (chain_done _ _ _ c.in-Ok.ensures) c.chain_text.ensures
