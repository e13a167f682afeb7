-- The page holds the sheet that is written, or the refusal's line on a page that writing left as it was.
use native.Mathlib.Omega.{arith}
use Rattle.write.proofs.SheetOut.{write_refused, write_done}
use Rattle.write.proofs.answer.write_answer.Goals as goal

pub returns-in-Err : goal.returns-in-Err
returns-in-Err c = write_refused _ _ _ (omega arith) _ _ _ _ _ c.in-Err.ensures c.refusal_text.ensures

pub returns-in-Ok : goal.returns-in-Ok
returns-in-Ok c = write_done _ _ _ (omega arith) _ _ _ c.in-Ok.ensures
