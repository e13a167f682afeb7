use Rattle.std.proofs.Common.{rules}
use Rattle.clock.specs.Said.{stated}
use Rattle.write.specs.Answer.{write_answer}
use Rattle.write.proofs.Whole.{enough}
use Rattle.write.proofs.Streamed.{sheet_printed, line_printed}
use Rattle.write.proofs.run.Goals as goal

pub returns-in-Ok : goal.returns-in-Ok
returns-in-Ok g c =
    let t = stated c.args.terms in
    sheet_printed _ _ (write_answer t) 4097 (enough t) _ _ _ _ _ _ _ _ _ c.in_ok-written.ensures c.in-Ok.is c.answer_on.array_long
    c.print.ensures.fits (λ lent shown left r q. search rules)

pub returns-in-Err : goal.returns-in-Err
returns-in-Err g c =
    let t = stated c.args.terms in
    line_printed _ _ (write_answer t) 4097 (enough t) _ _ _ _ _ _ _ _ _ c.in_ok-written.ensures c.in-Err.is c.answer_on.array_long
    c.print-in-Err.ensures.fits (λ lent shown left r q. search rules)
