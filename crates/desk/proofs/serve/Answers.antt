use Rattle.desk.proofs.Served.{prints_answer}
use Rattle.desk.proofs.serve.Goals as goal

pub returns : goal.returns
returns g c = prints_answer _ _ _ _ _ _ _ _ _ _ c.in_ok-length.ensures c.answer_on.array_long c.print.ensures.fits c.print.ensures.longer
