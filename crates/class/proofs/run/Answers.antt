use Rattle.std.proofs.Common.{rules}
use Rattle.desk.proofs.Served.{served}
use Rattle.clock.specs.Said.{stated}
use Rattle.class.specs.Answer.{class_answer}
use Rattle.class.proofs.Whole.{enough}
use Rattle.class.proofs.run.Goals as goal

pub returns : goal.returns
returns g c = served _ _ 4097 (class_answer (stated c.args.terms)) _ _ _ _ (enough (stated c.args.terms)) c.serve.ensures (λ lent shown left r q. search rules)
