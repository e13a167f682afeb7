use Rattle.std.proofs.Common.{rules}
use Rattle.desk.proofs.Served.{served}
use Rattle.savings.specs.Answer.{savings_answer}
use Rattle.savings.proofs.Whole.{enough}
use Rattle.savings.proofs.run.Goals as goal

pub returns : goal.returns
returns g c = served _ _ 40961 savings_answer _ _ _ _ enough c.serve.ensures (λ lent shown left r q. search rules)
