use Rattle.std.proofs.Common.{rules}
use Rattle.desk.proofs.Served.{served}
use Rattle.compare.specs.Answer.{compare_answer}
use Rattle.compare.proofs.Whole.{enough}
use Rattle.compare.proofs.run.Goals as goal

pub returns : goal.returns
returns g c = served _ _ 40961 (λ sheet. compare_answer sheet c.args.first.0 c.args.second.0) _ _ _ _ (enough c.args.first.0 c.args.second.0) c.serve.ensures (λ lent shown left r q. search rules)
