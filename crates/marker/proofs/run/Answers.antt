use Rattle.std.proofs.Common.{rules}
use Rattle.desk.proofs.Served.{served}
use Rattle.marker.specs.Answer.{marker_answer}
use Rattle.marker.proofs.Whole.{enough}
use Rattle.marker.proofs.run.Goals as goal

pub returns : goal.returns
returns g c = served _ _ 40961 (λ sheet. marker_answer sheet c.args.list.now) _ _ _ _ (enough c.args.list.now) c.serve.ensures (λ lent shown left r q. search rules)
