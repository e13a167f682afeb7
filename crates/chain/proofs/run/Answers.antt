use Rattle.std.proofs.Common.{rules}
use Rattle.desk.proofs.Served.{served}
use Rattle.chain.specs.Answer.{chain_answer}
use Rattle.chain.proofs.Whole.{enough}
use Rattle.chain.proofs.run.Goals as goal

pub returns : goal.returns
returns g c = served _ _ 40961 (λ sheet. chain_answer sheet c.args.first.0 c.args.second.0) _ _ _ _ (enough c.args.first.0 c.args.second.0) c.serve.ensures (λ lent shown left r q. search rules)
