use Rattle.std.proofs.Common.{rules}
use Rattle.std.proofs.Math.Seq.{take-length}
use Rattle.desk.proofs.Served.{served}
use Rattle.listing.specs.Answer.{listing_answer}
use Rattle.listing.proofs.Whole.{enough}
use Rattle.listing.proofs.run.Goals as goal

pub returns : goal.returns
returns g c = served _ _ 40961 listing_answer _ _ _ _ enough c.serve.ensures (λ lent shown left r q. search (rules, take-length))
