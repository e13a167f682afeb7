use Rattle.std.proofs.Common.{rules}
use Rattle.std.proofs.Math.Seq.{take-length}
use Rattle.desk.proofs.Served.{served}
use Rattle.listing.specs.Answer.{listing_lamport_answer}
use Rattle.listing.proofs.Whole.{lamport_enough}
use Rattle.listing.proofs.run_lamport.Goals as goal

pub returns : goal.returns
returns g c = served _ _ 40961 listing_lamport_answer _ _ _ _ lamport_enough c.serve.ensures (λ lent shown left r q. search (rules, take-length))
