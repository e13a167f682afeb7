use Rattle.paper.specs.Listing.{word}
use Rattle.octets.proofs.Written.{Written}
use Rattle.octets.proofs.text.put_words.Given as goal

abbrev pub invariant-loop-x : goal.invariant-loop-x
invariant-loop-x l = Written word 21 l.initial.out l.xs l.at l.k l.x-index l.out
