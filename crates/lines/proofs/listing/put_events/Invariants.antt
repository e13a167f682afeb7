use Rattle.lines.specs.Lent.{line_of}
use Rattle.lines.proofs.Laws.{Lined}
use Rattle.lines.proofs.listing.put_events.Given as goal

abbrev pub invariant-loop-i : goal.invariant-loop-i
invariant-loop-i l = Lined (λ j. line_of l.slots j j) l.initial.out l.at l.end l.i l.out
