use mathlib.Core.Path.{◌≡◌}
use Rattle.lines.specs.Programs.{accepted_before, offer_line}
use Rattle.lines.proofs.Laws.{Lined}
use Rattle.lines.proofs.programs.put_offers.Given as goal

abbrev pub invariant-loop-i : goal.invariant-loop-i
invariant-loop-i l =
    let s = l.slots in
    record {
      count : l.accepted ≡ accepted_before l.answers l.i;
      lines : Lined (offer_line s.processes s.list.now l.answers s.clocks.now s.masks.now) l.initial.out l.at l.end l.i l.out;
    }
