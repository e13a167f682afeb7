use Rattle.lines.specs.Marker.{mark_line}
use Rattle.lines.proofs.Laws.{Lined}
use Rattle.lines.proofs.marker.put_marks.Given as goal

abbrev pub invariant-loop-j : goal.invariant-loop-j
invariant-loop-j l = Lined (mark_line l.marks) l.initial.out 0 l.end l.j l.out
