use Rattle.pupil.proofs.Loop.{To}
use Rattle.pupil.proofs.mark_all.Given as goal

abbrev pub invariant-loop-j : goal.invariant-loop-j
invariant-loop-j l = To l.n l.m l.clocks l.lines l.initial.marks l.marks l.total l.j
