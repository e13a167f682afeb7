use Prim.Native.Nat.{◌≤◌}
use Rattle.clock.specs.Said.{stated}
use Rattle.paper.specs.Chain as paper
use Rattle.paper.specs.Machine.{accepted_of}
use Rattle.teaching.proofs.path.Course.learner.Given as goal

abbrev pub invariant-loop-c : goal.invariant-loop-c
invariant-loop-c l = l.c ≤ paper.learner (accepted_of (stated l.fn.self.terms) l.fn.self.list.now) l.fn.first.0 l.fn.second.0
