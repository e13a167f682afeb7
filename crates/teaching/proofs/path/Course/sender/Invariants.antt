use Rattle.teaching.proofs.Seeking.{Seeking}
use Rattle.teaching.proofs.path.Course.sender.Given as goal

abbrev pub invariant-loop-c : goal.invariant-loop-c
invariant-loop-c l = Seeking l.fn.self.list.now l.fn.message.0 l.c
