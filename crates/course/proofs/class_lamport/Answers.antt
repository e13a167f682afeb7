-- Class mode: what the course of offers left behind and what was tidied, put together by the laws of `ClassMode`.
use Rattle.std.proofs.lemmas.Result.{err_from_is_err_and}
use Rattle.course.proofs.Tidied.{tail, lamports_tail}
use Rattle.course.proofs.ClassMode.{class_kept, class_ran}
use Rattle.course.proofs.class_lamport.Goals as goal

pub returns-in_err-t : goal.returns-in_err-t
returns-in_err-t c = let p = err_from_is_err_and c.from_residual.result c.from_residual.ensures.1 in rw p.1 (class_kept c.in_err-t.ensures p.2)

pub tidy-requires : goal.tidy-requires
tidy-requires c = tail c.in_ok-t.ensures

pub zero-requires : goal.zero-requires
zero-requires c = lamports_tail c.in_ok-t.ensures

pub returns : goal.returns
returns c = class_ran c.in_ok-t.ensures c.tidy.ensures c.zero.ensures
