-- The strict course: what the course of offers left behind and what was tidied, put together by the laws of `StrictCourse`.
use mathlib.Core.Path.{refl, ap}
use Rattle.paper.specs.Refusals.{Refusal}
use Rattle.std.proofs.lemmas.Result.{err_from_is_err_and}
use Rattle.course.proofs.Tidied.{tail}
use Rattle.course.proofs.StrictCourse.{strict_kept, some_tried, strict_ran, strict_stopped}
use Rattle.course.proofs.strict_lamport.Goals as goal

pub returns-in_err-t : goal.returns-in_err-t
returns-in_err-t c = let p = err_from_is_err_and c.from_residual.result c.from_residual.ensures.1 in rw p.1 (strict_kept c.in_err-t.ensures p.2 refl)

pub tidy-requires : goal.tidy-requires
tidy-requires c = tail c.in_ok-t.ensures

pub returns-then-t : goal.returns-then-t
returns-then-t c = strict_ran c.in_ok-t.ensures refl c.if-t.true c.tidy.ensures c.zero.ensures

pub overflow_sub-at : goal.overflow_sub-at
overflow_sub-at c = (some_tried c.in_ok-t.ensures c.if-t.false).0

pub returns : goal.returns
returns c =
    let g = c.of_event.ensures in
    strict_stopped c.in_ok-t.ensures refl c.if-t.false (ap (λ (r : Refusal). r.number) g) (ap (λ (r : Refusal). r.position) g) c.tidy-2.ensures c.zero-2.ensures
