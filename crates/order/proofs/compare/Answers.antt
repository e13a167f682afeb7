-- The events are judged, and what is left is left to `comparison`.
use Rattle.std.proofs.lemmas.Result.{err_from_is_err_and}
use Rattle.order.proofs.Asked.{compare_refused, compare_done}
use Rattle.order.proofs.compare.Goals as goal

pub returns-in_err-strict : goal.returns-in_err-strict
returns-in_err-strict c =
    let p = err_from_is_err_and c.from_residual.result c.from_residual.ensures.1 in
    rw (p.1, p.2) (compare_refused _ _ _ _ _ c.in_err-strict.ensures)

pub returns : goal.returns
returns c = compare_done _ _ _ _ _ c.in_ok-strict.ensures c.comparison.ensures
