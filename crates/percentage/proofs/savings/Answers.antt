-- The saving is that of the counts.
use Rattle.std.proofs.lemmas.Result.{err_from_is_err_and}
use Rattle.percentage.proofs.Told.{savings_refused, count_bounds, savings_done}
use Rattle.percentage.proofs.savings.Goals as goal

pub figure-requires : goal.figure-requires
figure-requires c = count_bounds _ _ c.in_ok-c.ensures

pub returns-in_err-c : goal.returns-in_err-c
returns-in_err-c c =
    let p = err_from_is_err_and c.from_residual.result c.from_residual.ensures.1 in
    rw (p.1, p.2) (savings_refused _ _ c.in_err-c.ensures)

pub returns : goal.returns
returns c = savings_done _ _ c.in_ok-c.ensures c.figure.ensures
