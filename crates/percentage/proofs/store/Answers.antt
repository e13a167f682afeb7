-- The saving is that of the counts, and what is left to do is done with their work buffers.
use Rattle.std.proofs.lemmas.Result.{err_from_is_err_and}
use Rattle.percentage.proofs.Told.{store_refused, count_bounds, store_placed}
use Rattle.percentage.proofs.store.Goals as goal

pub place-requires : goal.place-requires
place-requires c = count_bounds _ _ c.in_ok-c.ensures

pub returns-in_err-c : goal.returns-in_err-c
returns-in_err-c c =
    let p = err_from_is_err_and c.from_residual.result c.from_residual.ensures.1 in
    rw (p.1, p.2) (store_refused _ _ c.in_err-c.ensures _)

pub returns : goal.returns
returns c = store_placed _ _ c.in_ok-c.ensures c.args.percent.now c.place.ensures
