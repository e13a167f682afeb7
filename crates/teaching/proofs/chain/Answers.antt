-- The events are judged, and what is left is left to `linking`.
use Rattle.std.proofs.lemmas.Result.{err_from_is_err_and}
use Rattle.order.proofs.Asked.{list_past}
use Rattle.teaching.proofs.Linked.{chain_refused, chain_done}
use Rattle.teaching.proofs.chain.Goals as goal

pub returns-in_err-strict : goal.returns-in_err-strict
returns-in_err-strict c =
    let p = err_from_is_err_and c.from_residual.result c.from_residual.ensures.1 in
    rw (p.1, p.2) (chain_refused _ _ _ _ _ _ c.in_err-strict.ensures)

pub linking-requires : goal.linking-requires
linking-requires c = (_, (list_past _ _ _ c.in_ok-strict.ensures).stands)

pub returns : goal.returns
returns c = chain_done _ _ _ _ _ _ c.in_ok-strict.ensures c.linking.ensures
