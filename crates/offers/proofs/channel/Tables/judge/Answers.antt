-- The tables are asked where the checks that look at the event alone pass: then its ends are below 32.
use native.Mathlib.Omega.{arith}
use mathlib.Core.Path.{sym}
use Rattle.paper.proofs.Laws.Judged.{Shaped, shape_zero, peer_below}
use Rattle.clock.specs.Said.{stated}
use Rattle.offers.specs.View.{event}
use Rattle.offers.proofs.channel.Tables.judge.Goals as goal

pub allows-requires : goal.allows-requires
allows-requires c =
    let s : Shaped (stated c.args.terms) (event c.args.e) = (shape_zero _ _ 0 (sym c.in_ok-kind.ensures.answer)).0 in
    let p = c.requires in
    (c.in_ok-kind.ensures.sort, λ k. (omega (arith, s.process, p.0), omega (arith, p.0, peer_below _ _ s (λ q. omega arith))), p.1)
