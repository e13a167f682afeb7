use native.Mathlib.Omega.{arith}
use Rattle.paper.specs.Bytes.{text}
use Rattle.octets.proofs.Appended.{join, same}
use Rattle.lines.proofs.Others.{chain_none, chain_is}
use Rattle.lines.proofs.programs.put_chain.Goals as goal

pub returns-in_default : goal.returns-in_default
unfolding text
returns-in_default c =
    let p = c.put.ensures in
    (same (chain_none _ (omega (arith, c.in_default.len_below))) p, omega (arith, p.place))

pub returns : goal.returns
unfolding text
returns c =
    let a = c.put_decimal-at.ensures in
    let b = c.put_words-at.ensures in
    let d = c.put-2.ensures in
    (same (chain_is _ c.wide.ensures.0 c.in-len1-up.len_at_least) (join (join a.0 b.0) d), omega (arith, a.1, b.1, d.place))
