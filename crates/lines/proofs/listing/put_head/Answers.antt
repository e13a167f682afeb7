use native.Mathlib.Omega.{arith}
use Rattle.paper.specs.Bytes.{text}
use Rattle.paper.specs.Listing.{head_line}
use Rattle.octets.proofs.Appended.{join, join_two}
use Rattle.lines.proofs.listing.put_head.Goals as goal

pub returns : goal.returns
unfolding head_line text
returns c =
    let a = c.put_named-at.ensures in
    let b = c.put_named-at-2.ensures in
    let d = c.put_named-at-3.ensures in
    let e = c.put.ensures in
    (join (join_two (text " entries") _ (join_two (text " processes") _ a.0 b.0) d.0) e, omega (arith, a.1, b.1, d.1, e.place))
