use native.Mathlib.Omega.{arith}
use Rattle.paper.specs.Bytes.{text}
use Rattle.lines.specs.Marker.{total_line}
use Rattle.octets.proofs.Appended.{join, join_two}
use Rattle.lines.proofs.marker.put_total.Goals as goal

pub returns : goal.returns
unfolding total_line text
returns c =
    let a = c.put_named-at.ensures in
    let b = c.put_named-at-2.ensures in
    let d = c.put.ensures in
    (join (join_two (text " of") _ a.0 b.0) d, omega (arith, a.1, b.1, d.place))
