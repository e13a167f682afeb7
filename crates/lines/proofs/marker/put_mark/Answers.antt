use native.Mathlib.Omega.{arith}
use Rattle.paper.specs.Bytes.{text}
use Rattle.lines.specs.Marker.{mark_line}
use Rattle.octets.proofs.Appended.{join}
use Rattle.lines.proofs.marker.put_mark.Goals as goal

pub returns : goal.returns
unfolding mark_line text
returns c =
    let a = c.put_decimal-at.ensures in
    let b = c.put_word-at.ensures in
    let d = c.put.ensures in
    (rw c.wide.ensures.0 at (join (join a.0 b.0) d), omega (arith, a.1, b.1, d.place))
