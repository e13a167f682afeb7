use native.Mathlib.Omega.{arith}
use Rattle.paper.specs.Bytes.{text}
use Rattle.lines.specs.Savings.{saved_line}
use Rattle.octets.proofs.Appended.{join}
use Rattle.lines.proofs.Laws.{printed}
use Rattle.lines.proofs.saved_text.Goals as goal

pub returns : goal.returns
unfolding saved_line text
returns c =
    let a = c.put_named-at.ensures in
    let p = c.put-at.ensures in
    let x = rw c.digit.ensures at c.put-at-2.ensures in
    let y = rw c.digit-2.ensures at c.put-at-3.ensures in
    let e = c.put.ensures in
    printed (join (join (join (join a.0 p) x) y) e) (omega (arith, a.1, p.place, x.place, y.place, e.place))
