use native.Mathlib.Omega.{arith}
use Rattle.paper.specs.Bytes.{text}
use Rattle.lines.specs.Programs.{class_head}
use Rattle.octets.proofs.Appended.{join, join_two}
use Rattle.lines.proofs.programs.put_class_head.Goals as goal

pub returns : goal.returns
unfolding class_head text
returns c =
    let a = c.put_named-at.ensures in
    let b = c.put_named-at-2.ensures in
    let d = c.put_named-at-3.ensures in
    let e = c.put_named-at-4.ensures in
    let f = c.put.ensures in
    let front = join_two (text " accepted") _ (join_two (text " processes") _ a.0 b.0) d.0 in
    (join (join_two (text " entries") _ front e.0) f, omega (arith, a.1, b.1, d.1, e.1, f.place))
