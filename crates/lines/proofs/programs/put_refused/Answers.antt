use native.Mathlib.Omega.{arith}
use Rattle.paper.specs.Bytes.{text}
use Rattle.lines.specs.Programs.{refused_line}
use Rattle.octets.proofs.Appended.{join, join_two}
use Rattle.lines.proofs.programs.put_refused.Goals as goal

pub returns : goal.returns
unfolding refused_line text
returns c =
    let a = c.put_decimal-at.ensures in
    let b = c.put_named-at.ensures in
    let d = c.put.ensures in
    (rw c.wide.ensures.0 at (join (join_two (text " refused") _ a.0 b.0) d), omega (arith, a.1, b.1, d.place))
