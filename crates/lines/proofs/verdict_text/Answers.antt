use native.Mathlib.Omega.{arith}
use Rattle.paper.specs.Bytes.{text}
use Rattle.lines.specs.Programs.{verdict_line}
use Rattle.octets.proofs.Appended.{join}
use Rattle.lines.proofs.Laws.{printed}
use Rattle.lines.proofs.verdict_text.Goals as goal

pub returns : goal.returns
unfolding verdict_line text
returns c =
    let a = c.put_decimal-end.ensures in
    let b = c.put.ensures in
    printed (rw c.number.ensures.0 at (join a.0 b)) (omega (arith, a.1, b.place))
