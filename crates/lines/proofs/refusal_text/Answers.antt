use native.Mathlib.Omega.{arith}
use Rattle.paper.specs.Bytes.{text}
use Rattle.paper.specs.Listing.{refusal_line}
use Rattle.octets.proofs.Appended.{join, join_two}
use Rattle.lines.proofs.Laws.{printed}
use Rattle.lines.proofs.refusal_text.Goals as goal

pub returns : goal.returns
unfolding refusal_line text
returns c =
    let a = c.put_named-at.ensures in
    let x = rw c.wide.ensures.0 at a.0 in
    let b = c.put_named-at-2.ensures in
    let d = c.put.ensures in
    printed (join (join_two (text " at") _ x b.0) d) (omega (arith, a.1, b.1, d.place))
