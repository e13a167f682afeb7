use native.Mathlib.Omega.{arith}
use Rattle.octets.proofs.Appended.{join}
use Rattle.lines.proofs.event.put_stamp.Goals as goal

pub returns : goal.returns
returns c =
    let a = c.put_word-at.ensures in
    let b = c.put_words.ensures in
    (rw c.wide.ensures.0 at (join a.0 b.0), omega (arith, a.1, b.1))
