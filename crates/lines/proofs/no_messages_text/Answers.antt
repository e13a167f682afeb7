use native.Mathlib.Omega.{arith}
use Rattle.paper.specs.Bytes.{text}
use Rattle.lines.specs.Savings.{no_messages_line}
use Rattle.lines.proofs.Laws.{printed}
use Rattle.lines.proofs.no_messages_text.Goals as goal

pub returns : goal.returns
unfolding no_messages_line text
returns c = let a = c.put_all.ensures in printed a (omega (arith, a.place))
