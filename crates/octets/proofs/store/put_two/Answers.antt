-- The lower byte, and behind it the upper one.
use Rattle.paper.specs.Bytes.{two_bytes}
use Rattle.octets.proofs.Appended.{join}
use Rattle.octets.proofs.store.put_two.Goals as goal

pub returns : goal.returns
unfolding two_bytes
returns c = rw (← c.low.ensures, ← c.low-2.ensures) (join c.put-k.ensures c.put.ensures)
