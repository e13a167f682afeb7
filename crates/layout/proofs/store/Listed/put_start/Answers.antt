-- Four pieces, one behind the other.
use Rattle.paper.specs.Bytes.{text}
use Rattle.octets.proofs.Appended.{join}
use Rattle.layout.proofs.store.Listed.put_start.Goals as goal

pub returns : goal.returns
unfolding text
returns c = join (join (join c.put_all-a.ensures c.put-b.ensures) c.put_two-c.ensures) c.put_two.ensures
