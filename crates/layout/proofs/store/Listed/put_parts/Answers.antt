-- Four numbers, one behind the other.
use Rattle.octets.proofs.Appended.{join}
use Rattle.layout.proofs.store.Listed.put_parts.Goals as goal

pub returns : goal.returns
returns c = join (join (join c.put_four-a.ensures c.put_four-b.ensures) c.put_four-c.ensures) c.put_four.ensures
