-- The header, the events and the stamps, one behind the other.
use Rattle.octets.proofs.Appended.{join}
use Rattle.layout.proofs.store.Listed.put_sheet.Goals as goal

pub returns : goal.returns
returns c = join (rw c.requires at c.put_header-a.ensures) (join c.put_all-b.ensures c.put_stamps.ensures)
