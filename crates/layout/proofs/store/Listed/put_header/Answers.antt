-- The start, and behind it where the parts lie.
use Rattle.paper.specs.Bytes.{two_bytes, four_bytes, text}
use Rattle.paper.specs.Sheet.{header}
use Rattle.octets.proofs.Appended.{join}
use Rattle.layout.proofs.store.Listed.put_header.Goals as goal

pub returns : goal.returns
unfolding header text two_bytes four_bytes
returns c = join c.put_start-at.ensures c.put_parts.ensures
