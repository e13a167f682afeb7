use borrow.Author.Tests.{le-leb, lt-leb}
use Rattle.lines.specs.Slots.{listing_lamport_text}
use Rattle.lines.proofs.Laws.{unprinted}
use Rattle.lines.proofs.listing_lamport_text.Goals as goal

pub returns-then-lamports-list : goal.returns-then-lamports-list
unfolding listing_lamport_text
returns-then-lamports-list c = rw (lt-leb _ _ c.if-lamports-list.true) (unprinted _)

pub returns : goal.returns
unfolding listing_lamport_text
returns c = rw (le-leb _ _ c.if-lamports-list.false) c.put_listing.ensures
