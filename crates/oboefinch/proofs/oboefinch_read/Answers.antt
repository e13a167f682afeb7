use Rattle.oboefinch.proofs.Calls.{reading_small}
use Rattle.oboefinch.proofs.Given.{small_work, answer_work}
use Rattle.oboefinch.proofs.Listed.{tells_read}
use Rattle.oboefinch.proofs.oboefinch_read.Goals as goal

pub packed-requires : goal.packed-requires
packed-requires c = let e = c.read.ensures in small_work (tells_read _ _ _ (e.reads, e.place)) e.reads (reading_small _ _)

pub returns : goal.returns
returns c = let e = c.read.ensures in answer_work (tells_read _ _ _ (e.reads, e.place)) e.reads c.packed.ensures
