use Rattle.oboefinch.proofs.Calls.{reading_lamport_small}
use Rattle.oboefinch.proofs.Given.{small_output, answer_output}
use Rattle.oboefinch.proofs.Listed.{tells_numbers}
use Rattle.oboefinch.proofs.oboefinch_read_lamport.Goals as goal

pub packed-requires : goal.packed-requires
packed-requires c = let e = c.read_lamport.ensures in small_output (tells_numbers _ _ _ _ (e.numbers, e.place)) e.numbers (reading_lamport_small _ _ _)

pub returns : goal.returns
returns c = let e = c.read_lamport.ensures in answer_output (tells_numbers _ _ _ _ (e.numbers, e.place)) e.numbers c.packed.ensures
