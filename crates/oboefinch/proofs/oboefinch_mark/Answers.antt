use Rattle.pupil.specs.Said.{mark}
use Rattle.oboefinch.specs.Packed.{mark_fields}
use Rattle.oboefinch.proofs.Calls.{marking_small}
use Rattle.oboefinch.proofs.Given.{tells, small_output}
use Rattle.oboefinch.proofs.oboefinch_mark.Goals as goal

pub packed-requires : goal.packed-requires
packed-requires c = small_output (tells mark mark_fields _) c.mark.ensures (marking_small _ _ _ _)
