use Rattle.oboefinch.specs.Packed.{write_fields}
use Rattle.oboefinch.proofs.Calls.{writing_small}
use Rattle.oboefinch.proofs.Given.{tells, small_output}
use Rattle.oboefinch.proofs.Plain as plain
use Rattle.oboefinch.proofs.Plain.{written_as}
use Rattle.oboefinch.proofs.oboefinch_write.Goals as goal

pub packed-requires : goal.packed-requires
packed-requires c =
    let e = plain.write c.plain-terms.ensures _ _ _ c.write.ensures in
    small_output (tells written_as write_fields _) e (writing_small _ _ _ _)
