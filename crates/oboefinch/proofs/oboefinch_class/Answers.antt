use Rattle.oboefinch.specs.Packed.{class_fields}
use Rattle.oboefinch.proofs.Calls.{class_small}
use Rattle.oboefinch.proofs.Given.{tells, small_output}
use Rattle.oboefinch.proofs.Plain as plain
use Rattle.oboefinch.proofs.Plain.{class_as}
use Rattle.oboefinch.proofs.oboefinch_class.Goals as goal

pub packed-requires : goal.packed-requires
packed-requires c =
    let e = plain.class c.plain-terms.ensures _ _ _ c.class.ensures in
    small_output (tells class_as class_fields _) e (class_small _ _ _ _)
