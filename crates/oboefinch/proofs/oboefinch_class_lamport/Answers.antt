use Rattle.oboefinch.specs.Packed.{class_fields}
use Rattle.oboefinch.proofs.Calls.{class_lamport_small}
use Rattle.oboefinch.proofs.Given.{tells, small_two}
use Rattle.oboefinch.proofs.Plain as plain
use Rattle.oboefinch.proofs.Plain.{class_as}
use Rattle.oboefinch.proofs.oboefinch_class_lamport.Goals as goal

pub packed-requires : goal.packed-requires
packed-requires c =
    let e = plain.class_lamport c.plain-terms.ensures _ _ _ _ c.class_lamport.ensures in
    small_two (tells class_as class_fields _) e (class_lamport_small _ _ _ _ _)
