use Rattle.clock.specs.Said.{number}
use Rattle.oboefinch.specs.Packed.{verdict_fields}
use Rattle.oboefinch.proofs.Calls.{comparing_small}
use Rattle.oboefinch.proofs.Given.{tells, small_work}
use Rattle.oboefinch.proofs.Plain as plain
use Rattle.oboefinch.proofs.oboefinch_compare.Goals as goal

pub packed-requires : goal.packed-requires
packed-requires c =
    let e = plain.compare c.plain-terms.ensures _ _ _ _ c.compare.ensures in
    small_work (tells number verdict_fields _) e (comparing_small _ _ _ _ _)
