use Rattle.clock.specs.Said.{number}
use Rattle.oboefinch.specs.Packed.{verdict_fields}
use Rattle.oboefinch.proofs.Calls.{ordering_small}
use Rattle.oboefinch.proofs.Given.{tells, small_alone}
use Rattle.oboefinch.proofs.oboefinch_order.Goals as goal

pub packed-requires : goal.packed-requires
packed-requires c = small_alone (tells number verdict_fields _) c.order.ensures (ordering_small _ _)
