use Rattle.percentage.specs.Said.{saving}
use Rattle.oboefinch.specs.Packed.{saving_fields}
use Rattle.oboefinch.proofs.Calls.{storing_small}
use Rattle.oboefinch.proofs.Given.{tells, small_output}
use Rattle.oboefinch.proofs.oboefinch_savings.Goals as goal

pub packed-requires : goal.packed-requires
packed-requires c = small_output (tells saving saving_fields _) c.store.ensures (storing_small _ _ _)
