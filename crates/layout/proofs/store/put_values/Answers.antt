-- The first values are stored.
use mathlib.Core.List.{flat_map}
use Rattle.std.proofs.Common.{arith}
use Rattle.octets.proofs.Appended.{none}
use Rattle.layout.proofs.Stored.{value_more, all_values}
use Rattle.layout.proofs.store.put_values.Goals as goal

pub loop-v-init : goal.loop-v-init
unfolding flat_map
loop-v-init c = none _ _ (omega arith) (omega arith)

pub loop-v-preserved : goal.loop-v-preserved
loop-v-preserved c = value_more c.args.values.now c.loop-v.v-index _ c.loop-v-test.true c.wide.ensures.0 c.loop-v.invariant c.put_two-to.ensures

pub returns : goal.returns
unfolding flat_map
returns c = rw (all_values c.args.values.now c.loop-v.v-index c.loop-v-test.false) at c.loop-v.invariant
