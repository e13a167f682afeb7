-- The mask, and behind it the values.
use mathlib.Core.List.{flat_map}
use Rattle.layout.proofs.Stored.{stored_stamp}
use Rattle.layout.proofs.store.put_stamp.Goals as goal

pub returns : goal.returns
unfolding flat_map
returns c = let s = c.args.stamp in stored_stamp s.mask _ s.values.now c.wide.ensures.0 c.put_four-to.ensures c.put_values.ensures
