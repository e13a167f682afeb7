-- The components whose bits are set, stored one after another: the loop keeps `Picked`.
use Prim.Native.Nat.{◌^◌, ◌<◌}
use native.Mathlib.Omega.{arith}
use lib.ListN.{length}
use Rattle.record.proofs.Picking.{picked_long, value_below, picked_end}
use Rattle.record.proofs.row.pick.Goals as goal
use Rattle.record.proofs.row.pick.Goals.{In-Some, Start}

word : (c : goal.Start) → c.args.mask < 2 ^ 32
word c = omega (arith, c.ranges.mask)

room : (c : goal.In-Some) → c.loop-k.c < length c.args.out.now
room c = omega (arith, c.requires, value_below _ _ _ _ c.loop-k.invariant (word (goal.at.In-Some c).Start) c.in-Some.ensures.steps)

pub offset_bounds-out-c : goal.offset_bounds-out-c
offset_bounds-out-c c = omega (arith, room (goal.at.offset_bounds-out-c c).In-Some)

pub bounds-out-c : goal.bounds-out-c
bounds-out-c c = omega (arith, room (goal.at.bounds-out-c c).In-Some, picked_long _ _ _ _ c.loop-k.invariant (word (goal.at.bounds-out-c c).Start))

pub overflow_add-c : goal.overflow_add-c
overflow_add-c c = omega (arith, room (goal.at.overflow_add-c c).In-Some)

pub returns : goal.returns
returns c = picked_end _ _ _ _ c.loop-k.invariant (word (goal.at.returns c).Start) c.in-None.ensures.steps
