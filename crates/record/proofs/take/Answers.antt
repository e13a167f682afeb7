-- A receive takes in a stamp: the loop keeps `Taken`, and at its end the record is what R3 says.
use Prim.Native.Nat.{◌^◌, ◌<◌}
use native.Mathlib.Omega.{arith}
use lib.ListN.{length}
use Rattle.record.proofs.Taking.{value_below, taken_end}
use Rattle.record.proofs.take.Goals as goal
use Rattle.record.proofs.take.Goals.{In-Some, Start, else-running-k, then-running-k}

word : (c : goal.Start) → c.args.mask < 2 ^ 32
word c = omega (arith, c.ranges.mask)

room : (c : goal.In-Some) → c.loop-k.next < length c.args.values.now
room c = omega (arith, c.requires, value_below c.loop-k.invariant (word (goal.at.In-Some c).Start) c.in-Some.ensures.steps)

pub offset_bounds-values-next : goal.offset_bounds-values-next
offset_bounds-values-next c = omega (arith, room (goal.at.offset_bounds-values-next c).In-Some)

pub bounds-values-next : goal.bounds-values-next
bounds-values-next c = room (goal.at.bounds-values-next c).In-Some

pub overflow_add-next : goal.overflow_add-next
overflow_add-next c = omega (arith, room (goal.at.overflow_add-next c).In-Some)

pub returns : goal.returns
returns c p e =
    taken_end c.loop-k.invariant (word (goal.at.returns c).Start) p (record { clock = omega arith; updated = omega arith; sent = omega arith })
    e c.in-None.ensures.steps
