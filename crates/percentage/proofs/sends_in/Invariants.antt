use Rattle.std.proofs.Common.{◌≡◌, ◌≤◌}
use Rattle.percentage.specs.Slots.{slot_sends}
use Rattle.percentage.proofs.sends_in.Given as goal

abbrev pub invariant-loop-i : goal.invariant-loop-i
invariant-loop-i l = (l.sends ≡ slot_sends l.list l.i) × (l.sends ≤ l.i)
