use Prim.Native.Nat.{◌≤◌, ◌-◌, ◌+◌, ◌*◌}
use mathlib.Core.Path.{◌≡◌}
use Rattle.paper.specs.Event.{how_many}
use Rattle.layout.specs.Sizes.{size_from, slot_size}
use Rattle.layout.proofs.store.Listed.stamps_size.Given as goal

abbrev pub invariant-loop-i : goal.invariant-loop-i
invariant-loop-i l = (l.size + size_from l.self.list.now l.masks (how_many l.self.list.now - l.i) l.i ≡ slot_size l.self.list.now l.masks) × (l.size ≤ 68 * l.i)
