use Prim.Native.Nat.{◌+◌, ◌-◌, ◌*◌}
use mathlib.Core.Path.{◌≡◌, refl}
use native.Mathlib.Omega.{arith}
use borrow.Author.Rules.{rules}
use Rattle.paper.specs.Bytes.{text}
use Rattle.lines.specs.Slots.{slot_line}
use Rattle.octets.proofs.Appended.{join, same}
use Rattle.lines.proofs.Slots.{row, words_are}
use Rattle.lines.proofs.event.Slots.put_event.Goals as goal

pub overflow_mul-from : goal.overflow_mul-from
overflow_mul-from c = omega (arith, (row _ _ _ _ _ c.args.self.now.fit c.requires).small)

pub bounds-self-number : goal.bounds-self-number
bounds-self-number c = (row _ _ _ _ _ c.args.self.now.fit c.requires).mask

pub overflow_add-from : goal.overflow_add-from
overflow_add-from c = let r = row _ _ _ _ _ c.args.self.now.fit c.requires in omega (arith, r.small, r.few)

pub offset_bounds-self-from : goal.offset_bounds-self-from
offset_bounds-self-from c = omega (arith, (row _ _ _ _ _ c.args.self.now.fit c.requires).small)

pub slice_bounds-put_stamp-end : goal.slice_bounds-put_stamp-end
slice_bounds-put_stamp-end c = let r = row _ _ _ _ _ c.args.self.now.fit c.requires in search rules

pub put_stamp-at-requires : goal.put_stamp-at-requires
put_stamp-at-requires c = let r = row _ _ _ _ _ c.args.self.now.fit c.requires in search rules

pub returns : goal.returns
unfolding slot_line text
returns c =
    let s = c.args.self.now in
    let many : s.processes * c.args.number + s.processes - s.processes * c.args.number ≡ s.processes = omega arith in
    let a = c.put_fields-at.ensures in
    let b = c.put_stamp-at.ensures in
    let d = c.put_last-at.ensures in
    let e = c.put.ensures in
    (join (join (same (words_are s.processes _ _ _ _ _ refl many) (join a.0 b.0)) d.0) e, omega (arith, a.1, b.1, d.1, e.place))
