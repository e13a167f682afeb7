use native.Mathlib.Omega.{arith}
use Rattle.lines.specs.Slots.{numbered_text}
use Rattle.octets.proofs.Appended.{join}
use Rattle.lines.proofs.Laws.{printed, unprinted}
use Rattle.lines.proofs.listing.put_listing.Goals as goal

pub returns-in_default : goal.returns-in_default
unfolding numbered_text
returns-in_default c = simp c.in_default.ensures (unprinted _)

pub returns : goal.returns
unfolding numbered_text
returns c =
    let a = c.put_head-at.ensures in
    let b = c.put_events.ensures in
    let h = c.in-Some.ensures in
    let fit = rw (h.0, h.1, h.2, h.3) at c.in-Some.slots.fit in
    let head = rw (c.events.ensures.0, h.1) at a.0 in
    let lines = simp (h.0, h.1, h.2, h.3, h.4) at b.0 in
    simp fit (printed (join head lines) (omega (arith, a.1, b.1)))
