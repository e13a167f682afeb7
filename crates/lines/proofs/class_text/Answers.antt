use Prim.Native.Nat.{◌<◌}
use mathlib.Core.Path.{ap}
use lib.ListN.{length}
use Rattle.paper.specs.Event.{how_many}
use native.Mathlib.Omega.{arith}
use borrow.Author.Tests.{le-leb, lt-leb}
use Rattle.lines.specs.Programs.{class_text}
use Rattle.octets.proofs.Appended.{join, same}
use Rattle.lines.proofs.Laws.{printed, unprinted}
use Rattle.lines.proofs.Faithful.{first_offers}
use Rattle.lines.proofs.class_text.Goals as goal

pub returns-in_default : goal.returns-in_default
unfolding class_text
returns-in_default c = simp c.in_default.ensures (unprinted _)

pub returns-then-answers-offers : goal.returns-then-answers-offers
unfolding class_text
returns-then-answers-offers c =
    let h = c.in-Some.ensures in
    let fit = rw (h.0, h.1, h.2, h.3) at c.in-Some.slots.fit in
    let few : length c.args.answers.now < how_many c.args.list.now = omega (arith, c.events-offers.ensures.0, ap length h.1) in
    simp (fit, lt-leb _ _ few) (unprinted _)

pub returns : goal.returns
unfolding class_text
returns c =
    let h = c.in-Some.ensures in
    let fit = rw (h.0, h.1, h.2, h.3) at c.in-Some.slots.fit in
    let many = rw h.1 at c.events-offers.ensures.0 in
    let enough = rw many at c.if-answers-offers.false in
    let a = c.put_class_head-at.ensures in
    let b = c.put_offers.ensures in
    let head = rw many at a.0 in
    let lines = simp (h.0, h.1, h.2, h.3) at (same (first_offers _ _ _ _ _ _ c.if-answers-offers.false) b.0) in
    simp (fit, le-leb _ _ enough) (printed (join head (rw many at lines)) (omega (arith, a.1, b.1)))
