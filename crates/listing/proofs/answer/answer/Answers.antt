-- The text is that of the outcome of reading with Lamport numbers, over the slots that this leaves.
use mathlib.Core.Path.{refl}
use Rattle.clock.specs.Said.{stated}
use Rattle.course.specs.Said.{work}
use Rattle.paper.specs.Buffers.{ample}
use Rattle.sheet.proofs.Accepted.{Accepted, accepted}
use Rattle.desk.proofs.Printed.{printed_as}
use Rattle.listing.proofs.Listed.{as_read, either_refused, listing_done, lamport_done}
use Rattle.listing.proofs.answer.answer.Goals as goal
use Rattle.listing.proofs.answer.answer.Goals.{In-Ok}

-- The sheet is accepted with those contents.
sheet_accepted :
    (c : goal.In-Ok) → let x = c.in-Ok.c in let t = c.read_lamport.new in
    Accepted c.args.sheet.now ample (work t.clocks t.masks t.values) (stated x.terms) x.offset x.size x.carried
sheet_accepted c = let e = c.in-Ok.ensures in accepted _ ample {c = c.in-Ok.c} refl (as_read c.args.sheet.now e.numbers, e.place)

pub returns-in-Err : goal.returns-in-Err
returns-in-Err c = printed_as (either_refused _ (as_read c.args.sheet.now c.in-Err.ensures.numbers) c.args.lamport) c.refusal_text.ensures

pub returns-then-lamport : goal.returns-then-lamport
returns-then-lamport c =
    rw c.if-lamport.true
    (printed_as (lamport_done (sheet_accepted (goal.at.returns-then-lamport c).In-Ok) c.list-list.ensures c.in-Ok.ensures.numbers) c.listing_lamport_text.ensures)

pub returns-else-lamport : goal.returns-else-lamport
returns-else-lamport c =
    rw c.if-lamport.false (printed_as (listing_done (sheet_accepted (goal.at.returns-else-lamport c).In-Ok) c.list-list.ensures) c.listing_text.ensures)
