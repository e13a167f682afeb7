-- The reader past its header: what refuses the list refuses the sheet, and then the recorded stamps do, by the laws of `InOrder`.
use Rattle.std.proofs.lemmas.Result.{err_from_is_err_and}
use Rattle.sheet.proofs.InOrder.{parts_inside, course_refused, slots_lent, recorded_differ, recorded_agree}
use Rattle.sheet.proofs.reader.judged.Goals as goal

pub of-list-requires : goal.of-list-requires
of-list-requires c = (parts_inside c.args.sheet.now c.requires.0 c.requires.1).0

pub of-requires : goal.of-requires
of-requires c = (parts_inside c.args.sheet.now c.requires.0 c.requires.1).1

pub recorded-requires : goal.recorded-requires
recorded-requires c =
    rw c.of-list.ensures (slots_lent c.args.sheet.now c.requires.0 c.requires.1 _ _ (rw c.of-list.ensures at c.in_ok-carried.ensures))

pub returns-in_err-carried-clause-numbers : goal.returns-in_err-carried-clause-numbers
returns-in_err-carried-clause-numbers c =
    let p = err_from_is_err_and c.from_residual.result c.from_residual.ensures.1 in
    rw (p.1, p.2) (course_refused c.args.sheet.now c.requires.0 c.requires.1 _ _ (rw c.of-list.ensures at c.in_err-carried.ensures))

pub returns-in_err-recorded-clause-numbers : goal.returns-in_err-recorded-clause-numbers
returns-in_err-recorded-clause-numbers c =
    let p = err_from_is_err_and c.from_residual-in_err-recorded.result c.from_residual-in_err-recorded.ensures.1 in
    let r = rw (c.of-list.ensures, c.of.ensures) at c.in_err-recorded.ensures in
    rw (p.1, p.2) (recorded_differ c.args.sheet.now c.requires.0 c.requires.1 _ _ (rw c.of-list.ensures at c.in_ok-carried.ensures) r.0 r.1 r.2)

pub returns-clause-numbers : goal.returns-clause-numbers
returns-clause-numbers c =
    let r = rw (c.of-list.ensures, c.of.ensures) at c.in_ok-recorded.ensures in
    recorded_agree c.args.sheet.now c.requires.0 c.requires.1 _ _ (rw c.of-list.ensures at c.in_ok-carried.ensures) r.0 r.1 r.2
