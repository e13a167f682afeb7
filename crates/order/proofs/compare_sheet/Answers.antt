-- The sheet is read, and what is left is left to `comparison`.
use mathlib.Core.Path.{refl}
use Rattle.std.proofs.lemmas.Result.{err_from_is_err_and}
use Rattle.clock.specs.Said.{stated}
use Rattle.course.specs.Said.{work}
use Rattle.sheet.proofs.Accepted.{Accepted, accepted}
use Rattle.order.proofs.OfSheet.{compare_refused, compare_done}
use Rattle.order.proofs.compare_sheet.Goals as goal
use Rattle.order.proofs.compare_sheet.Goals.{In_ok-read}

-- The sheet is accepted with those contents.
sheet_accepted :
    (c : goal.In_ok-read) → let a = c.args in let x = c.in_ok-read.read in let t = c.read.new in
    Accepted a.sheet.now (work a.clocks.now a.masks.now a.values.now) (work t.clocks t.masks t.values) (stated x.terms) x.offset x.size x.carried
sheet_accepted c = accepted _ _ {c = c.in_ok-read.read} refl (c.in_ok-read.ensures.reads, c.in_ok-read.ensures.place)

pub returns-in_err-read : goal.returns-in_err-read
returns-in_err-read c =
    let p = err_from_is_err_and c.from_residual.result c.from_residual.ensures.1 in
    rw (p.1, p.2) (compare_refused _ _ _ _ c.in_err-read.ensures.reads)

pub returns : goal.returns
returns c = compare_done (sheet_accepted (goal.at.returns c).In_ok-read) c.list-list.ensures c.comparison.ensures
