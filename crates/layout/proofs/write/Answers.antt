-- Writing: what refuses the list refuses the writing; after an accepted list what is laid is what the paper writes.
use mathlib.Core.Path.{◌∙◌}
use native.Mathlib.Omega.{arith}
use Rattle.std.proofs.lemmas.Result.{err_from_is_err_and}
use Rattle.clock.specs.Said.{stated}
use Rattle.course.specs.Said.{work}
use Rattle.paper.specs.Stands.{Stands}
use Rattle.sheet.proofs.Filled.{slots_there}
use Rattle.layout.proofs.InOrder.{write_refused, write_passed, accepted}
use Rattle.layout.proofs.write.Goals as goal
use Rattle.layout.proofs.write.Goals.{In_ok-strict}

stands : (c : goal.In_ok-strict) → let a = c.args in let t = c.strict.new in
    Stands (stated a.terms) a.list.now (work a.clocks.now a.masks.now a.values.now) (work t.clocks t.masks t.values)
stands c = accepted c.in_ok-strict.ensures

pub invariant_of-written-clause-few : goal.invariant_of-written-clause-few
invariant_of-written-clause-few c =
    let s = stands (goal.at.invariant_of-written-clause-few c).In_ok-strict in
    omega (arith, s.held.listed.processes.1)

pub invariant_of-written-clause-short : goal.invariant_of-written-clause-short
invariant_of-written-clause-short c =
    let (m, few, size) = (stands (goal.at.invariant_of-written-clause-short c).In_ok-strict).held.listed.whole_records in
    omega arith

pub written-requires : goal.written-requires
written-requires c = slots_there (stands (goal.at.written-requires c).In_ok-strict)

pub returns-in_err-strict : goal.returns-in_err-strict
returns-in_err-strict c =
    let p = err_from_is_err_and c.from_residual.result c.from_residual.ensures.1 in
    rw (p.1, p.2) (write_refused _ _ _ _ _ c.in_err-strict.ensures)

pub returns : goal.returns
returns c = c.written.ensures ∙ write_passed _ _ _ _ _ (stands (goal.at.returns c).In_ok-strict)
