-- Clearing: where the named slots are lent, tidying all of them is what the specification says.
use mathlib.Core.Path.{sym, ◌∙◌}
use Rattle.course.specs.Said.{work}
use Rattle.course.proofs.Emptied.{swept_wiped}
use Rattle.course.proofs.clear.Goals as goal

pub returns-then-is_lent : goal.returns-then-is_lent
returns-then-is_lent c =
    let a = c.args in
    c.tidy.ensures ∙ swept_wiped a.n a.m (work a.clocks.now a.masks.now a.values.now) (sym c.is_lent.ensures ∙ c.if-is_lent.true)
