-- The loop has marked the first j lines.
use mathlib.Core.Path.{ap, ◌∙◌}
use Rattle.pupil.specs.Rows.{row_right}
use Rattle.pupil.proofs.Loop.{to_start, to_more}
use Rattle.pupil.proofs.mark_all.Goals as goal

pub loop-j-init : goal.loop-j-init
loop-j-init c = to_start

pub loop-j-preserved : goal.loop-j-preserved
loop-j-preserved c =
    let a = c.args in
    to_more c.loop-j.invariant (c.is_right-right.ensures ∙ ap (row_right a.n a.m a.clocks.now) c.line_at.ensures) c.from.ensures c.from-total.ensures
