-- No messages save nothing, and otherwise the one division rounds the fraction of two exact numbers.
use borrow.Author.Tests.{eq-eqb}
use Rattle.paper.specs.Savings.{saving}
use Rattle.percentage.specs.Said.{counts}
use Rattle.percentage.proofs.Rounded.{figure_right}
use Rattle.percentage.proofs.figure.Goals as goal

pub returns-then-c-eq0 : goal.returns-then-c-eq0
unfolding saving
returns-then-c-eq0 c = simp (eq-eqb _ _ c.if-c-eq0.true)

pub returns : goal.returns
returns c = figure_right (counts c.args.c) c.requires c.if-c-eq0.false
