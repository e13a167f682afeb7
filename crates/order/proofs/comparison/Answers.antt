-- 20 sets the slots to 0; else the verdict is that of the two rows.
use mathlib.Core.Path.{sym, ◌∙◌}
use Rattle.order.proofs.Asked.{compare_none, compare_judged}
use Rattle.order.proofs.comparison.Goals as goal

pub returns-then-is_past : goal.returns-then-is_past
returns-then-is_past c = compare_none (sym c.is_past.ensures ∙ c.if-is_past.true) c.from.ensures c.clear.ensures

pub returns : goal.returns
returns c = compare_judged (sym c.is_past.ensures ∙ c.if-is_past.false) c.judge.ensures
