-- The refusals by the count of processes and by the rows, and the verdict on the two rows lent as clocks.
use mathlib.Core.Path.{◌≡◌, sym, ◌∙◌}
use mathlib.Core.Bool.{false}
use Rattle.paper.specs.Terms.{wrong_count}
use Rattle.order.specs.Judge.{rows, not_both}
use Rattle.order.proofs.Judging.{judge_count, judge_none, judge_rows}
use Rattle.order.proofs.judge.Goals as goal
use Rattle.order.proofs.judge.Goals.{Else-is_wrong_count, Else-is_past}

right : (c : goal.Else-is_wrong_count) → wrong_count c.args.n ≡ false
right c = sym c.is_wrong_count.ensures ∙ c.if-is_wrong_count.false

both : (c : goal.Else-is_past) → let a = c.args in not_both (rows a.n a.clocks.now) a.first.0 a.second.0 ≡ false
both c = sym c.is_past.ensures ∙ c.if-is_past.false

pub returns-then-is_wrong_count : goal.returns-then-is_wrong_count
returns-then-is_wrong_count c = judge_count _ _ _ _ (sym c.is_wrong_count.ensures ∙ c.if-is_wrong_count.true) c.from.ensures

pub returns-then-is_past : goal.returns-then-is_past
returns-then-is_past c = judge_none _ _ _ _ (right (goal.at.returns-then-is_past c).Else-is_wrong_count) (sym c.is_past.ensures ∙ c.if-is_past.true) c.from-then-is_past.ensures

pub returns : goal.returns
returns c =
    let places = goal.at.returns c in
    judge_rows _ _ _ _ (right places.Else-is_wrong_count) (both places.Else-is_past) c.row.ensures c.row-2.ensures c.order.ensures
