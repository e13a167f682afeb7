use mathlib.Core.Path.{◌≡◌, ap, ◌∙◌}
use mathlib.Core.Bool.{true, false}
use lib.ListN.{length}
use Rattle.paper.specs.Refusals.{refused, done}
use Rattle.clock.proofs.Laws.{unfit, ordering_refused, ordering_judged, same_length}
use Rattle.clock.proofs.order.Goals as goal
use Rattle.clock.proofs.order.Goals.{Then-is_wrong_count-n, Else-is_wrong_count-n}

is_unfit : (c : Then-is_wrong_count-n) → unfit (length c.args.first.now) (length c.args.second.now) ≡ true
is_unfit c = rw (← c.is_wrong_count.ensures) c.if-is_wrong_count-n.true

is_fit : (c : Else-is_wrong_count-n) → unfit (length c.args.first.now) (length c.args.second.now) ≡ false
is_fit c = rw (← c.is_wrong_count.ensures) c.if-is_wrong_count-n.false

pub returns-then-is_wrong_count-n : goal.returns-then-is_wrong_count-n
returns-then-is_wrong_count-n c = ap refused c.from.ensures ∙ ordering_refused _ _ (is_unfit (goal.at.returns-then-is_wrong_count-n c).Then-is_wrong_count-n)

pub ways-there-requires : goal.ways-there-requires
ways-there-requires c = same_length _ _ (is_fit c)

pub returns : goal.returns
returns c =
    let fit = is_fit (goal.at.returns c).Else-is_wrong_count-n in
    ap done c.judge.ensures ∙ ordering_judged c.args.first.now c.args.second.now _ _ fit c.ways-there.ensures.0 c.ways-there.ensures.1
