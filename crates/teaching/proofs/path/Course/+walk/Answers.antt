-- The walk of the chain: each step is by the laws of `Walking`.
use mathlib.Core.Bool.{false≢true}
use mathlib.Core.Logic.{◌≢◌}
use borrow.Author.Tests.{eqb-true, eq-eqb}
use mathlib.Core.Path.{sym, ◌∙◌}
use native.Mathlib.Omega.{arith}
use Prim.Native.Nat.{ℕ, ◌+◌, ◌≤◌, ◌<◌}
use Rattle.clock.specs.Event.{process_at}
use Rattle.clock.specs.Said.{stated}
use Rattle.teaching.specs.Walk.{Reaches}
use Rattle.teaching.proofs.Walking.{stops, was_sent, earlier, onward, fits, turn}
use Rattle.teaching.proofs.path.Course.+walk.Goals as goal
use Rattle.teaching.proofs.path.Course.+walk.Goals.{Else-eq, After-sender-s, After-walk-k}

-- The two events are on different processes.
apart : (t : ℕ) (c : goal.Else-eq t) → let a = c.args in process_at a.self.list.now a.second.0 ≢ process_at a.self.list.now a.first.0
apart t c q =
    false≢true (sym c.if-eq.false ∙ c.eq.ensures ∙ eq-eqb c.process_at-q.result.0 c.process_at-p.result.0 (c.process_at-q.ensures ∙ q ∙ sym c.process_at-p.ensures))

-- The walk goes on from the send that was found.
sent_onward : (t : ℕ) (c : goal.After-sender-s t) → let a = c.args in Reaches (stated a.self.terms) a.self.list.now a.first.0 c.sender-s.result.0
sent_onward t c =
    let s = c.requires in
    onward s.0 s.1 (apart t (goal.at.After-sender-s t c).Else-eq) c.learner-r.ensures c.message_at.ensures c.sender-s.ensures

-- There is a slot for it.
slot_for_it : (t : ℕ) (c : goal.After-walk-k t) → let a = c.args in (c.walk-k.result + 1 < a.self.terms.processes) × (a.self.terms.processes ≤ 32)
slot_for_it t c =
    let s = c.requires in
    fits s.0 s.1 (apart t (goal.at.After-walk-k t c).Else-eq) c.learner-r.ensures c.message_at.ensures c.sender-s.ensures c.walk-k.ensures.0

pub returns-then-eq : goal.returns-then-eq
returns-then-eq t c =
    let s = c.requires in
    stops s.0 s.1 _ (sym c.process_at-q.ensures ∙ eqb-true c.process_at-q.result.0 c.process_at-p.result.0 (sym c.eq.ensures ∙ c.if-eq.true) ∙ c.process_at-p.ensures)

pub sender-s-requires : goal.sender-s-requires
sender-s-requires t c =
    let s = c.requires in
    was_sent s.0 s.1 (apart t (goal.at.sender-s-requires t c).Else-eq) c.learner-r.ensures c.message_at.ensures

pub walk-k-requires : goal.walk-k-requires
walk-k-requires t c =
    let s = c.requires in
    let places = goal.at.walk-k-requires t c in
    let before = earlier s.0 s.1 (apart t places.Else-eq) c.learner-r.ensures c.message_at.ensures c.sender-s.ensures in
    (omega (arith, before), (s.0, sent_onward t places.After-sender-s, s.2))

pub offset_bounds-out-k : goal.offset_bounds-out-k
offset_bounds-out-k t c = omega (arith, slot_for_it t (goal.at.offset_bounds-out-k t c).After-walk-k)

pub bounds-out-k : goal.bounds-out-k
bounds-out-k t c = omega (arith, slot_for_it t (goal.at.bounds-out-k t c).After-walk-k, c.requires.2)

pub overflow_add-result : goal.overflow_add-result
overflow_add-result t c = omega (arith, slot_for_it t (goal.at.overflow_add-result t c).After-walk-k)

pub returns : goal.returns
returns t c =
    let s = c.requires in
    let w = c.walk-k.ensures in
    turn s.0 s.1 (apart t (goal.at.returns t c).Else-eq) c.learner-r.ensures c.message_at.ensures c.sender-s.ensures _ w.0 w.1
