-- The scan does not pass the learner, and stops there.
use Prim.Native.Nat.{◌+◌, ◌*◌, ◌<◌}
use mathlib.Core.Path.{◌≡◌}
use native.Mathlib.Omega.{arith}
use lib.ListN.{get_or}
use Rattle.clock.specs.Event.{process_at}
use Rattle.paper.specs.Event.{how_many}
use Rattle.teaching.specs.Walk.{knows}
use Rattle.teaching.proofs.Walking.{there, process_few, scan_inside, scan_more, scan_found}
use Rattle.teaching.proofs.path.Course.learner.Goals as goal
use Rattle.teaching.proofs.path.Course.learner.Goals.{After-has_learnt, At-loop-c}

-- The scan is still inside the list.
inside : (c : goal.At-loop-c) → c.loop-c.c < how_many c.args.self.list.now
inside c = let s = c.requires in scan_inside s.0 s.1 s.2 c.process_at-p.ensures c.loop-c.invariant

-- What the test says of the two events.
tested :
    (c : goal.After-has_learnt) → let a = c.args in
    let p = c.process_at-p.result.0 in
    c.has_learnt.result
    ≡ knows a.self.terms.processes a.self.list.now a.self.clocks.now c.loop-c.c (process_at a.self.list.now a.second.0) p
    (get_or a.self.clocks.now (a.self.terms.processes * a.first.0 + p) 0)
tested c = rw (c.process_at-process.ensures, c.component-own.ensures) at c.has_learnt.ensures

pub component-own-requires : goal.component-own-requires
component-own-requires c =
    let s = c.requires in
    there s.0 _ _ s.1.from (omega (arith, process_few s.0 _ s.1.from, c.process_at-p.ensures))

pub has_learnt-requires : goal.has_learnt-requires
has_learnt-requires c =
    let s = c.requires in
    there s.0 _ _ (inside (goal.at.has_learnt-requires c).At-loop-c) (omega (arith, process_few s.0 _ s.1.from, c.process_at-p.ensures))

pub returns-then-has_learnt : goal.returns-then-has_learnt
returns-then-has_learnt c =
    let s = c.requires in
    scan_found s.0 s.1 s.2 c.process_at-p.ensures c.loop-c.invariant (tested (goal.at.returns-then-has_learnt c).After-has_learnt) c.if-has_learnt.true

pub loop-c-preserved : goal.loop-c-preserved
loop-c-preserved c =
    let s = c.requires in
    scan_more s.0 s.1 s.2 c.process_at-p.ensures c.loop-c.invariant (tested (goal.at.loop-c-preserved c).After-has_learnt) c.if-has_learnt.false

pub unreachable-requires : goal.unreachable-requires
unreachable-requires c = absurd (omega (arith, inside (goal.at.unreachable-requires c).At-loop-c))
