-- The loop over the offers. Its invariant is `Underway`: the tables, the records and the lent slots stand for the run of the plain machine over the
-- offers tried so far; each turn is one law of `Going`, at places that are named once.
use mathlib.Core.Path.{refl}
use Rattle.offers.proofs.Going.{underway_start, ready, countable, small, went_on, passed_over, stopped, ran_through}
use Rattle.offers.proofs.turn.in_turn.Goals as goal
use Rattle.offers.proofs.turn.in_turn.Goals.{in-Some, in-None+else-strict}

pub loop-i-init : goal.loop-i-init
loop-i-init c = underway_start _ _ _ _ _ c.new-records.ensures c.new-tables.ensures

pub offered-requires : goal.offered-requires
offered-requires c =
    let s = c.slot-p.ensures in
    rw c.wide-own.ensures.0 (ready c.requires c.loop-i.invariant c.loop-i-test.true s.1 s.0)

pub advance-requires : goal.advance-requires
advance-requires c =
    let s = c.slot-p.ensures in
    countable c.requires c.loop-i.invariant c.loop-i-test.true s.1 s.0 _

pub with-tally-requires : goal.with-tally-requires
with-tally-requires c =
    let s = c.slot-p.ensures in
    small c.requires c.loop-i.invariant c.loop-i-test.true s.1 s.0 (rw c.wide-own.ensures.0 at c.in-Some.ensures)

pub returns-then-strict : goal.returns-then-strict
returns-then-strict c =
    let s = c.slot-p.ensures in
    stopped c.requires c.loop-i.invariant c.loop-i-test.true s.1 s.0 (rw c.wide-own.ensures.0 at c.in-None.ensures) c.if-strict.true c.after.ensures

pub loop-i-preserved : goal.loop-i-preserved
loop-i-preserved c =
    let s = c.slot-p.ensures in
    let u = c.loop-i.invariant in
    elim c.match-offered.branch [
      | in-Some w ↦ rw (w.lamports-is, w.latest-is, w.tally-is, c.wide-own.ensures.0)
          (went_on c.requires u c.loop-i-test.true s.1 s.0 (rw c.wide-own.ensures.0 at w.in-Some.ensures) w.advance.ensures refl w.with-tally.ensures)
      | in-None+else-strict w ↦ rw (w.lamports-is, w.latest-is, w.tally-is, c.wide-own.ensures.0)
          (passed_over c.requires u c.loop-i-test.true s.1 s.0 (rw c.wide-own.ensures.0 at w.in-None.ensures) w.if-strict.false)
    ]

pub returns : goal.returns
returns c = ran_through c.requires c.loop-i.invariant c.loop-i-test.false c.after-2.ensures
