-- Each event's piece is found where the pieces before it end.
use mathlib.Core.Logic.{inl}
use Rattle.std.proofs.Common.{◌∙◌, ap, sym, refl, arith, length, drop, rules}
use Rattle.std.proofs.lemmas.Slice.{between_to_end}
use borrow.Author.Tests.{eqb-true, eqb-false}
use Rattle.paper.specs.Event.{how_many}
use Rattle.paper.specs.Reading.{begins}
use Rattle.sheet.proofs.Compared.{begins_long, stamp_long, walk_stop, walk_more, walk_end, left_over}
use Rattle.sheet.proofs.Shifted.{pieces_many}
use Rattle.sheet.proofs.stamps.compare.Goals as goal

pub loop-i-init-derived : goal.loop-i-init-derived
loop-i-init-derived c =
    let s = c.args.stamps in
    let n = c.enumerate-i-items.ensures in
    let many = pieces_many s.list.now s.masks.now s.values.now (how_many s.list.now) 0 in
    ((tt, tt, inl (rw (c.into_iter-i-iterator.ensures.into_iter_gives, n.source, n.count) (omega (arith, many, c.ranges.stamps.0)))), tt)

pub loop-i-preserved-in_default : goal.loop-i-preserved-in_default
unfolding begins
loop-i-preserved-in_default c =
    let s = c.in-Some.ensures.steps in
    walk_more _ _ c.loop-i.invariant (rw c.in_default.is at s.0) s.2 refl refl

pub returns-then-not-is_recorded : goal.returns-then-not-is_recorded
returns-then-not-is_recorded c =
    let s = c.in-Some.ensures.steps in
    rw (c.of_event.ensures, c.from.ensures, s.1)
    (walk_stop _ _ c.loop-i.invariant (rw c.in-Some-stamp.is at s.0) (sym c.is_recorded.ensures ∙ c.if-not-is_recorded.true))

pub slice_bounds-rest-count : goal.slice_bounds-rest-count
slice_bounds-rest-count c =
    let s = c.in-Some-stamp.s in
    omega (arith, begins_long _ _ (sym c.is_recorded.ensures ∙ c.if-not-is_recorded.false), stamp_long s.mask s.values.now, c.size.ensures.0)

pub slice_bounds-rest-start : goal.slice_bounds-rest-start
slice_bounds-rest-start c =
    let s = c.in-Some-stamp.s in
    let long = begins_long _ _ (sym c.is_recorded.ensures ∙ c.if-not-is_recorded.false) in
    let size = c.size.ensures.0 ∙ sym (stamp_long s.mask s.values.now) in
    search rules

pub loop-i-preserved : goal.loop-i-preserved
loop-i-preserved c =
    let s = c.in-Some.ensures.steps in
    let t = c.in-Some-stamp.s in
    let long = c.size.ensures.0 ∙ sym (stamp_long t.mask t.values.now) in
    walk_more _ _ c.loop-i.invariant (rw c.in-Some-stamp.is at s.0) s.2 (sym c.is_recorded.ensures ∙ c.if-not-is_recorded.false)
    (between_to_end c.loop-i.rest.now _ (length c.loop-i.rest.now) (omega arith) ∙ ap (λ k. drop k c.loop-i.rest.now) long)

pub returns-then-is_empty : goal.returns-then-is_empty
returns-then-is_empty c =
    walk_end _ _ c.loop-i.invariant c.in-None.ensures.steps.0.0 (eqb-true _ 0 (sym c.is_empty.ensures ∙ c.if-is_empty.true))

pub returns-else-is_empty : goal.returns-else-is_empty
returns-else-is_empty c =
    rw c.from-else-is_empty.ensures
    (left_over _ _ c.loop-i.invariant c.in-None.ensures.steps.0.0 (eqb-false _ 0 (sym c.is_empty.ensures ∙ c.if-is_empty.false)))
