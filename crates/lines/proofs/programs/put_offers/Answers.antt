use mathlib.Core.Path.{refl}
use native.Mathlib.Numerals.{add-one}
use native.Mathlib.Omega.{arith}
use lib.Dec.{eqb}
use lib.ListN.{get_or}
use Rattle.lines.specs.Programs.{accepted_before, offer_line}
use Rattle.lines.proofs.Laws.{lined_none, lined_more, lined_all}
use Rattle.lines.proofs.Others.{accepted_few, told}
use Rattle.lines.proofs.Slots.{fits}
use Rattle.lines.proofs.programs.put_offers.Goals as goal

pub loop-i-init : goal.loop-i-init
unfolding accepted_before
loop-i-init c = record { count = refl; lines = lined_none _ _ _ (omega arith) (omega arith) }

pub put_offer-end-requires : goal.put_offer-end-requires
put_offer-end-requires c = let l = c.loop-i in omega (arith, accepted_few c.args.answers.now l.i, l.invariant.count)

pub overflow_add-accepted : goal.overflow_add-accepted
overflow_add-accepted c =
    let l = c.loop-i in
    let n = told (eqb (get_or c.args.answers.now l.i 0) 0) c.from-accepted.ensures in
    omega (arith, accepted_few c.args.answers.now l.i, l.invariant.count, n.1)

pub loop-i-preserved : goal.loop-i-preserved
unfolding accepted_before offer_line
loop-i-preserved c =
    let i = c.loop-i.invariant in
    let p = c.put_offer-end.ensures in
    let n = told (eqb (get_or c.args.answers.now c.loop-i.i 0) 0) c.from-accepted.ensures in
    record { count = rw (add-one, i.count, n.0); lines = lined_more _ i.lines (rw (i.count, c.requires.bare) at p.0) p.1 }

pub returns : goal.returns
returns c =
    let l = c.loop-i.invariant.lines in
    let f = fits _ _ _ _ c.args.slots.now.fit in
    (lined_all _ _ l c.loop-i.auto.i-end c.loop-i-test.false, omega (arith, l.short, f.short, c.requires.few))
