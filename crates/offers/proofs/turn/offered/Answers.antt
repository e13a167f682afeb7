-- One offer: its answer is the plain machine's, and what each branch leaves behind is what `OneOffer` says of a refused offer, a send, a receive and an
-- internal event.
use mathlib.Core.Path.{◌≡◌, refl, sym, ap, ◌∙◌}
use native.Mathlib.Omega.{arith}
use lib.ListN.{set}
use Rattle.paper.specs.Machine.{answer}
use Rattle.clock.specs.Said.{stated}
use Rattle.offers.specs.Turn.{state_at}
use Rattle.offers.specs.View.{event, kind_number}
use Rattle.clock.proofs.Checks.{some_check}
use Rattle.offers.proofs.OneOffer.{few_stamps, v_small, sent_few, answered, refused_moved, p_small, own_small, internal_moved, q_small, send_moved, at_in, place_in, received_few, receive_moved}
use Rattle.offers.proofs.turn.offered.Goals as goal
use Rattle.offers.proofs.turn.offered.Goals.{In-Ok, In-Send, In-Receive, in-Internal, in-Send, in-Receive}
use Rattle.record.proofs.Outcomes.{ticked_within}
use Rattle.record.specs.View.{view}

-- Where the offer is accepted, the plain machine answers 0.
yea : (c : goal.In-Ok)
    → let a = c.args in
    answer (stated a.terms) (state_at (stated a.terms) a.list.now a.i) (event c.read-e.result) ≡ 0
yea c = sym (c.in-Ok.ensures.answer ∙ answered c.requires (sym c.read-e.ensures) _ c.find-at.ensures)

is_send : (c : goal.In-Send) → c.read-e.result.kind ≡ 1
is_send c = c.in-Ok.ensures.sort ∙ ap kind_number c.in-Send.is

is_receive : (c : goal.In-Receive) → c.read-e.result.kind ≡ 2
is_receive c = c.in-Ok.ensures.sort ∙ ap kind_number c.in-Receive.is

pub find-at-requires : goal.find-at-requires
find-at-requires c = let p = c.requires in (omega (arith, p.small, few_stamps p refl), p.chained)

pub judge-requires : goal.judge-requires
judge-requires c = let p = c.requires in (p.few, omega (arith, p.small, few_stamps p refl))

pub returns-in-Err : goal.returns-in-Err
returns-in-Err c =
    let is = sym c.read-e.ensures in
    refused_moved c.requires is refl refl (c.from.ensures ∙ c.in-Err.ensures.answer ∙ answered c.requires is _ c.find-at.ensures)
    (λ z. omega (arith, some_check c.in-Err.check, c.from.ensures))

pub send-step-requires : goal.send-step-requires
send-step-requires c =
    let p = c.requires in
    let is = sym c.read-e.ensures in
    let y = yea (goal.at.send-step-requires c).In-Ok in
    let h = is_send (goal.at.send-step-requires c).In-Send in
    (p_small p is y, q_small p is y (λ q. omega arith), own_small p is y, p.few, omega (arith, p.small, few_stamps p refl), v_small p refl, p.value_room, sent_few p refl _)

pub receive-step-requires : goal.receive-step-requires
receive-step-requires c =
    let p = c.requires in
    let is = sym c.read-e.ensures in
    let y = yea (goal.at.receive-step-requires c).In-Ok in
    let h = is_receive (goal.at.receive-step-requires c).In-Receive in
    let f = c.find-at.ensures in
    let a = at_in p is y h f in
    (p_small p is y, q_small p is y (λ q. omega arith), own_small p is y, omega (arith, a, few_stamps p refl, p.accepted, p.small), place_in p is y h f, received_few p is y h f)

pub returns-after-kind : goal.returns-after-kind
returns-after-kind c =
    let p = c.requires in
    let is = sym c.read-e.ensures in
    let y = yea (goal.at.returns-after-kind c).In-Ok in
    let a = c.args in
    elim c.match-kind.branch [
      | in-Internal w ↦ let h : c.read-e.result.kind ≡ 0 = c.in-Ok.ensures.sort ∙ ap kind_number w.in-Internal.is in
          rw (w.running-is, w.tables-is, w.values-is, w.step-is)
          (internal_moved p is y h refl
          record {
            one = refl;
            none = refl;
            from = refl;
            record_is = ticked_within _ (view a.running.now) (p_small p is y) (own_small p is y) w.internal.ensures;
            clock = rw w.running-is at c.lay.ensures;
            mask = refl;
          })
      | in-Send w ↦ let h : c.read-e.result.kind ≡ 1 = c.in-Ok.ensures.sort ∙ ap kind_number w.in-Send.is in
          let s = w.send-step.ensures in
          rw (w.running-is, w.tables-is, w.values-is, w.step-is)
          (send_moved p is y h refl
          record {
            one = refl;
            carried = s.step.1;
            from = s.step.2;
            record_is = s.moved;
            tables_are = s.table;
            clock = rw w.running-is at c.lay.ensures;
            mask = ap (set a.masks.now a.tally.accepted) s.step.0;
            value = s.value;
          })
      | in-Receive w ↦ let h : c.read-e.result.kind ≡ 2 = c.in-Ok.ensures.sort ∙ ap kind_number w.in-Receive.is in
          let s = w.receive-step.ensures in
          rw (w.running-is, w.tables-is, w.values-is, w.step-is)
          (receive_moved p is y h c.find-at.ensures refl s.table
          record {
            one = refl;
            none = s.step.1;
            from = s.step.2;
            record_is = s.moved;
            clock = rw w.running-is at c.lay.ensures;
            mask = ap (set a.masks.now a.tally.accepted) s.step.0;
          })
    ]
