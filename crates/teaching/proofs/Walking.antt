-- The walk of the chain over the bytes and slots of an accepted list: the scan for the learner, the crossing of its message, and what is stored.
use Prim.Native.Nat.{ℕ, ◌+◌, ◌*◌, ◌≤◌, ◌<◌}
use native.Mathlib.Nat.{eq-or-lt_of_le}
use native.Mathlib.Omega.{arith}
use mathlib.Core.Path.{◌≡◌, sym, ap, ◌∙◌}
use mathlib.Core.Logic.{◌≢◌, ◌⊎◌, inl, inr}
use mathlib.Core.Bool.{Bool, true, false, false≢true}
use mathlib.Core.List.{List, [], ◌∷◌, ◌++◌}
use lib.Dec.{eqb, leb}
use lib.ListN.{length, get_or, set, length-append}
use lib.Seq.{sets}
use borrow.Author.Tests.{eqb-true, leb-true, eq-eqb, le-leb}
use Rattle.clock.specs.Event.{process_at, message_at}
use Rattle.paper.specs.Chain.{own_number, learner, sender, chain}
use Rattle.paper.specs.Clock.{part}
use Rattle.paper.specs.Event.{Event, event_at, events_of, how_many}
use Rattle.paper.specs.Order.{event_of, clock_of}
use Rattle.paper.proofs.Causality.Along.{kept}
use Rattle.paper.proofs.Causality.Told.{Told}
use Rattle.paper.proofs.ChainRight.{Right, Crossed, chain_onward}
use Rattle.paper.proofs.ChainRoom.{room_onward}
use Rattle.paper.proofs.Laws.Sends.{crossing, sender_inside}
use Rattle.paper.proofs.Laws.Stores.{stored}
use Rattle.paper.proofs.Laws.Tests.{and_both, and_true}
use Rattle.paper.specs.Machine.{Clocked, accepted_of}
use Rattle.paper.specs.Stands.{Held}
use Rattle.paper.specs.Terms.{Terms}
use Rattle.paper.proofs.Stands.{small, brief, clock_there, row_long, all, event_there, process_there}
use Rattle.course.specs.Said.{work}
use Rattle.teaching.specs.Walk.{Standing, Reaches, knows, Sent}

module _ {t : Terms} {list clocks : List ℕ} (s : Standing t list clocks) where
  abbrev n : ℕ
  n = t.processes

  abbrev es : List Clocked
  es = accepted_of t list

  held : Held t list s.old (work clocks s.masks s.values)
  held = s.stands.held

  told : Told es
  told = (kept t (small held) (events_of list)).told

  process : (c : ℕ) → c < how_many list → (event_of es c).process ≡ process_at list c
  unfolding event_at
  process c h = ap (λ (e : Event). e.process) (event_there s.stands c h)

  -- The slots of an event of the list, component by component.
  pub there : (c p : ℕ) → c < how_many list → p < n → (n * c + p < length clocks) × (c < 512) × (n ≤ 32)
  there c p h i = (omega (arith, (row_long held c (omega (arith, all s.stands))).0), omega (arith, brief held), small held)

  pub process_few : (c : ℕ) → c < how_many list → process_at list c < n
  process_few = process_there s.stands

  module _ {a b : ℕ} (r : Reaches t list a b) where
    right : Right es a b
    right = chain_onward t (small held) (events_of list) a b (omega (arith, all s.stands, r.to)) r.leads

    pub stops :
        (old : List ℕ) → process_at list b ≡ process_at list a → (0 ≡ length (chain es a b)) × (old ≡ sets old 0 (chain es a b))
    stops old e =
        let none : chain es a b ≡ [] = right.same (process b r.to ∙ e ∙ sym (process a r.from)) in
        (rw none, rw none)

    pub few : length (chain es a b) < n
    few = room_onward t (small held) (events_of list) a b (omega (arith, all s.stands, r.to)) r.leads

    -- Component p of the event at c, where p is a's process.
    slot : (p c : ℕ) → p ≡ process_at list a → c < how_many list → get_or clocks (n * c + p) 0 ≡ part (clock_of es c) (event_of es a).process
    slot p c e h =
        let q : p ≡ (event_of es a).process = e ∙ sym (process a r.from) in
        clock_there held c p (omega (arith, all s.stands)) (rw e (process_few a r.from)) ∙ ap (λ (k : ℕ). part (clock_of es c) k) q

    module _ (apart : process_at list b ≢ process_at list a) where
      abbrev found : ℕ
      found = learner es a b

      crossed : Crossed es a b (sender es found) found
      crossed = right.crossed (λ q. apart (sym (process b r.to) ∙ q ∙ process a r.from))

      found_inside : found < how_many list
      found_inside = omega (arith, crossed.along.1, r.to)

      -- The scan at c has not passed the learner.
      module _ {p c : ℕ} (e : p ≡ process_at list a) (l : c ≤ found) where
        pub scan_inside : c < how_many list
        scan_inside = omega (arith, found_inside)

        own : get_or clocks (n * a + p) 0 ≡ own_number es a
        own = slot p a e r.from

        pub scan_more : {x : Bool} → x ≡ knows n list clocks c (process_at list b) p (get_or clocks (n * a + p) 0) → x ≡ false → c + 1 ≤ found
        scan_more {x} is h = go (eq-or-lt_of_le l)
          where
            here : c ≡ found → knows n list clocks c (process_at list b) p (get_or clocks (n * a + p) 0) ≡ true
            here q =
                and_true _ _
                (eq-eqb (process_at list c) (process_at list b)
                (sym (process c scan_inside) ∙ ap (λ (x : ℕ). (event_of es x).process) q ∙ crossed.along.0 ∙ process b r.to))
                (le-leb (get_or clocks (n * a + p) 0) (get_or clocks (n * c + p) 0) (omega (
                  arith,
                  own,
                  slot p c e scan_inside,
                  ap (λ (x : ℕ). part (clock_of es x) (event_of es a).process) q,
                  crossed.knows,
                )))

            go : (c ≡ found) ⊎ (c < found) → c + 1 ≤ found
            go (inl q) = absurd (false≢true (sym h ∙ is ∙ here q))
            go (inr q) = omega arith

        pub scan_found : {x : Bool} → x ≡ knows n list clocks c (process_at list b) p (get_or clocks (n * a + p) 0) → x ≡ true → c ≡ found
        scan_found {x} is h = go (eq-or-lt_of_le l)
          where
            go : (c ≡ found) ⊎ (c < found) → c ≡ found
            go (inl q) = q
            go (inr q) =
                let (u, y) = and_both (eqb (process_at list c) (process_at list b)) (leb (get_or clocks (n * a + p) 0) (get_or clocks (n * c + p) 0)) (sym is ∙ h) in
                let k = leb-true (get_or clocks (n * a + p) 0) (get_or clocks (n * c + p) 0) y in
                absurd (crossed.none_earlier c q
                (process c scan_inside ∙ eqb-true (process_at list c) (process_at list b) u ∙ sym (process b r.to))
                (omega (arith, own, slot p c e scan_inside)))

      -- The learner is found, and the number of its message read.
      module _ {f message : ℕ} (is : f ≡ found) (reads : message ≡ message_at list f) where
        has_number : message ≡ (event_of es found).message
        unfolding event_at
        has_number = reads ∙ ap (message_at list) is ∙ ap (λ (e : Event). e.message) (sym (event_there s.stands found found_inside))

        pub was_sent : (d : ℕ) × Sent list message d
        unfolding event_at
        was_sent =
            let d = sender es found in
            let x = crossing es d found crossed.crosses in
            let h : d < how_many list = omega (arith, sender_inside es d found crossed.crosses, all s.stands) in
            let e : event_at list (8 * d) ≡ event_of es d = sym (event_there s.stands d h) in (
              d,
              record {
                brief = brief held;
                inside = h;
                kind = ap (λ (e : Event). e.kind) e ∙ x.sends;
                number = ap (λ (e : Event). e.message) e ∙ x.number ∙ sym has_number;
              },
            )

        -- The walk goes on from the send that was found, and puts it at the end.
        module _ {d : ℕ} (sent : Sent list message d) where
          sender_is : sender es found ≡ d
          unfolding event_at
          sender_is =
              let x = crossing es (sender es found) found crossed.crosses in
              let e = event_there s.stands d sent.inside in
              told.one_send (sender es found) d x.sends (ap (λ (e : Event). e.kind) e ∙ sent.kind)
              (x.number ∙ sym has_number ∙ sym sent.number ∙ ap (λ (e : Event). e.message) (sym e))

          pub earlier : d < b
          earlier = omega (arith, sender_is, told.forward (sender es found) found crossed.crosses, crossed.along.1)

          pub onward : Reaches t list a d
          onward = record { from = r.from; to = sent.inside; leads = rw sender_is at crossed.onward }

          -- There is a slot for it.
          pub fits : {k : ℕ} → k ≡ length (chain es a d) → (k + 1 < n) × (n ≤ 32)
          fits {k} h = (omega (arith, few, ap length (rw sender_is at crossed.chain_is), length-append (chain es a d) (d ∷ [])), small held)

          pub turn :
              (old : List ℕ) {out : List ℕ} {k : ℕ} → k ≡ length (chain es a d) → out ≡ sets old 0 (chain es a d)
              → (k + 1 ≡ length (chain es a b)) × (set out k d ≡ sets old 0 (chain es a b))
          turn old {out} {k} h q =
              let more : chain es a b ≡ chain es a d ++ (d ∷ []) = rw sender_is at crossed.chain_is in
              let z : 0 + k ≡ k = omega arith in
              (rw more (omega (arith, length-append (chain es a d) (d ∷ []))), rw more (rw z at (stored out old 0 k d (chain es a d) q h)))
