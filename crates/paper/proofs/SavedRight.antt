-- `saved_right`: what is told of a sheet. The sends are the accepted events of that kind, received or not; the values carried never exceed n times
-- sends, stamp by stamp; there are no messages exactly where there is no send; and no float is nearer to the exact fraction than the one told.
use Prim.Native.Nat.{ℕ, zero, suc, ◌+◌, ◌-◌, ◌*◌, ◌≤◌, ◌<◌}
use native.Mathlib.Nat.{mul-add, mul-pos}
use native.Mathlib.Omega.{arith}
use mathlib.Core.Path.{◌≡◌, refl, ap, ◌∙◌, subst}
use mathlib.Core.Logic.{◌↔◌}
use mathlib.Core.Bool.{Bool, true, false, cond}
use mathlib.Core.List.{List, [], ◌∷◌, ◌++◌, flat_map}
use lib.Dec.{eqb, ltb}
use lib.Ieee.{Float}
use lib.ListN.{length, get_or, length-append}
use lib.Seq.{get_or-set_same, get_or-set_other}
use borrow.Author.Tests.{eqb-true, eq-eqb, ne_eqb, eqb-false}
use Rattle.paper.specs.Buffers.{Work, value_slots, entries}
use Rattle.paper.specs.Clock.{Clock, most_processes, most_events}
use Rattle.paper.specs.Event.{Event, send, is_send, how_many, events_of}
use Rattle.paper.specs.Machine.{Clocked, start, run, answer, clocked, accepted_of, event_clock}
use Rattle.paper.specs.Marking.{NumberOf}
use Rattle.paper.specs.Order.{event_of}
use Rattle.paper.specs.Reading.{reading_checks}
use Rattle.paper.specs.Refusals.{first, of_call, refusal_of, Outcome, done}
use Rattle.paper.specs.Running.{fresh_records}
use Rattle.paper.specs.Savings.{sends, counts, nearest, Saving, no_messages, percent, saving, savings, stored, storing_checks, storing}
use Rattle.paper.specs.Sheet.{processes_in, terms_in, list_in}
use Rattle.paper.specs.Stamp.{Stamp, count, no_stamp, never_sent, previous, stamp_of, stamps_after}
use Rattle.paper.specs.Terms.{Terms}
pub use Rattle.paper.specs.Claims.Saved.{Bounds, RightlySaved, RightlyStored}
use Rattle.paper.proofs.Laws.Append.{clocked_append, clocked_yes}
use Rattle.paper.proofs.Laws.Masks.{count_le, count_same, count_less}
use Rattle.paper.proofs.Laws.Places.{old, new, longer}
use Rattle.paper.proofs.Laws.Refused.{after_done}
use Rattle.paper.proofs.Laws.Runs.{clocked_few, length_events}
use Rattle.paper.proofs.Laws.Tables.{cond_cases}
use Rattle.paper.proofs.Laws.Tests.{also}
use Rattle.paper.proofs.Lent.Stamps.{stamps_fit}
use Rattle.paper.proofs.NearestRight.{nearest_right}
use Rattle.paper.proofs.ReadExactly.{reading_number}
use Rattle.paper.proofs.Sheets.Checks.{not_below, last, both, by_place, placed, is_done}
use Rattle.paper.proofs.TotalRight.{counted, one_number}

-- Counting from the first event on.
count_first : (p : ℕ → Bool) (k : ℕ) → count p (suc k) ≡ cond (p 0) 1 0 + count (λ a. p (suc a)) k
unfolding count
count_first p zero = go (p 0)
  where
    go : (b : Bool) → cond b (0 + 1) 0 ≡ cond b 1 0 + 0
    go true = refl
    go false = refl
count_first p (suc k) = go (p (suc k)) (count_first p k)
  where
    go :
        (b : Bool) → count p (suc k) ≡ cond (p 0) 1 0 + count (λ a. p (suc a)) k
        → cond b (count p (suc k) + 1) (count p (suc k)) ≡ cond (p 0) 1 0 + cond b (count (λ a. p (suc a)) k + 1) (count (λ a. p (suc a)) k)
    go true h = omega arith
    go false h = h

-- A stamp of an event carries at most n values, and none where the event is no send.
one_stamp : (n : ℕ) (last : ℕ → ℕ → Clock) (c : Clocked) → length (stamp_of last c).values ≤ n → length (stamp_of last c).values ≤ n * cond (is_send c.event) 1 0
unfolding stamp_of no_stamp
one_stamp n last c = go (is_send c.event) _
  where
    go : (b : Bool) (t : Stamp) → length (cond b t no_stamp).values ≤ n → length (cond b t no_stamp).values ≤ n * cond b 1 0
    go true t h = omega arith
    go false t h = omega arith

carried_few :
    (n : ℕ) (cs : List Clocked) (last : ℕ → ℕ → Clock) → ((a : ℕ) → a < length cs → length (get_or (stamps_after last cs) a no_stamp).values ≤ n)
    → length (value_slots (stamps_after last cs)) ≤ n * sends cs
unfolding value_slots flat_map stamps_after sends
carried_few n [] last h = omega arith
carried_few n (c ∷ cs) last h =
    let x : ℕ = cond (is_send c.event) 1 0 in
    let e : sends (c ∷ cs) ≡ x + sends cs = count_first (λ a. is_send (event_of (c ∷ cs) a)) (length cs) in
    let d : n * sends (c ∷ cs) ≡ n * x + n * sends cs = ap (λ (k : ℕ). n * k) e ∙ mul-add n x (sends cs) in
    omega (
      arith,
      d,
      length-append (stamp_of last c).values (value_slots (stamps_after (previous last c) cs)),
      one_stamp n last c (h 0 (omega arith)),
      carried_few n cs (previous last c) (λ a l. h (suc a) (omega arith)),
    )

-- The values carried never exceed n times sends.
pub never_more :
    (t : Terms) → t.processes ≤ most_processes → (os : List Event) → length os ≤ most_events
    → entries (clocked t (start t) os) ≤ t.processes * sends (clocked t (start t) os)
never_more t small os few =
    carried_few t.processes (clocked t (start t) os) never_sent (λ a h. (stamps_fit t small os few a h).few)

-- The sends are the accepted events of that kind.
pub sends_are : (cs : List Clocked) → NumberOf (λ a. (event_of cs a).kind ≡ send) (length cs) (sends cs)
unfolding sends
sends_are cs =
    counted (λ a. is_send (event_of cs a)) (λ a. (event_of cs a).kind ≡ send)
    (λ a. (eqb-true (event_of cs a).kind send, eq-eqb (event_of cs a).kind send)) (length cs)

-- One accepted send more is one more, whether or not its message is ever received.
pub one_send_more :
    (t : Terms) (os : List Event) (e : Event) → answer t (run t (start t) os) e ≡ 0 → e.kind ≡ send
    → sends (clocked t (start t) (os ++ (e ∷ []))) ≡ suc (sends (clocked t (start t) os))
unfolding sends count
one_send_more t os e taken kind =
    let cs = clocked t (start t) os in
    let s = run t (start t) os in
    let c : Clocked = record { event = e; clock = event_clock s e } in
    let is : clocked t (start t) (os ++ (e ∷ [])) ≡ cs ++ (c ∷ []) =
    clocked_append t (e ∷ []) os (start t) ∙ ap (λ (l : List Clocked). cs ++ l) (clocked_yes t s fresh_records e taken) in
    let same : count (λ a. is_send (event_of (cs ++ (c ∷ [])) a)) (length cs) ≡ count (λ a. is_send (event_of cs a)) (length cs) =
    count_same _ _ (length cs) (λ a h. ap (λ (x : Clocked). is_send x.event) (old cs c a h)) in
    let last : is_send (event_of (cs ++ (c ∷ [])) (length cs)) ≡ true =
    ap (λ (x : Clocked). is_send x.event) (new cs c) ∙ eq-eqb e.kind send kind in
    ap sends is ∙ rw (longer cs c, last, same) (omega arith)

-- No number below k passes a test exactly where the count is 0.
count_nothing : (p : ℕ → Bool) (k : ℕ) → ((a : ℕ) → a < k → p a ≡ true → ⊥) → count p k ≡ 0
unfolding count
count_nothing p zero h = refl
count_nothing p (suc k) h = cond_cases (λ (x : ℕ). x ≡ 0) (p k) _ _ (λ q. absurd (h k (omega arith) q)) (λ q. count_nothing p k (λ a l. h a (omega arith)))

count_none : (p : ℕ → Bool) (k : ℕ) → (count p k ≡ 0) ↔ ((a : ℕ) → a < k → p a ≡ true → ⊥)
count_none p k = (λ z a h e. omega (arith, count_less p k a h e), count_nothing p k)

stands : (s : Saving) (out : List Float) → 1 ≤ length out → RightlyStored s out (stored s out)
unfolding stored
stands no_messages out l =
    record {
      figure = λ x e d. let z : ◌≡◌ {A = ℕ} 0 1 = cc in absurd (omega arith);
      others = λ k h d. refl;
      no_figure = λ e. refl;
    }
stands (percent y) out l =
    record {
      figure = λ x e d. get_or-set_same out 0 y d l ∙ cc;
      others = λ k h d. get_or-set_other out 0 k y d (λ q. omega arith);
      no_figure = λ e. let z : ◌≡◌ {A = ℕ} 0 1 = cc in absurd (omega arith);
    }

module _ (b : List ℕ) (w : Work) where
  abbrev n : ℕ
  n = processes_in b

  abbrev accepted : List Clocked
  accepted = accepted_of (terms_in b) (list_in b)

  module _ (h : (refusal_of (reading_checks b w [])).number ≡ 0) where
    few_events : how_many (list_in b) ≤ most_events
    few_events =
        let (m, l, e) = ((reading_number b w []).0 h).0.whole_records in
        omega arith

    few_processes : (1 ≤ n) × (n ≤ most_processes)
    few_processes = ((reading_number b w []).0 h).0.right.processes

    not_exceeded : entries accepted ≤ n * sends accepted
    not_exceeded = never_more (terms_in b) few_processes.1 (events_of (list_in b)) (omega (arith, few_events, length_events (how_many (list_in b)) (list_in b)))

    pub bounds : Bounds (counts n accepted)
    unfolding counts sends
    bounds =
        record {
          some = few_processes.0;
          few = few_processes.1;
          brief =
              omega (
                arith,
                few_events,
                count_le (λ a. is_send (event_of accepted a)) (length accepted),
                clocked_few (terms_in b) (events_of (list_in b)) (start (terms_in b)),
                length_events (how_many (list_in b)) (list_in b),
              );
          never = not_exceeded;
        }

    rightly : RightlySaved n accepted (saving (counts n accepted))
    unfolding counts saving sends
    rightly =
        let p : ℕ → Bool = λ a. is_send (event_of accepted a) in
        record {
          empty = go (eqb (sends accepted) 0) refl;
          figure =
              λ k is some.
              let e : sends accepted ≡ k = one_number (sends_are accepted) is in
              let p = 100 * (n * k - entries accepted) in (
                rw (ne_eqb (sends accepted) 0 (λ z. omega arith)) (ap (λ (j : ℕ). percent (nearest (100 * (n * j - entries accepted)) (n * j))) e),
                nearest_right p (n * k) (mul-pos few_processes.0 some) (omega arith),
              );
          never_more = λ k is. subst (λ (j : ℕ). entries accepted ≤ n * j) (one_number (sends_are accepted) is) not_exceeded;
        }
      where
        go :
            (t : Bool) → eqb (sends accepted) 0 ≡ t
            → (cond t no_messages (percent (nearest (100 * (n * sends accepted - entries accepted)) (n * sends accepted))) ≡ no_messages)
            ↔ ((a : ℕ) → a < length accepted → (event_of accepted a).kind ≡ send → ⊥)
        go true e = (
          λ q a l k. (count_none (λ a. is_send (event_of accepted a)) (length accepted)).0 (eqb-true (sends accepted) 0 e) a l (eq-eqb (event_of accepted a).kind send k),
          λ q. refl,
        )
        go false e = (
          λ q. let z : ◌≡◌ {A = ℕ} 0 1 = cc in absurd (omega arith),
          λ q.
              absurd
              (eqb-false (sends accepted) 0 e
              ((count_none (λ a. is_send (event_of accepted a)) (length accepted)).1
              (λ a l t. q a l (eqb-true (event_of accepted a).kind send t)))),
        )

  -- Of every sheet that is not refused.
  pub saved_right : (s : Saving) (w' : Work) → savings b w ≡ (done s, w') → RightlySaved n accepted s
  unfolding savings
  saved_right s w' h =
      let (z, same) = (is_done (refusal_of (reading_checks b w [])) (saving (counts n accepted)) s).0 (ap (λ (x : Outcome Saving × Work). x.0) h) in
      subst (RightlySaved n accepted) same (rightly z)

  -- What is stored is not refused exactly where the sheet is accepted and there is a slot.
  pub storing_number :
      (out : List Float)
      → ((refusal_of (storing_checks b w out)).number ≡ 0) ↔ (((refusal_of (reading_checks b w [])).number ≡ 0) × (1 ≤ length out))
  storing_number out =
      let c = reading_checks b w [] in
      also
      (by_place (storing_checks b w out) (λ h. h, λ h. h)
      (both c.late (of_call (first (ltb (length out) 1) 21 0)) (λ h. h, λ h. h)
      (last (ltb (length out) 1) 21 (omega arith) (not_below (length out) 1)))) (
        λ h. ((placed c).1 (h.0, h.1.0), h.1.1),
        λ h. let (early, late) = (placed c).0 h.0 in (early, (late, h.1)),
      )

  -- What stands in the slots, where it is stored.
  pub stored_right :
      (out : List Float) (s : Saving) → (storing b w out).0.0 ≡ done s → RightlySaved n accepted s × RightlyStored s out (storing b w out).1
  unfolding storing
  stored_right out s h =
      let c = storing_checks b w out in
      let (z, same) = (is_done (refusal_of c) (saving (counts n accepted)) s).0 h in
      let (early, late) = (placed c).0 z in
      let (read, room) = (storing_number out).0 z in (
        subst (RightlySaved n accepted) same (rightly read),
        rw (after_done c (stored (saving (counts n accepted)) out) out out early late)
            (subst (λ (x : Saving). RightlyStored x out (stored (saving (counts n accepted)) out)) same (stands (saving (counts n accepted)) out room)),
      )
