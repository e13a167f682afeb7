-- A stamp on its way is the one that stands beside its sending event, among the stamps of all accepted events.
use Prim.Native.Nat.{ℕ, ◌≤◌, ◌<◌}
use native.Mathlib.Omega.{arith}
use mathlib.Core.Path.{◌≡◌, refl, sym, ap, ◌∙◌}
use mathlib.Core.Bool.{Bool, true, false, cond, false≢true}
use mathlib.Core.List.{List, [], ◌∷◌, ◌++◌, append-nil, append_assoc}
use lib.Dec.{eqb}
use lib.ListN.{length, get_or, get_or-append}
use lib.Seq.{get_or-append_seam}
use borrow.Author.Tests.{eqb-true}
use Rattle.paper.specs.Clock.{Clock}
use Rattle.paper.specs.Event.{Event, send}
use Rattle.paper.specs.Machine.{State, Message, Clocked, start, waiting, in_front, rest, answer, accepted, event_clock, offered, run, clocked}
use Rattle.paper.specs.Order.{event_of}
use Rattle.paper.specs.Running.{Records, fresh_records, front_stamp, recorded, record_stamp, records}
use Rattle.paper.specs.Stamp.{Stamp, no_stamp, never_sent, previous, previously, stamp_of, stamps_after, stamps}
use Rattle.paper.specs.Terms.{Terms}
use Rattle.paper.proofs.Laws.Judged.{judged}
use Rattle.paper.proofs.Laws.Moves.{accepted_internal, accepted_send, accepted_receive, recorded_internal, recorded_send, recorded_receive}
use Rattle.paper.proofs.Laws.Places.{old, new, longer}
use Rattle.paper.proofs.Laws.Slots.{length_stamps}
use Rattle.paper.proofs.Laws.Tables.{at₂_cases₃}
use Rattle.paper.proofs.Laws.Tests.{by_kind}
use Rattle.paper.proofs.Stamps.Along.{Along, at_start, with_clock, stamp_right, accepted_keeps}

-- One more accepted event, and what was sent before it.
pub stamps_more : (cs : List Clocked) (last : ℕ → ℕ → Clock) (c : Clocked) → stamps_after last (cs ++ (c ∷ [])) ≡ stamps_after last cs ++ (stamp_of (previously last cs) c ∷ [])
unfolding stamps_after previously
stamps_more [] last c = refl
stamps_more (d ∷ cs) last c = ap (◌∷◌ (stamp_of last d)) (stamps_more cs (previous last d) c)

previously_more : (cs : List Clocked) (last : ℕ → ℕ → Clock) (c : Clocked) → previously last (cs ++ (c ∷ [])) ≡ previous (previously last cs) c
unfolding previously
previously_more [] last c = refl
previously_more (d ∷ cs) last c = previously_more cs (previous last d) c

-- The message m was sent at a place where the stamp u stands.
pub record Beside (cs : List Clocked) (m : Message) (u : Stamp) : Type 0 where
  pub place : ℕ
  pub inside : place < length cs
  pub sends : (event_of cs place).kind ≡ send
  pub number : (event_of cs place).message ≡ m.number
  pub stamp : get_or (stamps cs) place no_stamp ≡ u

-- Each message of a queue and the stamp at the same place.
unfoldable Pairs : List Clocked → List Message → List Stamp → Type 0
Pairs cs [] [] = Unit {0}
Pairs cs [] (u ∷ us) = ⊥
Pairs cs (m ∷ ms) [] = ⊥
Pairs cs (m ∷ ms) (u ∷ us) = Beside cs m u × Pairs cs ms us

module _ (cs : List Clocked) (c : Clocked) where
  still : (m : Message) (u : Stamp) → Beside cs m u → Beside (cs ++ (c ∷ [])) m u
  still m u b =
      let l = b.inside in
      record {
        place = b.place;
        inside = omega (arith, longer cs c);
        sends = ap (λ (y : Clocked). y.event.kind) (old cs c b.place l) ∙ b.sends;
        number = ap (λ (y : Clocked). y.event.message) (old cs c b.place l) ∙ b.number;
        stamp =
            ap (λ ts. get_or ts b.place no_stamp) (stamps_more cs never_sent c)
            ∙ get_or-append (stamps cs) _ no_stamp b.place (omega (arith, length_stamps cs never_sent))
            ∙ b.stamp;
      }

  pairs_still : (ms : List Message) (us : List Stamp) → Pairs cs ms us → Pairs (cs ++ (c ∷ [])) ms us
  unfolding Pairs
  pairs_still [] [] p = tt
  pairs_still [] (u ∷ us) p = absurd p
  pairs_still (m ∷ ms) [] p = absurd p
  pairs_still (m ∷ ms) (u ∷ us) p = (still m u p.0, pairs_still ms us p.1)

pairs_send : (cs : List Clocked) (ms : List Message) (us : List Stamp) (m : Message) (u : Stamp) → Pairs cs ms us → Beside cs m u → Pairs cs (ms ++ (m ∷ [])) (us ++ (u ∷ []))
unfolding Pairs
pairs_send cs [] [] m u p b = (b, tt)
pairs_send cs [] (v ∷ us) m u p b = absurd p
pairs_send cs (k ∷ ms) [] m u p b = absurd p
pairs_send cs (k ∷ ms) (v ∷ us) m u p b = (p.0, pairs_send cs ms us m u p.1 b)

pairs_rest : (cs : List Clocked) (ms : List Message) (us : List Stamp) → Pairs cs ms us → Pairs cs (rest ms) (rest us)
unfolding Pairs rest
pairs_rest cs [] [] p = tt
pairs_rest cs [] (u ∷ us) p = absurd p
pairs_rest cs (m ∷ ms) [] p = absurd p
pairs_rest cs (m ∷ ms) (u ∷ us) p = p.1

-- Of every channel.
record Queues (cs : List Clocked) (s : State) (x : Records) : Type 0 where
  pairs : (i j : ℕ) → Pairs cs (s.queue i j) (x.stamps i j)

module _ (t : Terms) (few : t.processes ≤ 32) where
  module _ (s : State) (x : Records) (cs : List Clocked) (e : Event) (inv : Along s x (previously never_sent cs)) (yea : answer t s e ≡ 0) (q : Queues cs s x) where
    more : List Clocked
    more = cs ++ (with_clock s e ∷ [])

    beside_send : e.kind ≡ send → Beside more (record { number = e.message; clock = event_clock s e }) (record_stamp x e)
    unfolding more
    beside_send k =
        record {
          place = length cs;
          inside = omega (arith, longer cs (with_clock s e));
          sends = ap (λ (y : Clocked). y.event.kind) (new cs (with_clock s e)) ∙ k;
          number = ap (λ (y : Clocked). y.event.message) (new cs (with_clock s e));
          stamp =
              ap (λ ts. get_or ts (length cs) no_stamp) (stamps_more cs never_sent (with_clock s e))
              ∙ ap (λ n. get_or (stamps cs ++ (stamp_of (previously never_sent cs) (with_clock s e) ∷ [])) n no_stamp) (sym (length_stamps cs never_sent))
              ∙ get_or-append_seam (stamps cs) _ [] no_stamp
              ∙ sym (stamp_right t few s x (previously never_sent cs) e inv yea);
        }

    queues_kept : Queues more (accepted s e) (recorded x e)
    unfolding more
    queues_kept =
        by_kind e.kind (judged t s e yea).shaped.kind
        (λ k. rw (accepted_internal s e k, recorded_internal x e k) record { pairs = λ i j. pairs_still cs (with_clock s e) _ _ (q.pairs i j) })
        (λ k.
        rw (accepted_send s e k, recorded_send x e k)
        record {
          pairs =
              at₂_cases₃ (λ i j ms us v. Pairs more ms us) s.queue x.stamps x.stamps e.process e.peer _ _ []
              (pairs_send more _ _ _ _ (pairs_still cs (with_clock s e) _ _ (q.pairs e.process e.peer)) (beside_send k))
              (λ i j. pairs_still cs (with_clock s e) _ _ (q.pairs i j));
        })
        (λ k.
        rw (accepted_receive s e k, recorded_receive x e k)
        record {
          pairs =
              at₂_cases₃ (λ i j ms us v. Pairs more ms us) s.queue x.stamps x.stamps e.peer e.process _ _ []
              (pairs_rest more _ _ (pairs_still cs (with_clock s e) _ _ (q.pairs e.peer e.process)))
              (λ i j. pairs_still cs (with_clock s e) _ _ (q.pairs i j));
        })

  queues_along :
      (os : List Event) (s : State) (x : Records) (cs : List Clocked) → Along s x (previously never_sent cs) → Queues cs s x
      → Queues (cs ++ clocked t s os) (run t s os) (records t s x os)
  unfolding run records clocked offered
  queues_along [] s x cs inv q = rw append-nil q
  queues_along (e ∷ os) s x cs inv q = go (queues_along os) (eqb (answer t s e) 0) refl
    where
      go :
          ((s : State) (x : Records) (cs : List Clocked) → Along s x (previously never_sent cs) → Queues cs s x
          → Queues (cs ++ clocked t s os) (run t s os) (records t s x os))
          → (b : Bool) → eqb (answer t s e) 0 ≡ b
          → Queues (cs ++ cond b (with_clock s e ∷ clocked t (cond b (accepted s e) s) os) (clocked t (cond b (accepted s e) s) os))
          (run t (cond b (accepted s e) s) os) (records t (cond b (accepted s e) s) (cond b (recorded x e) x) os)
      go ih true h =
          let yea = eqb-true (answer t s e) 0 h in
          let c = with_clock s e in
          rw append_assoc at
          (ih (accepted s e) (recorded x e) (cs ++ (c ∷ []))
          (rw (previously_more cs never_sent c) (accepted_keeps t few s x (previously never_sent cs) e inv yea))
          (unfold more in queues_kept s x cs e inv yea q))
      go ih false h = ih s x cs inv q

  none_yet : Queues [] (start t) fresh_records
  unfolding start fresh_records Pairs
  none_yet = record { pairs = λ i j. tt }

-- The message in front and its stamp.
in_front_beside :
    (cs : List Clocked) (x : ℕ) (ms : List Message) (us : List Stamp) → in_front x ms ≡ true → Pairs cs ms us
    → (m : Message) × (m.number ≡ x) × Beside cs m (front_stamp us)
unfolding in_front front_stamp Pairs
in_front_beside cs x [] us h p = absurd (false≢true h)
in_front_beside cs x (m ∷ ms) [] h p = absurd p
in_front_beside cs x (m ∷ ms) (u ∷ us) h p = (m, sym (eqb-true x m.number h), p.0)

-- What a receive is told is the stamp beside its sending event.
pub heard_beside :
    (t : Terms) → t.processes ≤ 32 → (os : List Event) (e : Event) → in_front e.message (waiting (run t (start t) os) e) ≡ true
    → (m : Message) × (m.number ≡ e.message)
    × Beside (clocked t (start t) os) m (front_stamp ((records t (start t) fresh_records os).stamps e.peer e.process))
unfolding previously
heard_beside t few os e h =
    in_front_beside (clocked t (start t) os) e.message (waiting (run t (start t) os) e) _ h
    ((queues_along t few os (start t) fresh_records [] (at_start t) (none_yet t few)).pairs e.peer e.process)
