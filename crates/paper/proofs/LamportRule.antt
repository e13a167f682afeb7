-- `lamport_rule`: LC1 and LC2 over the positions of a run. What a process and a message have before a position is the number of the latest event of
-- the one and of the send of the other.
use Prim.Native.Nat.{ℕ, zero, suc, ◌+◌, max, ◌<◌}
use native.Mathlib.Decide.{ℕ_discrete}
use native.Mathlib.Nat.{eq-or-lt_of_le, le_of_suc-le-suc}
use native.Mathlib.Omega.{arith}
use mathlib.Core.Path.{◌≡◌, refl, sym, ap, ap₂, ◌∙◌}
use mathlib.Core.Logic.{◌⊎◌, inl, inr, ◌≢◌}
use mathlib.Core.List.{List, [], ◌∷◌}
use lib.ListN.{length, get_or, take}
use borrow.Author.Tests.{eq-eqb, ne_eqb}
use Rattle.paper.specs.Claims.LamportRule.{number_at, Had, never, latest, LamportRule}
use Rattle.paper.specs.Event.{Event, send, receive}
use Rattle.paper.specs.Lamport.{Scalars, no_scalars, taken_in, lamport_of, scaled, scalars_after, lamports_after}
use Rattle.paper.specs.Machine.{Clocked, start, run, clocked}
use Rattle.paper.specs.Order.{event_of, Crosses}
use Rattle.paper.specs.Terms.{Terms}
use Rattle.paper.proofs.Fifo.Kept.{channels, crosses_forward}
use Rattle.paper.proofs.LamportBelow.{SendsDiffer}
use Rattle.paper.proofs.LamportBelow.Scaled.{own_scaled, sent_scaled, message_scaled}
use Rattle.paper.proofs.Laws.Sends.{crossing}
use Rattle.paper.proofs.Laws.Tables.{at_other}

-- The values before position b, where l are those before the list.
abbrev before : Scalars → List Clocked → ℕ → Scalars
before l cs b = scalars_after l (take b cs)

number_is : (cs : List Clocked) (l : Scalars) (b : ℕ) → b < length cs → get_or (lamports_after l cs) b 0 ≡ lamport_of (before l cs b) (event_of cs b)
unfolding lamports_after scalars_after
number_is [] l b h = absurd (omega arith)
number_is (c ∷ cs) l zero h = refl
number_is (c ∷ cs) l (suc b) h = number_is cs (scaled l c.event) b (omega arith)

-- A process keeps its value while it has no event.
process_kept : (cs : List Clocked) (l : Scalars) (p b : ℕ) → ((a : ℕ) → a < b → (event_of cs a).process ≢ p) → (before l cs b).process p ≡ l.process p
unfolding scalars_after scaled
process_kept cs l p zero h = refl
process_kept [] l p (suc b) h = refl
process_kept (c ∷ cs) l p (suc b) h =
    process_kept cs (scaled l c.event) p b (λ a g. h (suc a) (omega arith))
    ∙ at_other l.process c.event.process (lamport_of l c.event) p (λ q. h 0 (omega arith) (sym q))

process_latest :
    (cs : List Clocked) (l : Scalars) (p b a : ℕ) → a < length cs → a < b → (event_of cs a).process ≡ p
    → ((c : ℕ) → a < c → c < b → (event_of cs c).process ≢ p) → (before l cs b).process p ≡ get_or (lamports_after l cs) a 0
unfolding scalars_after lamports_after
process_latest [] l p b a h g q none = absurd (omega arith)
process_latest (c ∷ cs) l p zero a h g q none = absurd (omega arith)
process_latest (c ∷ cs) l p (suc b) zero h g q none =
    process_kept cs (scaled l c.event) p b (λ a k. none (suc a) (omega arith) (omega arith))
    ∙ ap (scaled l c.event).process (sym q)
    ∙ own_scaled l c.event
process_latest (c ∷ cs) l p (suc b) (suc a) h g q none =
    process_latest cs (scaled l c.event) p b a (omega arith) (omega arith) q (λ d k m. none (suc d) (omega arith) (omega arith))

-- A message keeps its value until another send has its number.
message_kept :
    (cs : List Clocked) (l : Scalars) (x b : ℕ) → ((a : ℕ) → a < b → (event_of cs a).kind ≡ send → x ≡ (event_of cs a).message → ⊥)
    → (before l cs b).message x ≡ l.message x
unfolding scalars_after
message_kept cs l x zero h = refl
message_kept [] l x (suc b) h = refl
message_kept (c ∷ cs) l x (suc b) h =
    message_kept cs (scaled l c.event) x b (λ a g. h (suc a) (omega arith)) ∙ message_scaled l c.event x (h 0 (omega arith))

message_sent :
    (cs : List Clocked) (l : Scalars) (x b a : ℕ) → a < length cs → a < b → (event_of cs a).kind ≡ send → (event_of cs a).message ≡ x
    → ((c : ℕ) → a < c → c < b → (event_of cs c).kind ≡ send → x ≡ (event_of cs c).message → ⊥)
    → (before l cs b).message x ≡ get_or (lamports_after l cs) a 0
unfolding scalars_after lamports_after
message_sent [] l x b a h g k q none = absurd (omega arith)
message_sent (c ∷ cs) l x zero a h g k q none = absurd (omega arith)
message_sent (c ∷ cs) l x (suc b) zero h g k q none =
    message_kept cs (scaled l c.event) x b (λ a m. none (suc a) (omega arith) (omega arith))
    ∙ ap (scaled l c.event).message (sym q)
    ∙ sent_scaled l c.event k
message_sent (c ∷ cs) l x (suc b) (suc a) h g k q none =
    message_sent cs (scaled l c.event) x b a (omega arith) (omega arith) k q (λ d m n. none (suc d) (omega arith) (omega arith))

-- Every process had some value.
had_some : (cs : List Clocked) (p b : ℕ) → (x : ℕ) × Had cs p b x
had_some cs p zero = (0, never (λ a h q. absurd (omega arith)))
had_some cs p (suc b) = go (ℕ_discrete (event_of cs b).process p) (had_some cs p b)
  where
    below : (c : ℕ) → c < suc b → (c < b) ⊎ (c ≡ b)
    below c h = turn (eq-or-lt_of_le (le_of_suc-le-suc h))
      where
        turn : (c ≡ b) ⊎ (c < b) → (c < b) ⊎ (c ≡ b)
        turn (inl q) = inr q
        turn (inr l) = inl l

    -- One more position that is not of p.
    onward : (event_of cs b).process ≢ p → {x : ℕ} → Had cs p b x → Had cs p (suc b) x
    onward n (never none) = never (λ a h. step a (below a h))
      where
        step : (a : ℕ) → (a < b) ⊎ (a ≡ b) → (event_of cs a).process ≢ p
        step a (inl l) = none a l
        step a (inr q) = rw q n
    onward n (latest a l q none) = latest a (omega arith) q (λ c g h. step c g (below c h))
      where
        step : (c : ℕ) → a < c → (c < b) ⊎ (c ≡ b) → (event_of cs c).process ≢ p
        step c g (inl h) = none c g h
        step c g (inr e) = rw e n

    go : Dec ((event_of cs b).process ≡ p) → (x : ℕ) × Had cs p b x → (x : ℕ) × Had cs p (suc b) x
    go (yes q) h = (number_at cs b, latest b (omega arith) q (λ c g h. absurd (omega arith)))
    go (no n) (x, h) = (x, onward n h)

module _ (cs : List Clocked) (b : ℕ) (inside : b < length cs) where
  had_is : (p : ℕ) {x : ℕ} → Had cs p b x → (before no_scalars cs b).process p ≡ x
  unfolding no_scalars
  had_is p (never none) = process_kept cs no_scalars p b none
  had_is p (latest a l q none) = process_latest cs no_scalars p b a (omega arith) l q none

  module _ (differ : SendsDiffer cs) (forward : (a b : ℕ) → Crosses cs a b → a < b) where
    rule : LamportRule cs b
    unfolding taken_in
    rule =
        record {
          had = had_some cs (event_of cs b).process b;
          one_up = λ x h k.
              number_is cs no_scalars b inside
              ∙ rw (ne_eqb (event_of cs b).kind receive k) (ap (λ n. n + 1) (had_is (event_of cs b).process h));
          larger = λ x h a r.
              let d = crossing cs a b r in
              let f = forward a b r in
              let sent : (before no_scalars cs b).message (event_of cs b).message ≡ number_at cs a =
              message_sent cs no_scalars (event_of cs b).message b a (omega arith) f d.sends d.number
              (λ c g k s q. differ a c g (omega arith) d.sends s (d.number ∙ q)) in
              number_is cs no_scalars b inside
              ∙ rw (eq-eqb (event_of cs b).kind receive d.receives) (ap₂ (λ m n. max m n + 1) (had_is (event_of cs b).process h) sent);
        }

pub lamport_rule : (t : Terms) (os : List Event) (b : ℕ) → b < length (clocked t (start t) os) → LamportRule (clocked t (start t) os) b
lamport_rule t os b h =
    let cs = clocked t (start t) os in
    let k = channels t os in
    rule cs b h k.sends_differ (crosses_forward (run t (start t) os) cs k)
