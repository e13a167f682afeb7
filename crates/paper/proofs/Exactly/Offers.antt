-- `ten` to `sixteen`: what an offer is answered, over the accepted events alone; `answer_known`: no answer is outside 0 and 10 to 16.
use Prim.Native.Nat.{ℕ, ◌≤◌, ◌<◌}
use native.Mathlib.Omega.{arith}
use mathlib.Core.Path.{◌≡◌, refl, sym}
use mathlib.Core.Logic.{◌⊎◌, inl, inr, ◌↔◌, ◌≢◌}
use mathlib.Core.Bool.{Bool, true, false, cond, not, ◌&&◌, ◌||◌, false≢true}
use mathlib.Core.List.{List}
use lib.Dec.{eqb, ltb, leb}
use borrow.Author.Tests.{leb-true, eqb-true, eqb-false, eq-eqb, ne_eqb, le-leb, not-true, not-false}
use Rattle.paper.specs.Claims.Exactly.{RightKind, RightProcess, RightPeer, RightNumber, RightShape, Fourteen, Fifteen, Sixteen}
use Rattle.paper.specs.Event.{Event, internal, send, receive, is_internal, is_send, is_receive}
use Rattle.paper.specs.Machine.{State, start, waiting, member, in_queue, in_front, wrong_peer, wrong_number, shape, answer, run, clocked}
use Rattle.paper.specs.Refusals.{first}
use Rattle.paper.specs.Terms.{Terms}
use Rattle.paper.proofs.Exactly.Firsts.{this, later, neither, fails}
use Rattle.paper.proofs.Fifo.{table}
use Rattle.paper.proofs.Laws.Tests.{also, and_both, and_false}
use Rattle.paper.proofs.Sheets.Checks as checks

-- The four checks that look at the event alone.
module _ (t : Terms) (e : Event) where
  kind_says : (not (leb e.kind 2) ≡ false) ↔ RightKind e
  kind_says = (λ h. leb-true e.kind 2 (not-false (leb e.kind 2) h), λ h. rw (le-leb e.kind 2 h))

  process_says : (not (ltb e.process t.processes) ≡ false) ↔ RightProcess t e
  process_says = checks.below e.process t.processes

  differs : (eqb e.peer e.process ≡ false) ↔ (e.peer ≢ e.process)
  differs = (eqb-false e.peer e.process, ne_eqb e.peer e.process)

  peer_says : (wrong_peer t.processes e ≡ false) ↔ RightPeer t e
  unfolding wrong_peer
  peer_says = go (is_internal e) refl
    where
      go :
          (b : Bool) → is_internal e ≡ b
          → (cond b (not (eqb e.peer 0)) (not (ltb e.peer t.processes) || eqb e.peer e.process) ≡ false) ↔ RightPeer t e
      go true q =
          let k : e.kind ≡ internal = eqb-true e.kind internal q in
          also (checks.equal e.peer 0) (λ h. record { of_internal = λ _. h; of_other = λ n. absurd (n k) }, λ h. h.of_internal k)
      go false q =
          let k : e.kind ≢ internal = eqb-false e.kind internal q in
          also (checks.neither (not (ltb e.peer t.processes)) (eqb e.peer e.process) (checks.below e.peer t.processes) differs)
          (λ h. record { of_internal = λ i. absurd (k i); of_other = λ _. h }, λ h. h.of_other k)

  number_says : (wrong_number e ≡ false) ↔ RightNumber e
  unfolding wrong_number
  number_says =
      also
      (checks.neither (not (eqb e.spare₃ 0) || not (eqb e.spare₆ 0) || not (eqb e.spare₇ 0)) _
      (checks.none_of (not (eqb e.spare₃ 0)) (not (eqb e.spare₆ 0)) (not (eqb e.spare₇ 0))
      (checks.equal e.spare₃ 0) (checks.equal e.spare₆ 0) (checks.equal e.spare₇ 0))
      (go (is_internal e) refl))
      (λ h. record { spare = h.0; of_internal = h.1.0; of_other = h.1.1 }, λ h. (h.spare, (h.of_internal, h.of_other)))
    where
      go :
          (b : Bool) → is_internal e ≡ b
          → (cond b (not (eqb e.message 0)) (eqb e.message 0) ≡ false)
          ↔ ((e.kind ≡ internal → e.message ≡ 0) × (e.kind ≢ internal → e.message ≢ 0))
      go true q =
          let k : e.kind ≡ internal = eqb-true e.kind internal q in
          also (checks.equal e.message 0) (λ h. (λ _. h, λ n. absurd (n k)), λ h. h.0 k)
      go false q =
          let k : e.kind ≢ internal = eqb-false e.kind internal q in
          (λ h. (λ i. absurd (k i), λ _. eqb-false e.message 0 h), λ h. ne_eqb e.message 0 (h.1 k))

  -- A number behind 13 is given by a later check, and the shape is right.
  shaped : {Q : Type 0} (k x : ℕ) → 14 ≤ x → (k ≡ x) ↔ Q → (shape t e k ≡ x) ↔ (RightShape t e × Q)
  unfolding shape
  shaped k x l q =
      also
      (later (not (leb e.kind 2)) 10 _ x (λ z. omega arith) kind_says
      (later (not (ltb e.process t.processes)) 11 _ x (λ z. omega arith) process_says
      (later (wrong_peer t.processes e) 12 _ x (λ z. omega arith) peer_says
      (later (wrong_number e) 13 k x (λ z. omega arith) number_says q)))) (
        λ h. (record { kind = h.0; process = h.1.0; peer = h.1.1.0; number = h.1.1.1.0 }, h.1.1.1.1),
        λ h. (h.0.kind, (h.0.process, (h.0.peer, (h.0.number, h.1)))),
      )

-- A conjunction of a kind and a further test, which may rest on the kind.
and_says : {P : Type 0} (k c : ℕ) (b : Bool) → (k ≡ c → (b ≡ true) ↔ P) → ((eqb k c && b) ≡ true) ↔ ((k ≡ c) × P)
and_says k c b p = (
  λ h. let (x, y) = and_both (eqb k c) b h in let q = eqb-true k c x in (q, (p q).0 y),
  λ h. rw (eq-eqb k c h.0) ((p h.0).1 h.1),
)

denied : {P : Type 0} (b : Bool) → (b ≡ true) ↔ P → (not b ≡ true) ↔ (P → ⊥)
denied true p = (λ h. absurd (false≢true h), λ f. absurd (f (p.0 refl)))
denied false p = (λ h x. false≢true (p.1 x), λ f. refl)

-- The three checks against the state, in their order.
abbrev re_used : State → Event → Bool
re_used s e = is_send e && member e.message s.used

abbrev not_queued : State → Event → Bool
not_queued s e = is_receive e && not (in_queue e.message (waiting s e))

abbrev not_leading : State → Event → Bool
not_leading s e = is_receive e && not (in_front e.message (waiting s e))

abbrev against : State → Event → ℕ
against s e = first (re_used s e) 14 (first (not_queued s e) 15 (first (not_leading s e) 16 0))

against_not : (s : State) (e : Event) (x : ℕ) → x < 14 → x ≢ 0 → against s e ≢ x
against_not s e x l z =
    neither (re_used s e) 14 _ x (λ q. omega arith)
    (neither (not_queued s e) 15 _ x (λ q. omega arith) (neither (not_leading s e) 16 0 x (λ q. omega arith) (λ q. z (sym q))))

-- 10 to 13, whatever the state.
module _ (t : Terms) (s : State) (e : Event) where
  pub ten : (answer t s e ≡ 10) ↔ (RightKind e → ⊥)
  unfolding answer shape
  ten =
      this (not (leb e.kind 2)) 10 _
      (neither (not (ltb e.process t.processes)) 11 _ 10 (λ q. omega arith)
      (neither (wrong_peer t.processes e) 12 _ 10 (λ q. omega arith)
      (neither (wrong_number e) 13 (against s e) 10 (λ q. omega arith) (against_not s e 10 (omega arith) (λ q. omega arith)))))
      (fails (not (leb e.kind 2)) (kind_says t e))

  pub eleven : (answer t s e ≡ 11) ↔ (RightKind e × (RightProcess t e → ⊥))
  unfolding answer shape
  eleven =
      later (not (leb e.kind 2)) 10 _ 11 (λ q. omega arith) (kind_says t e)
      (this (not (ltb e.process t.processes)) 11 _
      (neither (wrong_peer t.processes e) 12 _ 11 (λ q. omega arith)
      (neither (wrong_number e) 13 (against s e) 11 (λ q. omega arith) (against_not s e 11 (omega arith) (λ q. omega arith))))
      (fails (not (ltb e.process t.processes)) (process_says t e)))

  pub twelve : (answer t s e ≡ 12) ↔ (RightKind e × (RightProcess t e × (RightPeer t e → ⊥)))
  unfolding answer shape
  twelve =
      later (not (leb e.kind 2)) 10 _ 12 (λ q. omega arith) (kind_says t e)
      (later (not (ltb e.process t.processes)) 11 _ 12 (λ q. omega arith) (process_says t e)
      (this (wrong_peer t.processes e) 12 _
      (neither (wrong_number e) 13 (against s e) 12 (λ q. omega arith) (against_not s e 12 (omega arith) (λ q. omega arith)))
      (fails (wrong_peer t.processes e) (peer_says t e))))

  pub thirteen : (answer t s e ≡ 13) ↔ (RightKind e × (RightProcess t e × (RightPeer t e × (RightNumber e → ⊥))))
  unfolding answer shape
  thirteen =
      later (not (leb e.kind 2)) 10 _ 13 (λ q. omega arith) (kind_says t e)
      (later (not (ltb e.process t.processes)) 11 _ 13 (λ q. omega arith) (process_says t e)
      (later (wrong_peer t.processes e) 12 _ 13 (λ q. omega arith) (peer_says t e)
      (this (wrong_number e) 13 (against s e) (against_not s e 13 (omega arith) (λ q. omega arith)) (fails (wrong_number e) (number_says t e)))))

  -- 0, or 10 to 16.
  pub answer_known : (answer t s e ≡ 0) ⊎ ((10 ≤ answer t s e) × (answer t s e ≤ 16))
  unfolding answer shape
  answer_known =
      known (not (leb e.kind 2)) 10 _ (omega arith) (omega arith)
      (known (not (ltb e.process t.processes)) 11 _ (omega arith) (omega arith)
      (known (wrong_peer t.processes e) 12 _ (omega arith) (omega arith)
      (known (wrong_number e) 13 _ (omega arith) (omega arith)
      (known (re_used s e) 14 _ (omega arith) (omega arith)
      (known (not_queued s e) 15 _ (omega arith) (omega arith)
      (known (not_leading s e) 16 0 (omega arith) (omega arith) (inl refl)))))))
    where
      known : (b : Bool) (r k : ℕ) → 10 ≤ r → r ≤ 16 → (k ≡ 0) ⊎ ((10 ≤ k) × (k ≤ 16)) → (first b r k ≡ 0) ⊎ ((10 ≤ first b r k) × (first b r k ≤ 16))
      known true r k l m h = inr (l, m)
      known false r k l m h = h

not_both : (e : Event) → e.kind ≡ receive → is_send e ≡ false
not_both e r = ne_eqb e.kind send (λ q. omega arith)

-- 14 to 16, after the offers os.
module _ (t : Terms) (os : List Event) (e : Event) where
  pub fourteen : (answer t (run t (start t) os) e ≡ 14) ↔ Fourteen t (clocked t (start t) os) e
  unfolding answer
  fourteen =
      let s = run t (start t) os in
      also
      (shaped t e (against s e) 14 (omega arith)
      (this (re_used s e) 14 _
      (neither (not_queued s e) 15 _ 14 (λ q. omega arith) (neither (not_leading s e) 16 0 14 (λ q. omega arith) (λ q. omega arith)))
      (and_says e.kind send (member e.message s.used) (λ k. (table t os e).fourteen)))) (
        λ h. record { shape = h.0; sends = h.1.0; used = h.1.1 },
        λ h. (h.shape, (h.sends, h.used)),
      )

  pub fifteen : (answer t (run t (start t) os) e ≡ 15) ↔ Fifteen t (clocked t (start t) os) e
  unfolding answer
  fifteen =
      let s = run t (start t) os in
      let queued = in_queue e.message (waiting s e) in
      also
      (shaped t e (against s e) 15 (omega arith)
      (later (re_used s e) 14 _ 15 (λ q. omega arith) (λ h. h, λ h. h)
      (this (not_queued s e) 15 _ (neither (not_leading s e) 16 0 15 (λ q. omega arith) (λ q. omega arith))
      (and_says e.kind receive (not queued) (λ k. denied queued ((table t os e).fifteen k)))))) (
        λ h. record { shape = h.0; receives = h.1.1.0; none = λ a l w. h.1.1.1 (a, l, w) },
        λ h. (h.shape, (rw (not_both e h.receives), (h.receives, λ (a, l, w). h.none a l w))),
      )

  pub sixteen : (answer t (run t (start t) os) e ≡ 16) ↔ Sixteen t (clocked t (start t) os) e
  unfolding answer
  sixteen =
      let s = run t (start t) os in
      also
      (shaped t e (against s e) 16 (omega arith)
      (later (re_used s e) 14 _ 16 (λ q. omega arith) (λ h. h, λ h. h)
      (later (not_queued s e) 15 _ 16 (λ q. omega arith) (λ h. h, λ h. h)
      (this (not_leading s e) 16 0 (λ q. omega arith)
      (and_says e.kind receive (not (in_front e.message (waiting s e))) (λ k. (λ h. h, λ h. h))))))) (to, from)
    where
      to :
          RightShape t e
          × ((re_used (run t (start t) os) e ≡ false)
          × ((not_queued (run t (start t) os) e ≡ false) × ((e.kind ≡ receive) × (not (in_front e.message (waiting (run t (start t) os) e)) ≡ true))))
          → Sixteen t (clocked t (start t) os) e
      to (shape, (u, (q, (r, l)))) =
          let there = not-false _ (and_false (is_receive e) _ q (eq-eqb e.kind receive r)) in
          let (a, h, w) = ((table t os e).fifteen r).0 there in
          record { shape = shape; receives = r; sent_at = a; sent = (h, w); older = ((table t os e).sixteen a w).0 (not-true _ l) }

      from :
          Sixteen t (clocked t (start t) os) e
          → RightShape t e
          × ((re_used (run t (start t) os) e ≡ false)
          × ((not_queued (run t (start t) os) e ≡ false) × ((e.kind ≡ receive) × (not (in_front e.message (waiting (run t (start t) os) e)) ≡ true))))
      from h =
          let there = ((table t os e).fifteen h.receives).1 (h.sent_at, h.sent.0, h.sent.1) in
          let late = ((table t os e).sixteen h.sent_at h.sent.1).1 h.older in
          (h.shape, (rw (not_both e h.receives), (rw (there, eq-eqb e.kind receive h.receives), (h.receives, rw late))))
