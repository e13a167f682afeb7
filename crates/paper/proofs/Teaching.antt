-- `teaching`: of a run, where a is before b, the chain that is computed is the teaching chain in the paper's words; `one_teaching`: there is no other.
use Prim.Native.Nat.{ℕ, zero, suc, ◌≤◌, ◌<◌}
use native.Mathlib.Decide.{ℕ_discrete}
use native.Mathlib.Nat.{not-suc-le-zero}
use native.Mathlib.Omega.{arith}
use mathlib.Core.Path.{◌≡◌, refl, sym, ap₂, ◌∙◌}
use mathlib.Core.Logic.{◌⊎◌, inl, inr}
use mathlib.Core.List.{List, [], ◌∷◌, ◌++◌}
use lib.ListN.{length}
use Rattle.paper.specs.Chain.{learner, sender, chain}
use Rattle.paper.specs.Claims.Chain.{FirstToKnow, Teaching, same_process, crossed}
use Rattle.paper.specs.Event.{Event}
use Rattle.paper.specs.Machine.{Clocked, start, clocked}
use Rattle.paper.specs.Order.{event_of, Crosses, Before}
use Rattle.paper.specs.Terms.{Terms}
use Rattle.paper.proofs.Causality.Along.{kept}
use Rattle.paper.proofs.Causality.Told.{before_forward}
use Rattle.paper.proofs.ChainRight.{chain_onward}
use Rattle.paper.proofs.Fifo.{sent_once}
use Rattle.paper.proofs.Laws.Sends.{crossing, sender_inside, receiver_inside}
use Rattle.paper.proofs.Laws.Tests.{tri}

module _ (t : Terms) (small : t.processes ≤ 32) (os : List Event) (a : ℕ) where
  abbrev cs : List Clocked
  cs = clocked t (start t) os

  -- The position falls at each message crossed.
  onward : (fuel b : ℕ) → b < fuel → b < length cs → (a ≡ b) ⊎ Before cs a b → Teaching cs a b (chain cs a b)
  onward zero b f h r = absurd (not-suc-le-zero f)
  onward (suc fuel) b f h r = go (onward fuel) (ℕ_discrete (event_of cs b).process (event_of cs a).process)
    where
      go :
          ((s : ℕ) → s < fuel → s < length cs → (a ≡ s) ⊎ Before cs a s → Teaching cs a s (chain cs a s))
          → Dec ((event_of cs b).process ≡ (event_of cs a).process) → Teaching cs a b (chain cs a b)
      go ih (yes e) = rw ((chain_onward t small os a b h r).same e) (same_process e)
      go ih (no d) =
          let c = (chain_onward t small os a b h r).crossed d in
          let s = sender cs (learner cs a b) in
          let falls = (kept t small os).told.forward s (learner cs a b) c.crosses in
          rw c.chain_is
          (crossed d
          record {
            there = receiver_inside cs s (learner cs a b) c.crosses;
            on_its_process = c.along.0;
            knows = c.knows;
            none_earlier = c.none_earlier;
          }
          c.crosses (ih s (omega (arith, c.along.1)) (sender_inside cs s (learner cs a b) c.crosses) c.onward))

  pub teaching : (b : ℕ) → Before cs a b → Teaching cs a b (chain cs a b)
  teaching b r = onward (suc b) b (omega arith) (before_forward cs (kept t small os).told.forward r).1 (inr r)

  first_is_one : (b r q : ℕ) → FirstToKnow cs a b r → FirstToKnow cs a b q → r ≡ q
  first_is_one b r q h k = go (tri r q)
    where
      go : (r < q) ⊎ ((r ≡ q) ⊎ (q < r)) → r ≡ q
      go (inl l) = absurd (k.none_earlier r l h.on_its_process h.knows)
      go (inr (inl e)) = e
      go (inr (inr l)) = absurd (h.none_earlier q l k.on_its_process k.knows)

  one_sender : (s u r q : ℕ) → r ≡ q → Crosses cs s r → Crosses cs u q → s ≡ u
  one_sender s u r q e c d =
      let x = crossing cs s r c in
      let y = crossing cs u q d in
      sent_once t os s u x.sends y.sends (x.number ∙ rw e (sym y.number))

  pub one_teaching : {b : ℕ} {ss us : List ℕ} → Teaching cs a b ss → Teaching cs a b us → ss ≡ us
  one_teaching {b} h k = same b b refl h k
    where
      same : (b c : ℕ) {ss us : List ℕ} → b ≡ c → Teaching cs a b ss → Teaching cs a c us → ss ≡ us
      same b c e (same_process p) (same_process q) = refl
      same b c e (same_process p) (crossed d f x k) = absurd (d (rw (← e) p))
      same b c e (crossed d f x h) (same_process q) = absurd (d (rw e q))
      same b c e (crossed {r = r} {s = s} d f x h) (crossed {r = r₂} {s = u} d₂ g y k) =
          let first = first_is_one c r r₂ (rw (← e) f) g in
          let sent = one_sender s u r r₂ first x y in
          ap₂ (λ (l : List ℕ) (i : ℕ). l ++ (i ∷ [])) (same s u sent h k) sent
