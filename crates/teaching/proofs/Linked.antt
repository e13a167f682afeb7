-- From comparing to the chain: what refuses the one refuses the other, then the checks 22 and 21, and what is written.
use Prim.Native.Nat.{ℕ, ◌≤◌, ◌<◌}
use native.Mathlib.Omega.{arith}
use mathlib.Core.Path.{◌≡◌, refl, sym, ap, ◌∙◌}
use mathlib.Core.Logic.{◌≢◌, inr}
use mathlib.Core.Bool.{Bool, true, false, not}
use mathlib.Core.List.{List, []}
use lib.Dec.{eqb, ltb}
use lib.ListN.{length}
use lib.Seq.{sets}
use borrow.Author.Tests.{eq-eqb}
use Rattle.paper.specs.Buffers.{Work, laid, entries}
use Rattle.paper.specs.Event.{events_of, how_many}
use Rattle.paper.specs.Machine.{accepted_of}
use Rattle.paper.specs.Questions.{strict_checks, strict, judged, asked, comparison, chain_slots, linking, chaining}
use Rattle.paper.specs.Refusals.{first, Refusal, of_call, Checks, Outcome, refused, done}
use Rattle.paper.specs.Stands.{Stands}
use Rattle.paper.specs.Terms.{Terms}
use Rattle.paper.proofs.Also.{also_refused, also_late, also_done}
use Rattle.paper.proofs.Laws.Stores.{laid_front}
use Rattle.paper.proofs.Sheets.Checks.{not_below, below, equal, neither, in_order, last}
use Rattle.paper.proofs.Stands.{small, all}
use Rattle.paper.proofs.Verdicts.{verdict_right}
use Rattle.course.specs.Said.{wiped}
use Rattle.course.proofs.Passed.{wiped_held}
use Rattle.order.specs.Judge.{not_both}
use Rattle.order.specs.Rest.{Past}
use Rattle.order.proofs.Asked.{comparison_refused, list_past, compare_none}
use Rattle.order.proofs.Judging.{row_judged}
use Rattle.teaching.specs.Rest.{late, Links}
use Rattle.teaching.specs.Walk.{Standing, Reaches, path}
use Rattle.teaching.proofs.Walking.{few}

-- What refuses the checks before the chain, and what refuses the comparison.
pub linking_refused :
    (c : Checks) (t : Terms) (list : List ℕ) (w : Work) (a b : ℕ) (out : List ℕ) {given : Refusal} {w' : Work}
    → (refused given, w') ≡ comparison c t list w a b → ((refused given, w'), out) ≡ linking c t list w a b out
linking_refused c t list w a b out {given} {w'} h =
    let xs = path t list a b in
    also_refused (asked c list a b) _ (judged t.processes (accepted_of t list) a b) (length xs) t list w (laid (length xs) xs out) out given w' h

-- What the checks behind the course give, where its events stand in the work buffers w'.
pub record Late (t : Terms) (list : List ℕ) (w' : Work) (a b : ℕ) (out : List ℕ) (k : ℕ) : Type 0 where
  pub is : k ≡ late t.processes (how_many list) w'.clocks a b (length out)

module _ {t : Terms} {list : List ℕ} {w' : Work} {a b k : ℕ} {out : List ℕ} (e : Late t list w' a b out k) where
  abbrev n : ℕ
  n = t.processes

  abbrev m : ℕ
  m = how_many list

  -- 22 and 21 of the verdict on the two events.
  abbrev behind_20 : ℕ
  behind_20 = first (not (eqb (judged n (accepted_of t list) a b) 1)) 22 (first (ltb (length out) (chain_slots n)) 21 0)

  module _ (h : not_both m a b ≡ false) where
    inside : (a < m) × (b < m)
    inside = (neither (not (ltb a m)) (not (ltb b m)) (below a m) (below b m)).0 h

    later : {w : Work} → Stands t list w w' → k ≡ behind_20
    later s =
        let (l, r) = inside in
        e.is ∙ rw (h, row_judged s.held a b (omega (arith, all s)) (omega (arith, all s)))

    passed : {c : Checks} {w : Work} → Past c t list w w' → (asked c list a b).late.number ≡ 0
    passed {c} p = rw (eq-eqb c.late.number 0 p.late, h)

  -- 20, 22 and 21.
  pub link_late : {given : Refusal} {w'' : Work} → k ≢ 0 → given ≡ of_call k → w'' ≡ wiped n m w' → Links t list w' a b out (refused given) w'' out
  link_late {given} {w''} z g q = go (not_both m a b) refl
    where
      go : (x : Bool) → not_both m a b ≡ x → Links t list w' a b out (refused given) w'' out
      go true h = record { ends = λ c w p. linking_refused c t list w a b out ((compare_none h (g ∙ ap of_call (e.is ∙ rw h)) q).ends c w p) }
      go false h =
          record {
            ends = λ c w p.
                let s = p.stands in
                let f = g ∙ ap of_call (later h s) in
                let x = q ∙ wiped_held s.held in
                (λ i. ((refused (f i), x i), out))
                ∙ sym (also_late (asked c list a b) _ (judged n (accepted_of t list) a b) _ t list w _ out p.early (passed h p) (λ y. z (later h s ∙ y)));
          }

  module _ (z : k ≡ 0) where
    both_there : not_both m a b ≡ false
    both_there = go (not_both m a b) refl
      where
        go : (x : Bool) → not_both m a b ≡ x → not_both m a b ≡ false
        go true h = let y : k ≡ 20 = e.is ∙ rw h in absurd (omega arith)
        go false h = h

    ready : {w : Work} → Stands t list w w' → (judged n (accepted_of t list) a b ≡ 1) × (chain_slots n ≤ length out)
    ready s =
        let v = judged n (accepted_of t list) a b in
        (in_order (not (eqb v 1)) 22 (first (ltb (length out) (chain_slots n)) 21 0) (omega arith) (equal v 1)
        (last (ltb (length out) (chain_slots n)) 21 (omega arith) (not_below (length out) (chain_slots n)))).0 (sym (later both_there s) ∙ z)

    -- The walk can begin.
    pub link_ready : (w : Work) × Stands t list w w' → Standing t list w'.clocks × Reaches t list a b × (chain_slots n ≤ length out)
    link_ready (w, s) =
        let (l, r) = inside both_there in
        let (v, room) = ready s in
        let before = (verdict_right t (small s.held) (events_of list) a b (omega (arith, all s)) (omega (arith, all s))).first.0 v in
        (record { old = w; masks = w'.masks; values = w'.values; stands = s }, record { from = l; to = r; leads = inr before }, room)

    pub link_done :
        {l : ℕ} {out' : List ℕ} → l ≡ length (path t list a b) → out' ≡ sets out 0 (path t list a b) → Links t list w' a b out (done l) w' out'
    link_done {l} {out'} f q =
        record {
          ends = λ c w p.
              let s = p.stands in
              let (standing, there, room) = link_ready (w, s) in
              let xs = path t list a b in
              let x : out' ≡ laid (length xs) xs out = q ∙ laid_front xs out (omega (arith, few standing there, room)) in
              let y = s.held.is in
              (λ i. ((done (f i), y i), x i))
              ∙ sym (also_done (asked c list a b) _ (judged n (accepted_of t list) a b) (length xs) t list w (laid (length xs) xs out) out p.early (passed both_there p) (sym (later both_there s) ∙ z));
        }

-- The chain on a list.
module _ (t : Terms) (list : List ℕ) (w : Work) (a b : ℕ) (out : List ℕ) where
  pub chain_refused : {given : Refusal} {w' : Work} → (refused given, w') ≡ strict t list w → ((refused given, w'), out) ≡ chaining t list w a b out
  unfolding strict chaining
  chain_refused h =
      let c = strict_checks t list w [] in
      linking_refused c t list w a b out (comparison_refused c (entries (accepted_of t list)) t list w a b h)

  pub chain_done :
      {v : ℕ} {w' w'' : Work} {r : Outcome ℕ} {out' : List ℕ} → (done v, w') ≡ strict t list w → Links t list w' a b out r w'' out'
      → ((r, w''), out') ≡ chaining t list w a b out
  unfolding chaining
  chain_done h q = q.ends (strict_checks t list w []) w (list_past t list w h)
