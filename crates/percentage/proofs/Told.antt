-- From reading to what is told of a sheet: what refuses the sheet refuses every question about it, and an accepted one has the counts of its events.
use Prim.Native.Nat.{ℕ, ◌/◌}
use native.Mathlib.Omega.{arith}
use mathlib.Core.Path.{◌≡◌, refl, sym, ap, ◌∙◌, subst}
use mathlib.Core.Bool.{Bool, true, false, cond}
use mathlib.Core.List.{List, []}
use lib.Dec.{ltb}
use lib.Ieee.{Float}
use lib.ListN.{length, take, drop}
use borrow.Author.Tests.{eq-eqb, ne_eqb}
use Rattle.paper.specs.Buffers.{Work, entries}
use Rattle.paper.specs.Event.{how_many}
use Rattle.paper.specs.Machine.{Clocked, accepted_of}
use Rattle.paper.specs.Reading.{read_of, reading_checks, reading}
use Rattle.paper.specs.Refusals.{first, Refusal, of_call, Checks, refusal_of, Outcome, refused, done, outcome}
use Rattle.paper.specs.Savings.{sends, Counts, counts, counts_in, Saving, saving, tallying, savings, stored, storing}
use Rattle.paper.specs.Sheet.{processes_in, terms_in, list_in}
use Rattle.paper.specs.Terms.{Terms}
use Rattle.paper.specs.Stands.{Stands}
use Rattle.paper.proofs.Also.{call_done, also_refused, also_late, also_done}
use Rattle.paper.proofs.Laws.Refused.{is_refused}
use Rattle.paper.proofs.SavedRight.{Bounds, bounds}
use Rattle.paper.proofs.Sheets.Checks.{placed}
use Rattle.paper.proofs.Stands.{all, sheet_stands}
use Rattle.course.specs.Said.{wiped}
use Rattle.course.proofs.Passed.{wiped_held}
use Rattle.sheet.proofs.Accepted.{Accepted}
use Rattle.percentage.specs.Slots.{slot_sends, placing}
use Rattle.percentage.proofs.Sends.{sends_stand}

-- What refuses a sheet, whatever is told of it and whatever was.
told_refused :
    {A B : Type 0} (a : A) (b : B) (r given : Refusal) (f w : Work)
    → ◌≡◌ {A = Outcome A × Work} (refused given, w) (outcome r a, f) → ◌≡◌ {A = Outcome B × Work} (refused given, w) (outcome r b, f)
told_refused {A} a b r given f w h =
    let (z, q) = is_refused r a given (ap (λ (p : Outcome A × Work). p.0) h) in
    let p : w ≡ f = ap (λ (p : Outcome A × Work). p.1) h in
    rw (ne_eqb r.number 0 z) (λ i. (refused (q i), p i))

module _ (b : List ℕ) (w : Work) where
  abbrev checks : Checks
  checks = reading_checks b w []

  abbrev cs : List Clocked
  cs = accepted_of (terms_in b) (list_in b)

  module _ {given : Refusal} {w' : Work} where
    pub count_refused : (refused given, w') ≡ reading b w → (refused given, w') ≡ tallying b w
    unfolding reading tallying
    count_refused h = told_refused (read_of (terms_in b) (list_in b)) (counts_in b) (refusal_of checks) given _ w' h

    module _ (h : (refused given, w') ≡ tallying b w) where
      pub savings_refused : (refused given, w') ≡ savings b w
      unfolding tallying savings
      savings_refused = told_refused (counts_in b) (saving (counts_in b)) (refusal_of checks) given _ w' h

      pub store_refused : (out : List Float) → ((refused given, w'), out) ≡ storing b w out
      unfolding tallying storing
      store_refused out =
          also_refused checks (of_call (first (ltb (length out) 1) 21 0)) (counts_in b) (saving (counts_in b)) (terms_in b) (list_in b) w
          (stored (saving (counts_in b)) out) out given w' h

  -- The sends of an accepted sheet are counted in its bytes.
  pub count_done :
      {w' : Work} {t : Terms} {at size carried : ℕ} → Accepted b w w' t at size carried → {s : ℕ} {l : List ℕ} → l ≡ take size (drop at b)
      → s ≡ slot_sends l (how_many l)
      → (done (record { processes = t.processes; events = size / 8; sends = s; carried = carried }), w') ≡ tallying b w
  unfolding tallying counts
  count_done {w'} {t} {at} {size} {carried} a {s} lent e =
      let l = lent ∙ sym a.list in
      let sent : s ≡ sends cs = e ∙ ap (λ (x : List ℕ). slot_sends x (how_many x)) l ∙ sends_stand a.stands in
      let n : t.processes ≡ processes_in b = ap (λ (x : Terms). x.processes) (sym a.terms) in
      let events : size / 8 ≡ length cs = sym (all a.stands ∙ a.many) in
      let values : carried ≡ entries cs = sym a.values in
      let is = a.stands.held.is in
      rw (eq-eqb checks.early 0 a.early, eq-eqb checks.late.number 0 a.late)
      (λ i. (done (record { processes = n i; events = events i; sends = sent i; carried = values i }), is i))

  -- What is told of the counts of a sheet.
  module _ {c : Counts} {w' : Work} (h : (done c, w') ≡ tallying b w) where
    zeros : (checks.early ≡ 0) × (checks.late.number ≡ 0)
    unfolding tallying
    zeros = (call_done checks (counts_in b) c (terms_in b) (list_in b) w w' h).0

    stand : Stands (terms_in b) (list_in b) w w' × (counts_in b ≡ c)
    unfolding tallying
    stand = sheet_stands b [] (counts_in b) c h

    pub count_bounds : Bounds c
    count_bounds = subst Bounds stand.1 (bounds b w ((placed checks).1 zeros))

    pub savings_done : {s : Saving} → s ≡ saving c → (done s, w') ≡ savings b w
    unfolding savings
    savings_done e =
        let q = e ∙ ap saving (sym stand.1) in
        let is = stand.0.held.is in
        rw (eq-eqb checks.early 0 zeros.0, eq-eqb checks.late.number 0 zeros.1) (λ i. (done (q i), is i))

    placing_is : (out : List Float) → placing (counts_in b) w' out ≡ storing b w out
    unfolding storing counts
    placing_is out = go (ltb (length out) 1) refl
      where
        s : Saving
        s = saving (counts_in b)

        go :
            (x : Bool) → ltb (length out) 1 ≡ x
            → cond x ((refused (of_call 21), wiped (processes_in b) (length cs) w'), out) ((done s, w'), stored s out) ≡ storing b w out
        go true e =
            let y = ap (λ (k : ℕ). wiped (processes_in b) k w') (all stand.0) ∙ wiped_held stand.0.held in
            rw e
            ((λ i. ((refused (of_call 21), y i), out))
            ∙ sym (also_late checks (of_call 21) (counts_in b) s (terms_in b) (list_in b) w (stored s out) out zeros.0 zeros.1 (λ z. omega arith)))
        go false e =
            let y = stand.0.held.is in
            rw e
            ((λ i. ((done s, y i), stored s out))
            ∙ sym (also_done checks (of_call 0) (counts_in b) s (terms_in b) (list_in b) w (stored s out) out zeros.0 zeros.1 refl))

    pub store_placed : (out : List Float) {x : (Outcome Saving × Work) × List Float} → x ≡ placing c w' out → x ≡ storing b w out
    store_placed out e = e ∙ ap (λ (k : Counts). placing k w' out) (sym stand.1) ∙ placing_is out
