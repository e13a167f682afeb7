-- `twenty`: two events are not compared, with 20, exactly when the checks before it pass and one of them is not there. `twenty_two`: a chain is refused with 22
-- exactly when the checks before it pass, both events are there, and the first is not before the second.
use Prim.Native.Nat.{ℕ, ◌≤◌, ◌<◌}
use native.Mathlib.Omega.{arith}
use mathlib.Core.Path.{◌≡◌, refl, sym, ap, ◌∙◌}
use mathlib.Core.Logic.{◌↔◌, ◌≢◌}
use mathlib.Core.Bool.{Bool, true, false, ◌||◌, not, false≢true}
use mathlib.Core.List.{List, [], ◌∷◌}
use lib.Dec.{eqb, ltb}
use lib.ListN.{length}
use borrow.Author.Tests.{eqb-false, ne_eqb, not-true}
use Rattle.paper.specs.Buffers.{Work}
use Rattle.paper.specs.Chain.{chain}
use Rattle.paper.specs.Claims.Exactly.{of_list, of_sheet, Twenty, TwentyTwo}
use Rattle.paper.specs.Clock.{most_processes}
use Rattle.paper.specs.Event.{how_many, events_of}
use Rattle.paper.specs.Machine.{member, accepted_of, AllAccepted}
use Rattle.paper.specs.Order.{Before}
use Rattle.paper.specs.Questions.{strict_checks, judged, asked, comparing, comparing_sheet, chain_slots, chained, chaining, chaining_sheet}
use Rattle.paper.specs.Reading.{reading_checks}
use Rattle.paper.specs.Refusals.{first, Refusal, of_call, ◌then◌, Checks, refusal_of, refused}
use Rattle.paper.specs.Sheet.{terms_in, list_in}
use Rattle.paper.specs.Terms.{Terms}
use Rattle.paper.proofs.Exactly.Firsts.{this, neither as not_one, fails, is_refused, then_is, also_behind}
use Rattle.paper.proofs.Exactly.Numbers.{Known, list_known, strict_in, early_sheet, late_sheet, list_numbers, sheet_numbers, checks_known}
use Rattle.paper.proofs.Laws.Runs.{all_accepted}
use Rattle.paper.proofs.Laws.Tables.{cond_cases}
use Rattle.paper.proofs.Laws.Tests.{also}
use Rattle.paper.proofs.ReadExactly.{reading_number}
use Rattle.paper.proofs.RoundTrip.{list_accepted}
use Rattle.paper.proofs.Sheets.Checks.{below, neither, last, both}
use Rattle.paper.proofs.Verdicts.{verdict_right}

carry : {P Q R S : Type 0} → P ↔ R → Q ↔ S → (P × Q) ↔ (R × S)
carry p q = (λ h. (p.0 h.0, q.0 h.1), λ h. (p.1 h.0, q.1 h.1))

-- Of any checks that never give 20.
module _ (c : Checks) (list : List ℕ) (a b : ℕ) (other : (refusal_of c).number ≢ 20) where
  abbrev missing : Bool
  missing = not (ltb a (how_many list)) || not (ltb b (how_many list))

  twenty_of : (refusal_of (asked c list a b) ≡ of_call 20) ↔ Twenty c list a b
  twenty_of =
      also
      (rw (also_behind c (of_call (first missing 20 0)))
      (then_is (refusal_of c) (of_call (first missing 20 0)) (of_call 20) other (λ q. omega arith)))
      (also
      (carry (λ h. h, λ h. h)
      (also (λ q. ap (λ (r : Refusal). r.number) q, λ q. ap of_call q)
      (this missing 20 0 (λ q. omega arith)
      (fails missing
      (neither (not (ltb a (how_many list))) (not (ltb b (how_many list))) (below a (how_many list)) (below b (how_many list)))))))
      (λ h. record { passed = h.0; not_there = h.1 }, λ h. (h.passed, h.not_there)))

-- Of any checks that never give 22, and that let a list pass only where its events are accepted.
module _ (c : Checks) (t : Terms) (list : List ℕ) (a b : ℕ) (out : List ℕ) (other : (refusal_of c).number ≢ 22)
    (good : (refusal_of c).number ≡ 0 → (t.processes ≤ most_processes) × AllAccepted t list)
  where
    abbrev outside : Bool
    outside = not (ltb a (how_many list)) || not (ltb b (how_many list))

    abbrev not_first : Bool
    not_first = not (eqb (judged t.processes (accepted_of t list) a b) 1)

    abbrev scant : ℕ
    scant = first (ltb (length out) (chain_slots t.processes)) 21 0

    -- Both events are there.
    there_says : (first outside 20 0 ≡ 0) ↔ ((a < how_many list) × (b < how_many list))
    there_says =
        last outside 20 (omega arith)
        (neither (not (ltb a (how_many list))) (not (ltb b (how_many list))) (below a (how_many list)) (below b (how_many list)))

    -- The first is not before the second.
    before_says :
        (refusal_of c).number ≡ 0 → (a < how_many list) × (b < how_many list) → (not_first ≡ true) ↔ (Before (accepted_of t list) a b → ⊥)
    before_says h (l, m) =
        let (small, all) = good h in
        let size = all_accepted t list all in
        let right = (verdict_right t small (events_of list) a b (omega arith) (omega arith)).first in (
          λ q p. eqb-false (judged t.processes (accepted_of t list) a b) 1 (not-true _ q) (right.1 p),
          λ f. rw (ne_eqb (judged t.processes (accepted_of t list) a b) 1 (λ q. f (right.0 q))),
        )

    so_far : Refusal
    so_far = refusal_of c then of_call (first outside 20 0)

    so_far_other : so_far.number ≢ 22
    unfolding so_far
    so_far_other =
        cond_cases (λ (r : Refusal). r.number ≢ 22) (eqb (refusal_of c).number 0) (of_call (first outside 20 0)) (refusal_of c)
        (λ e. not_one outside 20 0 22 (λ q. omega arith) (λ q. omega arith)) (λ e. other)

    whole : refusal_of (chained c t list a b out) ≡ (so_far then of_call (first not_first 22 scant))
    unfolding so_far
    whole =
        also_behind (asked c list a b) (of_call (first not_first 22 scant))
        ∙ ap (λ r. r then of_call (first not_first 22 scant)) (also_behind c (of_call (first outside 20 0)))

    number_says : (of_call (first not_first 22 scant) ≡ of_call 22) ↔ (not_first ≡ true)
    number_says =
        also (λ q. ap (λ (r : Refusal). r.number) q, λ q. ap of_call q)
        (this not_first 22 scant (not_one (ltb (length out) (chain_slots t.processes)) 21 0 22 (λ q. omega arith) (λ q. omega arith)) (λ h. h, λ h. h))

    pub twenty_two_of : (refusal_of (chained c t list a b out) ≡ of_call 22) ↔ TwentyTwo c t list a b
    unfolding so_far
    twenty_two_of =
        also (rw whole (then_is so_far (of_call (first not_first 22 scant)) (of_call 22) so_far_other (λ q. omega arith)))
        (also (carry (both (refusal_of c) (of_call (first outside 20 0)) (λ h. h, λ h. h) there_says) number_says) (
          λ h. record { passed = h.0.0; there = h.0.1; not_before = (before_says h.0.0 h.0.1).0 h.1 },
          λ h. ((h.passed, h.there), (before_says h.passed h.there).1 h.not_before),
        ))

-- Of a list lent directly, and of a sheet.
never : (ns : List ℕ) (y : ℕ) → member y (0 ∷ ns) ≡ false → (x : ℕ) → Known ns x → x ≢ y
never ns y h x k q = false≢true (sym h ∙ ap (λ z. member z (0 ∷ ns)) (sym q) ∙ k)

list_known_so : (t : Terms) (list : List ℕ) (w : Work) → Known of_list (refusal_of (strict_checks t list w [])).number
list_known_so t list w =
    let k = list_numbers [] in
    checks_known of_list (strict_checks t list w []) (list_known of_list k.list t list w []) (strict_in of_list k.offered t list)

sheet_known_so : (sheet : List ℕ) (w : Work) → Known of_sheet (refusal_of (reading_checks sheet w [])).number
sheet_known_so sheet w =
    let k = sheet_numbers [] in
    checks_known of_sheet (reading_checks sheet w []) (early_sheet of_sheet k sheet w []) (late_sheet of_sheet k sheet w [])

module _ (w : Work) (a b : ℕ) where
  pub twenty : (t : Terms) (list : List ℕ) → ((comparing t list w a b).0 ≡ refused (of_call 20)) ↔ Twenty (strict_checks t list w []) list a b
  unfolding comparing member
  twenty t list =
      let c = strict_checks t list w [] in
      also (is_refused (refusal_of (asked c list a b)) (of_call 20) (judged t.processes (accepted_of t list) a b) (λ q. omega arith))
      (twenty_of c list a b (never of_list 20 refl (refusal_of c).number (list_known_so t list w)))

  pub twenty_sheet :
      (sheet : List ℕ) → ((comparing_sheet sheet w a b).0 ≡ refused (of_call 20)) ↔ Twenty (reading_checks sheet w []) (list_in sheet) a b
  unfolding comparing_sheet member
  twenty_sheet sheet =
      let c = reading_checks sheet w [] in
      let t = terms_in sheet in
      also
      (is_refused (refusal_of (asked c (list_in sheet) a b)) (of_call 20) (judged t.processes (accepted_of t (list_in sheet)) a b) (λ q. omega arith))
      (twenty_of c (list_in sheet) a b (never of_sheet 20 refl (refusal_of c).number (sheet_known_so sheet w)))

module _ (w : Work) (a b : ℕ) (out : List ℕ) where
  pub twenty_two :
      (t : Terms) (list : List ℕ) → ((chaining t list w a b out).0.0 ≡ refused (of_call 22)) ↔ TwentyTwo (strict_checks t list w []) t list a b
  unfolding chaining member
  twenty_two t list =
      let c = strict_checks t list w [] in
      also (is_refused (refusal_of (chained c t list a b out)) (of_call 22) (length (chain (accepted_of t list) a b)) (λ q. omega arith))
      (twenty_two_of c t list a b out
      (never of_list 22 refl (refusal_of c).number (list_known_so t list w))
      (λ h. let (g, r) = (list_accepted t list w []).0 h in (g.listed.processes.1, g.accepted)))

  pub twenty_two_sheet :
      (sheet : List ℕ)
      → ((chaining_sheet sheet w a b out).0.0 ≡ refused (of_call 22)) ↔ TwentyTwo (reading_checks sheet w []) (terms_in sheet) (list_in sheet) a b
  unfolding chaining_sheet member
  twenty_two_sheet sheet =
      let c = reading_checks sheet w [] in
      let t = terms_in sheet in
      let list = list_in sheet in
      also (is_refused (refusal_of (chained c t list a b out)) (of_call 22) (length (chain (accepted_of t list) a b)) (λ q. omega arith))
      (twenty_two_of c t list a b out
      (never of_sheet 22 refl (refusal_of c).number (sheet_known_so sheet w))
      (λ h. let (s, r) = (reading_number sheet w []).0 h in (s.right.processes.1, s.accepted)))
