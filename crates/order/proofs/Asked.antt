-- From the events to the questions: what refuses the list or the sheet refuses the question, and behind it come 20 and the verdict.
use Prim.Native.Nat.{ℕ}
use native.Mathlib.Omega.{arith}
use mathlib.Core.Path.{◌≡◌, ap, ◌∙◌}
use mathlib.Core.Bool.{true, false, not}
use mathlib.Core.List.{List, []}
use lib.Dec.{ltb}
use borrow.Author.Tests.{eq-eqb}
use Rattle.paper.specs.Buffers.{Work, entries, call}
use Rattle.paper.specs.Event.{how_many}
use Rattle.paper.specs.Machine.{accepted_of}
use Rattle.paper.specs.Questions.{strict_checks, strict, judged, comparison, comparing}
use Rattle.paper.specs.Refusals.{Refusal, of_call, Checks, Outcome, refused, done}
use Rattle.paper.specs.Terms.{Terms}
use Rattle.paper.proofs.Also.{call_done, also_refused}
use Rattle.paper.proofs.Sheets.Checks.{below, neither}
use Rattle.paper.proofs.Stands.{list_stands, all}
use Rattle.course.specs.Said.{wiped}
use Rattle.course.proofs.Passed.{wiped_held}
use Rattle.order.specs.Judge.{not_both, row_verdict}
use Rattle.order.specs.Rest.{Past, Compares}
use Rattle.order.proofs.Judging.{row_judged}

-- What is left of comparing, in its two cases.
module _ {t : Terms} {list : List ℕ} {w' : Work} {a b : ℕ} where
  pub compare_none :
      {given : Refusal} {w'' : Work} → not_both (how_many list) a b ≡ true → given ≡ of_call 20 → w'' ≡ wiped t.processes (how_many list) w'
      → Compares t list w' a b (refused given) w''
  compare_none h g q =
      record {
        ends = λ c w p.
            let x = q ∙ wiped_held p.stands.held in
            rw (eq-eqb c.early 0 p.early, eq-eqb c.late.number 0 p.late, h) (λ i. (refused (g i), x i));
      }

  pub compare_judged : {r : Outcome ℕ} → not_both (how_many list) a b ≡ false → r ≡ row_verdict t.processes w'.clocks a b → Compares t list w' a b r w'
  compare_judged {r} h e =
      let m = how_many list in
      let (l, k) = (neither (not (ltb a m)) (not (ltb b m)) (below a m) (below b m)).0 h in
      record {
        ends = λ c w p.
            let s = p.stands in
            let q : r ≡ done (judged t.processes (accepted_of t list) a b) = e ∙ row_judged s.held a b (omega (arith, all s)) (omega (arith, all s)) in
            let x = s.held.is in
            rw (eq-eqb c.early 0 p.early, eq-eqb c.late.number 0 p.late, h) (λ i. (q i, x i));
      }

-- What refuses the checks before the question.
pub comparison_refused :
    {A : Type 0} (c : Checks) (answered : A) (t : Terms) (list : List ℕ) (w : Work) (a b : ℕ) {given : Refusal} {w' : Work}
    → (refused given, w') ≡ call c answered t list w → (refused given, w') ≡ comparison c t list w a b
comparison_refused c answered t list w a b {given} {w'} h =
    ap (λ x. x.0) (also_refused {C = ℕ} c _ answered (judged t.processes (accepted_of t list) a b) t list w 0 0 given w' h)

-- The questions on a list.
module _ (t : Terms) (list : List ℕ) (w : Work) where
  pub list_past : {v : ℕ} {w' : Work} → (done v, w') ≡ strict t list w → Past (strict_checks t list w []) t list w w'
  unfolding strict
  list_past {v} {w'} h =
      let z = (call_done (strict_checks t list w []) (entries (accepted_of t list)) v t list w w' h).0 in
      record { early = z.0; late = z.1; stands = (list_stands [] (entries (accepted_of t list)) v h).0 }

  module _ (a b : ℕ) where
    pub compare_refused : {given : Refusal} {w' : Work} → (refused given, w') ≡ strict t list w → (refused given, w') ≡ comparing t list w a b
    unfolding strict comparing
    compare_refused h = comparison_refused (strict_checks t list w []) (entries (accepted_of t list)) t list w a b h

    pub compare_done :
        {v : ℕ} {w' w'' : Work} {r : Outcome ℕ} → (done v, w') ≡ strict t list w → Compares t list w' a b r w'' → (r, w'') ≡ comparing t list w a b
    unfolding comparing
    compare_done h q = q.ends (strict_checks t list w []) w (list_past h)
