-- Class mode's outcome, with what every lent slot holds, from what the course of offers left behind.
use Prim.Native.Nat.{ℕ, ◌-◌}
use native.Mathlib.Nat.{zero-add}
use native.Mathlib.Omega.{arith}
use mathlib.Core.Path.{◌≡◌, sym, ap, ◌∙◌}
use mathlib.Core.Logic.{◌≢◌, inl, inr}
use mathlib.Core.Bool.{Bool, false, false≢true}
use mathlib.Core.List.{List, [], ◌∷◌, ◌++◌, append-nil}
use lib.ListN.{length, drop, replicate}
use lib.Seq.{sets, sets-eq}
use borrow.Author.Tests.{eq-eqb, ne_eqb}
use Rattle.std.specs.Prelude.{Result, Ok, Err}
use Rattle.clock.specs.Check.{number_of, checked}
use Rattle.clock.specs.declared.check.Check.{Check}
use Rattle.clock.proofs.Checks.{some_check}
use Rattle.paper.specs.Buffers.{Work, laid, entries, filled}
use Rattle.paper.specs.Class.{Classed, class_checks, class_lamport}
use Rattle.paper.specs.Event.{events_of, how_many}
use Rattle.paper.specs.Machine.{start, answers_of, accepted_of}
use Rattle.paper.specs.Refusals.{Refusal, of_call, Outcome, refused, done}
use Rattle.paper.specs.Terms.{Terms}
use Rattle.paper.proofs.Laws.Append.{length_answers}
use Rattle.paper.proofs.Laws.Runs.{length_events}
use Rattle.offers.specs.Called.{Called}
use Rattle.offers.specs.Course.{Ended}
use Rattle.offers.specs.Slots.{Slots}
use Rattle.offers.specs.declared.Tried.{Tried}
use Rattle.offers.proofs.Early.{early_class}
use Rattle.course.specs.Slots.{zeroed, swept}
use Rattle.course.proofs.Tidied.{room, tidied, lamports_tidied}

-- What class mode leaves behind.
abbrev Ends : Type 0
Ends = (Outcome Classed × Work) × List ℕ × List ℕ

-- The early checks of class mode gave the number.
early :
    {mode : Bool} {terms : Terms} {list : List ℕ} {w w' : Slots} {r : Result Tried Check} → Called mode terms list w w' r
    → checked r ≡ (class_checks terms list w.page.work (w.page.answers ∷ w.lamports ∷ [])).early
early {mode} {terms} {list} {w} call = call.checked ∙ early_class terms list w

-- A call that an early check refuses.
pub class_kept :
    {mode : Bool} {terms : Terms} {list : List ℕ} {w w' : Slots} {e : Check} {given : Refusal} → Called mode terms list w w' (Err e)
    → given ≡ of_call (number_of e)
    → ◌≡◌ {A = Ends} ((refused given, w'.page.work), w'.page.answers, w'.lamports) (class_lamport terms list w.page.work w.page.answers w.lamports)
unfolding class_lamport
class_kept {mode} {terms} {list} {w} {w'} {e} call g =
    let c = class_checks terms list w.page.work (w.page.answers ∷ w.lamports ∷ []) in
    let n : number_of e ≡ c.early = early call in
    let q : c.early ≢ 0 = λ o. absurd (omega (arith, some_check e, n, o)) in
    let f = g ∙ ap of_call n in
    let u = call.refused.same in
    rw (ne_eqb c.early 0 q, ne_eqb c.early 0 q) (λ i. ((refused (f i), (u i).page.work), (u i).page.answers, (u i).lamports))

-- A call whose offers were all tried, and whose slots were tidied.
pub class_ran :
    {terms : Terms} {list : List ℕ} {w w₁ : Slots} {r : Tried} {work' : Work} {numbers' : List ℕ} → Called false terms list w w₁ (Ok r)
    → work' ≡ swept terms.processes (how_many list) r.accepted r.carried w₁.page.work
    → numbers' ≡ zeroed r.accepted (how_many list) w₁.lamports
    → ◌≡◌ {A = Ends} ((done (record { accepted = r.accepted; carried = r.carried }), work'), w₁.page.answers, numbers')
    (class_lamport terms list w.page.work w.page.answers w.lamports)
unfolding class_lamport laid
class_ran {terms} {list} {w} {w₁} {r} {work'} {numbers'} call a d =
    let m = how_many list in
    let ran = call.passed in
    let t : r.tried ≡ m = through ran.ended in
    let c = class_checks terms list w.page.work (w.page.answers ∷ w.lamports ∷ []) in
    let e : c.early ≡ 0 = sym (early call) in
    let all = accepted_of terms list in
    let xs = answers_of terms list in
    let old = w.page.answers in
    let lx : length xs ≡ m = length_answers terms (events_of list) (start terms) ∙ length_events m list in
    let o : m - m ≡ 0 = omega arith in
    let s : sets old 0 xs ≡ xs ++ replicate (m - length xs) 0 ++ drop m old =
    sets-eq xs old 0 (omega (arith, (room call).answer)) ∙ rw (zero-add, lx, o, append-nil) in
    let f : r.accepted ≡ length all = rw t at ran.accepted_many in
    let g : r.carried ≡ entries all = rw t at ran.carried_many in
    let x : work' ≡ filled terms m all w.page.work = a ∙ rw t at (tidied call) in
    let y : w₁.page.answers ≡ xs ++ replicate (m - length xs) 0 ++ drop m old = (rw t at ran.answer) ∙ s in
    let n = d ∙ rw t at (lamports_tidied call) in
    rw (eq-eqb c.early 0 e) (λ i. ((done (record { accepted = f i; carried = g i }), x i), y i, n i))
  where
    through : Ended false terms (how_many list) list r.tried → r.tried ≡ how_many list
    through (inl t) = t.whole
    through (inr (j, s)) = absurd (false≢true s.is_strict)
