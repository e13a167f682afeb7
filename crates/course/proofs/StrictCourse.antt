-- The strict course's outcome, with what every lent slot holds, from what the course of offers left behind.
use Prim.Native.Nat.{ℕ, suc, ◌+◌, ◌-◌, ◌*◌, ◌≤◌}
use native.Mathlib.Nat.{zero-add}
use native.Mathlib.Omega.{arith}
use mathlib.Core.Path.{◌≡◌, refl, sym, ap, ◌∙◌}
use mathlib.Core.Logic.{◌≢◌, inl, inr}
use mathlib.Core.Bool.{Bool, true}
use mathlib.Core.List.{List, [], ◌∷◌, ◌++◌, append_assoc, append-nil}
use lib.ListN.{length, get_or, replicate, length-replicate}
use lib.Seq.{get_or_at}
use borrow.Author.Tests.{eq-eqb, ne_eqb}
use Rattle.std.specs.Prelude.{Ok, Err}
use Rattle.clock.specs.Check.{number_of}
use Rattle.clock.specs.declared.check.Check.{Check}
use Rattle.clock.proofs.Checks.{some_check}
use Rattle.paper.specs.Buffers.{Work}
use Rattle.paper.specs.Event.{event_at, first_events, how_many}
use Rattle.paper.specs.Machine.{start, answer, answers, run}
use Rattle.paper.specs.Questions.{strict_checks, strict_lamport}
use Rattle.paper.specs.Reading.{first_refused}
use Rattle.paper.specs.Refusals.{Refusal, of_call, Checks, Outcome, refused, done}
use Rattle.paper.specs.Running.{fresh_records}
use Rattle.paper.specs.Terms.{Terms}
use Rattle.paper.proofs.Laws.Append.{answers_append, clocked_append, clocked_no, length_answers}
use Rattle.paper.proofs.Laws.Refused.{refused_none, refused_at, events_split}
use Rattle.paper.proofs.Laws.Runs.{clocked_all, length_events}
use Rattle.paper.proofs.Laws.Stores.{get_d_sets}
use Rattle.offers.specs.Called.{Called}
use Rattle.offers.specs.Course.{AllAccepted, Stopped, Through, Ended, Ran}
use Rattle.offers.specs.Slots.{Slots}
use Rattle.offers.specs.Turn.{state_at, accepted_at, answers_at}
use Rattle.offers.specs.declared.Tried.{Tried}
use Rattle.offers.proofs.Early.{early_strict}
use Rattle.course.specs.Slots.{zeroed, swept}
use Rattle.course.proofs.Tidied.{room, tidied, emptied, lamports_tidied, lamports_emptied}

-- The first refused offer of a list, the one behind j accepted ones.
refused_first :
    (terms : Terms) (m : ℕ) (list : List ℕ) (j : ℕ) → suc j ≤ m → AllAccepted terms list j → answer terms (state_at terms list j) (event_at list (8 * j)) ≢ 0
    → first_refused 0 (answers terms (start terms) (first_events m list)) ≡ record { number = answer terms (state_at terms list j) (event_at list (8 * j)); position = j }
unfolding first_events answers
refused_first terms m list j l all h =
    let e = event_at list (8 * j) in
    let a = answer terms (state_at terms list j) e in
    let q : m ≡ suc j + (m - suc j) = omega arith in
    let (later, split) = events_split (m - suc j) (suc j) list in
    let rest = answers terms (run terms (start terms) (first_events j list ++ (e ∷ []))) later in
    let is : answers terms (start terms) (first_events m list) ≡ replicate j 0 ++ (a ∷ rest) =
    ap (λ (k : ℕ). answers terms (start terms) (first_events k list)) q ∙ ap (answers terms (start terms)) split
    ∙ answers_append terms later (first_events (suc j) list) (start terms)
    ∙ ap (λ (r : List ℕ). r ++ rest) (answers_append terms (e ∷ []) (first_events j list) (start terms) ∙ ap (λ (r : List ℕ). r ++ (a ∷ [])) all)
    ∙ append_assoc (replicate j 0) (a ∷ []) rest in
    rw is (refused_at j 0 a rest h ∙ rw zero-add)

-- What a strict course leaves behind.
abbrev Ends : Type 0
Ends = (Outcome ℕ × Work) × List ℕ

-- A call that an early check refuses, where 512 answers are lent.
pub strict_kept :
    {mode : Bool} {terms : Terms} {list : List ℕ} {w w' : Slots} {e : Check} {given : Refusal} → Called mode terms list w w' (Err e)
    → given ≡ of_call (number_of e) → length w.page.answers ≡ 512
    → ◌≡◌ {A = Ends} ((refused given, w'.page.work), w'.lamports) (strict_lamport terms list w.page.work w.lamports)
unfolding strict_lamport
strict_kept {mode} {terms} {list} {w} {w'} {e} call g l =
    let c = strict_checks terms list w.page.work (w.lamports ∷ []) in
    let n : number_of e ≡ c.early = call.checked ∙ early_strict terms list w l in
    let q : c.early ≢ 0 = λ o. absurd (omega (arith, some_check e, n, o)) in
    let f = g ∙ ap of_call n in
    let u = call.refused.same in
    rw (ne_eqb c.early 0 q, ne_eqb c.early 0 q) (λ i. ((refused (f i), (u i).page.work), (u i).lamports))

-- A call whose offers were tried, and whose slots were tidied.
module _ {terms : Terms} {list : List ℕ} {w w₁ : Slots} {r : Tried} (call : Called true terms list w w₁ (Ok r)) where
  abbrev m₁ : ℕ
  m₁ = how_many list

  ran : Ran true terms m₁ list w w₁ r
  ran = call.passed

  -- All offers are accepted where as many are accepted as tried; otherwise the last one tried is the first refused.
  ended : (r.accepted ≡ r.tried → Through true terms m₁ list r.tried) × (r.accepted ≢ r.tried → (j : ℕ) × Stopped true terms list r.tried j)
  unfolding first_events
  ended = go ran.ended
    where
      many : (j : ℕ) → AllAccepted terms list j → length (accepted_at terms list j) ≡ j
      many j h = clocked_all terms (first_events j list) (start terms) (h ∙ ap (λ (i : ℕ). replicate i 0) (sym (length_events j list))) ∙ length_events j list

      go :
          Ended true terms m₁ list r.tried
          → (r.accepted ≡ r.tried → Through true terms m₁ list r.tried) × (r.accepted ≢ r.tried → (j : ℕ) × Stopped true terms list r.tried j)
      go (inl t) = (λ q. t, λ q. absurd (q (ran.accepted_many ∙ many r.tried (t.sound refl))))
      go (inr (j, s)) = (λ q. absurd (fewer j s q), λ q. (j, s))
        where
          fewer : (j : ℕ) → Stopped true terms list r.tried j → r.accepted ≢ r.tried
          fewer j s q =
              let x = event_at list (8 * j) in
              let c : accepted_at terms list (suc j) ≡ accepted_at terms list j =
              clocked_append terms (x ∷ []) (first_events j list) (start terms)
              ∙ ap (λ r. accepted_at terms list j ++ r) (clocked_no terms (state_at terms list j) fresh_records x s.refused) ∙ append-nil (accepted_at terms list j) in
              let g : r.accepted ≡ j = ran.accepted_many ∙ ap (λ (i : ℕ). length (accepted_at terms list i)) s.behind ∙ ap length c ∙ many j s.before in
              omega (arith, s.behind)

  pub some_tried : r.accepted ≢ r.tried → (1 ≤ r.tried) × (r.tried ≤ 512)
  some_tried q = let (j, s) = ended.1 q in (omega (arith, s.behind), omega (arith, ran.inside, (room call).short))

  module _ (long : length w.page.answers ≡ 512) where
    abbrev c : Checks
    c = strict_checks terms list w.page.work (w.lamports ∷ [])

    passed : c.early ≡ 0
    passed = sym (early_strict terms list w long) ∙ sym call.checked

    pub strict_ran : {work' : Work} {numbers' : List ℕ} → r.accepted ≡ r.tried → work' ≡ swept terms.processes m₁ r.accepted r.carried w₁.page.work → numbers' ≡ zeroed r.accepted m₁ w₁.lamports
        → ◌≡◌ {A = Ends} ((done r.carried, work'), numbers') (strict_lamport terms list w.page.work w.lamports)
    unfolding strict_lamport
    strict_ran {work'} {numbers'} q a d =
        let t = ended.0 q in
        let e : r.tried ≡ m₁ = t.whole in
        let every : AllAccepted terms list m₁ = rw e at (t.sound refl) in
        let none : first_refused 0 (answers_at terms list m₁) ≡ of_call 0 = ap (first_refused 0) every ∙ refused_none m₁ 0 in
        let v = rw e at ran.carried_many in
        let x = a ∙ rw e at (tidied call) in
        let y = d ∙ rw e at (lamports_tidied call) in
        rw (eq-eqb c.early 0 passed, none) (λ i. ((done (v i), x i), y i))

    pub strict_stopped : {given : Refusal} {work' : Work} {numbers' : List ℕ} → r.accepted ≢ r.tried → given.number ≡ get_or w₁.page.answers (r.tried - 1) 0 → given.position ≡ r.tried - 1
        → work' ≡ swept terms.processes m₁ 0 0 w₁.page.work → numbers' ≡ zeroed 0 m₁ w₁.lamports
        → ◌≡◌ {A = Ends} ((refused given, work'), numbers') (strict_lamport terms list w.page.work w.lamports)
    unfolding first_events answers strict_lamport
    strict_stopped {given} {work'} {numbers'} q en ep a d₀ =
        let (j, s) = ended.1 q in
        let d : r.tried - 1 ≡ j = omega (arith, s.behind) in
        let x = answer terms (state_at terms list j) (event_at list (8 * j)) in
        let xs : answers_at terms list r.tried ≡ replicate j 0 ++ (x ∷ []) =
        ap (λ (i : ℕ). answers_at terms list i) s.behind ∙ answers_append terms (event_at list (8 * j) ∷ []) (first_events j list) (start terms)
        ∙ ap (λ (r : List ℕ). r ++ (x ∷ [])) s.before in
        let lx : length (answers_at terms list r.tried) ≡ r.tried = length_answers terms (first_events r.tried list) (start terms) ∙ length_events r.tried list in
        let there : get_or w₁.page.answers j 0 ≡ x =
        ap (λ (t : List ℕ). get_or t j 0) ran.answer
        ∙ rw zero-add at (get_d_sets w.page.answers (answers_at terms list r.tried) 0 j (omega (arith, ran.inside, (room call).answer)) (omega (arith, s.behind)))
        ∙ ap (λ (t : List ℕ). get_or t j 0) xs ∙ get_or_at (replicate j 0) x [] 0 j (length-replicate j 0) in
        let refusing : first_refused 0 (answers_at terms list m₁) ≡ record { number = x; position = j } =
        refused_first terms m₁ list j (omega (arith, s.behind, ran.inside)) s.before s.refused in
        let f = en ∙ ap (λ (i : ℕ). get_or w₁.page.answers i 0) d ∙ there in
        let g = ep ∙ d in
        let y = a ∙ emptied call in
        let o = d₀ ∙ lamports_emptied call in
        rw (eq-eqb c.early 0 passed, refusing, ne_eqb x 0 s.refused) (λ i. ((refused (record { number = f i; position = g i }), y i), o i))
