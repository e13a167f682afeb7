-- Checks with a rest: the rest counts where those before it pass. So further slots that are always enough change nothing, and a call that does not ask
-- for Lamport numbers is the call that does, with 512 slots for them.
use Prim.Native.Nat.{ℕ, ◌*◌, ◌%◌, ◌≤◌}
use native.Mathlib.Nat.{mul-le-mul}
use native.Mathlib.Decide.{ℕ_discrete}
use native.Mathlib.Omega.{arith}
use mathlib.Core.Path.{◌≡◌, refl, sym, ap, ◌∙◌}
use mathlib.Core.Logic.{◌≢◌}
use mathlib.Core.Bool.{Bool, true, false, cond, ◌||◌, not}
use mathlib.Core.List.{List, [], ◌∷◌, ◌++◌}
use lib.Dec.{eqb, ltb}
use lib.ListN.{length, drop, length-take}
use borrow.Author.Tests.{le-ltb, ne_eqb}
use Rattle.paper.specs.Buffers.{Work, short, ample, lacking, nine, entries, call, further}
use Rattle.paper.specs.Bytes.{byte}
use Rattle.paper.specs.Class.{wrong_list, list_checks, Classed, classed_of, class, class_lamport}
use Rattle.paper.specs.Event.{how_many}
use Rattle.paper.specs.Machine.{answers_of, accepted_of}
use Rattle.paper.specs.Questions.{strict, strict_lamport}
use Rattle.paper.specs.Reading.{outside, shared, header_checks, first_refused, read_of, reading_checks, reading, reading_lamport}
use Rattle.paper.specs.Refusals.{first, of_call, Checks, Outcome}
use Rattle.paper.specs.Sheet.{processes_in, terms_in, list_offset, list_size, stamps_offset, stamps_size, list_in}
use Rattle.paper.specs.Terms.{Terms, wrong_version, wrong_count}
use Rattle.paper.proofs.Sheets.Checks.{room, list_passed}
use Rattle.paper.proofs.Sheets.Header.{header_says}

-- A check that refuses does so whatever the rest is.
first_rest : (b : Bool) (r k l : ℕ) → (b ≡ false → k ≡ l) → first b r k ≡ first b r l
first_rest true r k l h = refl
first_rest false r k l h = h refl

first_then : (b : Bool) (r k : ℕ) (f : ℕ → ℕ) → r ≢ 0 → (f k ≡ cond (eqb (f 0) 0) k (f 0)) → first b r (f k) ≡ cond (eqb (first b r (f 0)) 0) k (first b r (f 0))
first_then true r k f h e = rw (ne_eqb r 0 h)
first_then false r k f h e = e

pub list_then : (t : Terms) (list : List ℕ) (k : ℕ) → list_checks t list k ≡ cond (eqb (list_checks t list 0) 0) k (list_checks t list 0)
list_then t list k =
    first_then (wrong_version t) 3 k (λ i. first (wrong_count t.processes) 4 (first (wrong_list list) 8 i)) (λ z. omega arith)
    (first_then (wrong_count t.processes) 4 k (λ i. first (wrong_list list) 8 i) (λ z. omega arith)
    (first_then (wrong_list list) 8 k (λ i. i) (λ z. omega arith) refl))

pub header_then : (b : List ℕ) (k : ℕ) → header_checks b k ≡ cond (eqb (header_checks b 0) 0) k (header_checks b 0)
unfolding header_checks
header_then b k =
    go (ltb (length b) 24 || ltb 40960 (length b)) (not (eqb (byte b 0) 67) || not (eqb (byte b 1) 75) || not (eqb (byte b 2) 84))
    (wrong_version (terms_in b)) (wrong_count (processes_in b)) (not (eqb (byte b 6) 0) || not (eqb (byte b 7) 0))
    (outside (length b) (list_offset b) (list_size b) || not (eqb (list_size b % 8) 0) || ltb 4096 (list_size b))
    (outside (length b) (stamps_offset b) (stamps_size b) || shared (list_offset b) (list_size b) (stamps_offset b) (stamps_size b))
  where
    go :
        (b1 b2 b3 b4 b5 b6 b7 : Bool)
        → let f : ℕ → ℕ = λ i. first b1 1 (first b2 2 (first b3 3 (first b4 4 (first b5 5 (first b6 6 (first b7 7 i)))))) in
        f k ≡ cond (eqb (f 0) 0) k (f 0)
    go true b2 b3 b4 b5 b6 b7 = refl
    go false true b3 b4 b5 b6 b7 = refl
    go false false true b4 b5 b6 b7 = refl
    go false false false true b5 b6 b7 = refl
    go false false false false true b6 b7 = refl
    go false false false false false true b7 = refl
    go false false false false false false true = refl
    go false false false false false false false = refl

-- So two rests that agree where the checks before them pass give the same number.
pub rest_same : (f : ℕ → ℕ) (k l : ℕ) → ((i : ℕ) → f i ≡ cond (eqb (f 0) 0) i (f 0)) → (f 0 ≡ 0 → k ≡ l) → f k ≡ f l
rest_same f k l h e = go (ℕ_discrete (f 0) 0)
  where
    go : Dec (f 0 ≡ 0) → f k ≡ f l
    go (yes z) = ap f (e z)
    go (no z) =
        let p : (i : ℕ) → cond (eqb (f 0) 0) i (f 0) ≡ f 0 = λ i. rw (ne_eqb (f 0) 0 z) in
        h k ∙ p k ∙ sym (h l ∙ p l)

-- There are at most 512 events where the checks pass.
pub list_brief : (t : Terms) (list : List ℕ) → list_checks t list 0 ≡ 0 → (t.processes ≤ 32) × (how_many list ≤ 512)
list_brief t list h =
    let (listed, rest) = (list_passed t list 0 (λ z. z, λ z. z)).0 h in
    let (m, few, size) = listed.whole_records in
    (listed.processes.1, omega arith)

pub sheet_brief : (b : List ℕ) → header_checks b 0 ≡ 0 → (processes_in b ≤ 32) × (how_many (list_in b) ≤ 512)
sheet_brief b h =
    let (head, rest) = (header_says b 0 (λ z. z, λ z. z)).0 h in
    let (m, few, size) = head.whole_records in
    (head.right.processes.1, omega (arith, length-take (list_size b) (drop (list_offset b) b)))

-- 9 is not given for ample slots.
pub roomy_ample : (n m : ℕ) → n ≤ 32 → m ≤ 512 → short n m ample ≡ false
roomy_ample n m few brief =
    let most : n * m ≤ 16384 = omega (arith, mul-le-mul few brief) in
    (room n m ample).1 (record { clocks = most; masks = brief; values = most })

lacking_last : (m : ℕ) (more : List (List ℕ)) (slots : List ℕ) → m ≤ length slots → lacking m (more ++ (slots ∷ [])) ≡ lacking m more
unfolding lacking
lacking_last m [] slots h = rw (le-ltb (length slots) m h)
lacking_last m (x ∷ more) slots h = ap (first (ltb (length x) m) 9) (lacking_last m more slots h)

-- 512 further slots are always enough.
module _ (slots : List ℕ) (long : 512 ≤ length slots) where
  pub list_unasked :
      (t : Terms) (list : List ℕ) (w : Work) (more : List (List ℕ))
      → list_checks t list (nine t (how_many list) w (more ++ (slots ∷ []))) ≡ list_checks t list (nine t (how_many list) w more)
  list_unasked t list w more =
      rest_same (list_checks t list) _ _ (list_then t list)
      (λ h. ap (first (short t.processes (how_many list) w) 9) (lacking_last (how_many list) more slots (omega (arith, (list_brief t list h).1))))

  pub sheet_unasked :
      (b : List ℕ) (w : Work) (more : List (List ℕ))
      → header_checks b (nine (terms_in b) (how_many (list_in b)) w (more ++ (slots ∷ []))) ≡ header_checks b (nine (terms_in b) (how_many (list_in b)) w more)
  sheet_unasked b w more =
      rest_same (header_checks b) _ _ (header_then b)
      (λ h.
      ap (first (short (processes_in b) (how_many (list_in b)) w) 9) (lacking_last (how_many (list_in b)) more slots (omega (arith, (sheet_brief b h).1))))

  -- The calls that do not ask for Lamport numbers.
  module _ (t : Terms) (list : List ℕ) (w : Work) where
    pub class_unasked :
        (answered : List ℕ)
        → ◌≡◌ {A = (Outcome Classed × Work) × List ℕ} ((class_lamport t list w answered slots).0, (class_lamport t list w answered slots).1)
        (class t list w answered)
    unfolding class class_lamport
    class_unasked answered =
        ap
        (λ (e : ℕ).
        let c : Checks = record { early = e; late = of_call 0 } in
        (call c (classed_of t list) t list w, further c (how_many list) (answers_of t list) answered))
        (list_unasked t list w (answered ∷ []))

    pub strict_unasked : (strict_lamport t list w slots).0 ≡ strict t list w
    unfolding strict strict_lamport
    strict_unasked =
        ap (λ (e : ℕ). call (record { early = e; late = first_refused 0 (answers_of t list) }) (entries (accepted_of t list)) t list w)
        (list_unasked t list w [])

  pub reading_unasked : (b : List ℕ) (w : Work) → (reading_lamport b w slots).0 ≡ reading b w
  unfolding reading reading_lamport
  reading_unasked b w =
      ap
      (λ (e : ℕ).
      call (record { early = e; late = (reading_checks b w []).late }) (read_of (terms_in b) (list_in b)) (terms_in b) (list_in b) w)
      (sheet_unasked b w [])
