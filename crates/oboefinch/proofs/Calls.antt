-- The fields of every call are small, whatever is lent.
use Prim.Native.Nat.{ℕ, min, ◌≤◌}
use native.Mathlib.Nat.{mul-le-mul}
use native.Mathlib.Omega.{arith}
use mathlib.Core.Path.{◌≡◌, refl}
use mathlib.Core.Bool.{◌||◌, not}
use mathlib.Core.List.{List, [], ◌∷◌}
use lib.Dec.{eqb}
use lib.Ieee.{Float}
use lib.ListN.{length, drop, length-take}
use Rattle.paper.specs.Buffers.{Work, nine, entries}
use Rattle.paper.specs.Class.{list_checks, class_checks, classed_of, class, class_lamport}
use Rattle.paper.specs.Clock.{Clock}
use Rattle.paper.specs.Event.{how_many, events_of}
use Rattle.paper.specs.Machine.{start, answers_of, accepted_of}
use Rattle.paper.specs.Marking.{line_count, line_at, wrong_lines, is_right, total, marking_checks, marking}
use Rattle.paper.specs.Order as order
use Rattle.paper.specs.Questions.{ordering, strict_checks, asked, comparing, chained, chaining, writing_checks, writing}
use Rattle.paper.specs.Reading.{header_checks, first_refused, read_of, reading_checks, reading, reading_lamport}
use Rattle.paper.specs.Refusals.{first, of_call, refusal_of, outcome}
use Rattle.paper.specs.Savings.{Saving, no_messages, percent, saving, counts_in, storing_checks, storing}
use Rattle.paper.specs.Sheet.{processes_in, terms_in, list_offset, list_size, list_in, stamps_in, piece, pieces}
use Rattle.paper.specs.Stamp.{stamps}
use Rattle.paper.specs.Terms.{Terms, wrong_count}
use Rattle.paper.proofs.Laws.Masks.{count_le}
use Rattle.paper.proofs.Laws.Runs.{clocked_few, length_events}
use Rattle.paper.proofs.Laws.Tables.{cond_cases}
use Rattle.paper.proofs.Lent.{chain_few}
use Rattle.paper.proofs.Lent.Stamps.{slots_fit}
use Rattle.paper.proofs.NeverShort.{few_lines}
use Rattle.paper.proofs.ReadExactly.{early_says}
use Rattle.paper.proofs.RoundTrip.{list_early, list_accepted, writing_number}
use Rattle.paper.proofs.Sheets.Checks.{in_order, placed}
use Rattle.paper.proofs.Sheets.Header.{Header}
use Rattle.paper.proofs.Sheets.Layout.{written_long}
use Rattle.paper.proofs.Sheets.Sizes.{stamps_short}
use Rattle.paper.proofs.TotalRight.{marking_number}
use Rattle.oboefinch.specs.Packed.{read_fields, class_fields, write_fields, verdict_fields, chain_fields, mark_fields, saving_fields, fields}
use Rattle.oboefinch.proofs.Refusals.{Mild, capped, call_mild, then_mild, checks_mild, mild_small, lacking_capped, events_mild, stamps_mild, zip_few}
use Rattle.oboefinch.proofs.Small.{Small, outcome_small}

verdict_few : (n : ℕ) (v w : Clock) → order.verdict n v w ≤ 4
unfolding order.verdict
verdict_few n v w =
    cond_cases (λ k. k ≤ 4) (order.below n v w) _ _ (λ q. omega arith)
    (λ q. cond_cases (λ k. k ≤ 4) (order.below n w v) _ _ (λ p. omega arith)
    (λ p. cond_cases (λ k. k ≤ 4) (order.same n v w) _ _ (λ r. omega arith) (λ r. omega arith)))

verdict_small : (n : ℕ) (v w : Clock) → Small (verdict_fields (order.verdict n v w))
verdict_small n v w = record { number = omega arith; x = omega (arith, verdict_few n v w); y = omega arith; z = omega arith }

pub ordering_small : (v w : List ℕ) → Small (fields verdict_fields (ordering v w))
unfolding ordering
ordering_small v w =
    outcome_small verdict_fields (of_call _) _
    (mild_small _ (call_mild (first (wrong_count (length v) || wrong_count (length w) || not (eqb (length v) (length w))) 4 0) (simp capped)))
    (λ h. verdict_small (length v) v w)

saving_small : (s : Saving) → Small (saving_fields s)
saving_small no_messages = record { number = omega arith; x = omega arith; y = omega arith; z = omega arith }
saving_small (percent p) = record { number = omega arith; x = omega arith; y = omega arith; z = omega arith }

-- How many events a list has accepted, and how many values their stamps carry.
record Few (t : Terms) (list : List ℕ) : Type 0 where
  offered : length (events_of list) ≤ 512
  accepted : length (accepted_of t list) ≤ 512
  carried : entries (accepted_of t list) ≤ 16384

few : (t : Terms) (list : List ℕ) → t.processes ≤ 32 → how_many list ≤ 512 → Few t list
few t list small brief =
    let es = events_of list in
    let o : length es ≤ 512 = omega (arith, length_events (how_many list) list) in
    let a : length (accepted_of t list) ≤ 512 = omega (arith, clocked_few t es (start t)) in
    record { offered = o; accepted = a; carried = omega (arith, (slots_fit t small es o).values, mul-le-mul small a) }

-- Calls on a list that is lent directly.
module _ (t : Terms) (list : List ℕ) (w : Work) where
  list_few : (more : List (List ℕ)) → (strict_checks t list w more).early ≡ 0 → Few t list
  list_few more z =
      let (listed, room) = (list_early t list w more).0 z in
      let (m, brief, size) = listed.whole_records in
      few t list listed.processes.1 (omega arith)

  list_capped : (more : List (List ℕ)) → let e = list_checks t list (nine t (how_many list) w more) in min 255 e ≡ e
  list_capped more = simp (capped, lacking_capped (how_many list) more)

  -- Class mode, whatever else 9 asks for.
  class_by : (more : List (List ℕ)) → Small (fields class_fields (outcome (refusal_of (class_checks t list w more)) (classed_of t list)))
  class_by more =
      let c = class_checks t list w more in
      outcome_small class_fields (refusal_of c) (classed_of t list) (mild_small _ (checks_mild c (list_capped more) (λ z. call_mild 0 refl)))
      (λ h.
      let f = list_few more ((placed c).0 h).0 in
      record { number = omega arith; x = omega arith; y = omega (arith, f.accepted); z = omega (arith, f.carried) })

  pub class_small : (answered : List ℕ) → Small (fields class_fields (class t list w answered).0.0)
  unfolding class
  class_small answered = class_by (answered ∷ [])

  pub class_lamport_small : (answered numbers : List ℕ) → Small (fields class_fields (class_lamport t list w answered numbers).0.0)
  unfolding class_lamport
  class_lamport_small answered numbers = class_by (answered ∷ numbers ∷ [])

  -- Events in order.
  late_mild : (strict_checks t list w []).early ≡ 0 → Mild (first_refused 0 (answers_of t list))
  late_mild z = events_mild t (events_of list) (start t) 0 (omega (arith, (list_few [] z).offered))

  asked_mild : (a b : ℕ) → (strict_checks t list w []).early ≡ 0 → Mild (asked (strict_checks t list w []) list a b).late
  asked_mild a b z = then_mild (first_refused 0 (answers_of t list)) _ (late_mild z) (λ h. call_mild _ (simp capped))

  pub comparing_small : (a b : ℕ) → Small (fields verdict_fields (comparing t list w a b).0)
  unfolding comparing
  comparing_small a b =
      let c = asked (strict_checks t list w []) list a b in
      outcome_small verdict_fields (refusal_of c) _ (mild_small _ (checks_mild c (list_capped []) (asked_mild a b))) (λ h. verdict_small t.processes _ _)

  pub chaining_small : (a b : ℕ) (out : List ℕ) → Small (fields chain_fields (chaining t list w a b out).0.0)
  unfolding chaining
  chaining_small a b out =
      let c = chained (strict_checks t list w []) t list a b out in
      outcome_small chain_fields (refusal_of c) _
      (mild_small _ (checks_mild c (list_capped []) (λ z. then_mild (asked (strict_checks t list w []) list a b).late _ (asked_mild a b z) (λ h. call_mild _ (simp capped)))))
      (λ h.
      let (path, slots) = chain_few (strict_checks t list w []) t list w (λ q. ((list_accepted t list w []).0 q).0) a b out h in
      let small = ((list_early t list w []).0 ((placed c).0 h).0).0.processes.1 in
      record { number = omega arith; x = omega arith; y = omega arith; z = omega arith })

  pub writing_small : (out : List ℕ) → Small (fields write_fields (writing t list w out).0.0)
  unfolding writing
  writing_small out =
      let c = writing_checks t list w out in
      outcome_small write_fields (refusal_of c) _
      (mild_small _ (checks_mild c (list_capped []) (λ z. then_mild (first_refused 0 (answers_of t list)) _ (late_mild z) (λ h. call_mild _ (simp capped)))))
      (λ h.
      let ((given, room), fits) = (writing_number t list w out).0 h in
      let (m, brief, size) = given.listed.whole_records in
      record { number = omega arith; x = omega arith; y = omega arith; z = omega (arith, written_long t list, stamps_short t list (omega arith)) })

-- Past its header, a sheet has at most 512 events.
sheet_events : (b : List ℕ) → Header b → how_many (list_in b) ≤ 512
sheet_events b head = let (m, brief, size) = head.whole_records in omega (arith, length-take (list_size b) (drop (list_offset b) b))

-- Calls on a sheet.
module _ (b : List ℕ) (w : Work) where
  abbrev t : Terms
  t = terms_in b

  abbrev list : List ℕ
  list = list_in b

  sheet_few : (more : List (List ℕ)) → (reading_checks b w more).early ≡ 0 → Few t list
  sheet_few more z =
      let (head, room) = (early_says b w more).0 z in
      few t list head.right.processes.1 (sheet_events b head)

  sheet_capped : (more : List (List ℕ)) → let e = (reading_checks b w more).early in min 255 e ≡ e
  unfolding header_checks
  sheet_capped more = simp (capped, lacking_capped (how_many list) more)

  few_pieces : length (pieces (accepted_of t list)) ≤ length (accepted_of t list)
  unfolding pieces
  few_pieces = let cs = accepted_of t list in omega (arith, zip_few piece cs (stamps cs))

  sheet_mild : (more : List (List ℕ)) → (reading_checks b w more).early ≡ 0 → Mild (reading_checks b w more).late
  sheet_mild more z =
      let f = sheet_few more z in
      then_mild (first_refused 0 (answers_of t list)) _ (events_mild t (events_of list) (start t) 0 (omega (arith, f.offered)))
      (λ h. stamps_mild (pieces (accepted_of t list)) 0 (stamps_in b) (omega (arith, f.accepted, few_pieces)))

  -- Reading, whatever else 9 asks for.
  reading_by : (more : List (List ℕ)) → Small (fields read_fields (outcome (refusal_of (reading_checks b w more)) (read_of t list)))
  unfolding read_of
  reading_by more =
      let c = reading_checks b w more in
      outcome_small read_fields (refusal_of c) _ (mild_small _ (checks_mild c (sheet_capped more) (sheet_mild more)))
      (λ h.
      let (head, room) = (early_says b w more).0 ((placed c).0 h).0 in
      let f = sheet_few more ((placed c).0 h).0 in
      let brief = sheet_events b head in
      record { number = omega arith; x = omega (arith, head.right.processes.1); y = omega arith; z = omega (arith, f.carried) })

  pub reading_small : Small (fields read_fields (reading b w).0)
  unfolding reading
  reading_small = reading_by []

  pub reading_lamport_small : (numbers : List ℕ) → Small (fields read_fields (reading_lamport b w numbers).0.0)
  unfolding reading_lamport
  reading_lamport_small numbers = reading_by (numbers ∷ [])

  -- 30, as reading, 21; at most 200 lines, of which no more are right.
  pub marking_small : (lines out : List ℕ) → Small (fields mark_fields (marking b lines w out).0.0)
  unfolding marking total
  marking_small lines out =
      let c = marking_checks b lines w out in
      outcome_small mark_fields (refusal_of c) _
      (mild_small _ (checks_mild c (simp (capped, sheet_capped []))
      (λ z. then_mild (reading_checks b w []).late _ (sheet_mild [] (past_thirty z)) (λ h. call_mild _ (simp capped)))))
      (λ h.
      let brief = few_lines lines ((marking_number b lines w out).0 h).0 in
      let right = count_le (λ j. is_right (processes_in b) (accepted_of t list) (line_at lines j)) (line_count lines) in
      record { number = omega arith; x = omega arith; y = omega arith; z = omega arith })
    where
      past_thirty : first (wrong_lines lines) 30 (reading_checks b w []).early ≡ 0 → (reading_checks b w []).early ≡ 0
      past_thirty z = ((in_order (wrong_lines lines) 30 (reading_checks b w []).early (omega arith) (λ h. h, λ h. h) (λ h. h, λ h. h)).0 z).1

  -- As reading, 21; the two cases of a saving.
  pub storing_small : (out : List Float) → Small (fields saving_fields (storing b w out).0.0)
  unfolding storing
  storing_small out =
      let c = storing_checks b w out in
      outcome_small saving_fields (refusal_of c) _
      (mild_small _ (checks_mild c (sheet_capped []) (λ z. then_mild (reading_checks b w []).late _ (sheet_mild [] z) (λ h. call_mild _ (simp capped)))))
      (λ h. saving_small (saving (counts_in b)))
