-- The reader's checks in their order: past the header they are those of the strict course and, behind all of them, the recorded stamps.
use Prim.Native.Nat.{ℕ, ◌+◌, ◌%◌, ◌≤◌}
use native.Mathlib.Omega.{arith}
use mathlib.Core.Path.{◌≡◌, sym, ap, ap₂, ◌∙◌}
use mathlib.Core.Logic.{◌≢◌}
use mathlib.Core.List.{List, [], ◌∷◌}
use lib.ListN.{length, take, drop, length-drop}
use lib.Seq.{length-take-le}
use borrow.Author.Tests.{eq-eqb, ne_eqb, le-ltb}
use Rattle.paper.specs.Buffers.{Work, laid, nine, entries, filled, cleared, call, further}
use Rattle.paper.specs.Class.{list_checks}
use Rattle.paper.specs.Event.{how_many}
use Rattle.paper.specs.Lamport.{lamports}
use Rattle.paper.specs.Machine.{accepted_of}
use Rattle.paper.specs.Questions.{strict_checks, strict_lamport}
use Rattle.paper.specs.Reading.{header_checks, stamps_refused, Read, read_of, reading_checks, reading_lamport}
use Rattle.paper.specs.Refusals.{Refusal, of_call, Checks, refusal_of, ◌also◌, Outcome, refused, done, outcome}
use Rattle.paper.specs.Sheet.{terms_in, list_offset, list_size, list_in, stamps_in, pieces}
use Rattle.paper.specs.Stands.{Roomy, one_further, Stands}
use Rattle.paper.specs.Terms.{Terms}
use Rattle.paper.proofs.Also.{call_done, also_kept, also_first}
use Rattle.paper.proofs.Ample.{list_then, header_then}
use Rattle.paper.proofs.Laws.Refused.{is_refused, after_done}
use Rattle.paper.proofs.Lent.{lamports_few}
use Rattle.paper.proofs.RoundTrip.{list_early}
use Rattle.paper.proofs.Sheets.Checks.{is_done}
use Rattle.paper.proofs.Sheets.Header.{Header, header_says}
use Rattle.paper.proofs.Stands.{list_stands}
use Rattle.clock.specs.Said.{stated}
use Rattle.course.specs.Said.{wiped, wiped_slots}
use Rattle.course.proofs.Passed.{wiped_held, wiped_further}
use Rattle.sheet.specs.declared.header.Part.{Part}
use Rattle.sheet.specs.declared.header.Parts.{Parts}
use Rattle.sheet.specs.Header.{parts_in}
use Rattle.sheet.specs.Slots.{slot_pieces, Slots}
use Rattle.sheet.proofs.Filled.{slots_there, pieces_there}

-- What a reader of Lamport numbers leaves behind.
abbrev Ends : Type 0
Ends = (Outcome Read × Work) × List ℕ

-- A header that refuses: its number, and nothing is written.
pub head_refused :
    (b : List ℕ) {w : Work} {numbers : List ℕ} {r : ℕ} {given : Refusal} → header_checks b 0 ≡ r → r ≢ 0 → given ≡ of_call r
    → ◌≡◌ {A = Ends} ((refused given, w), numbers) (reading_lamport b w numbers)
unfolding reading_lamport
head_refused b {w} {numbers} {r} {given} e h g =
    let k = nine (terms_in b) (how_many (list_in b)) w (numbers ∷ []) in
    let f : header_checks b k ≡ r = header_then b k ∙ rw (e, ne_eqb r 0 h) in
    rw (f, ne_eqb r 0 h, ne_eqb r 0 h) (λ i. ((refused (g i), w), numbers))

first_room : {m : ℕ} {slots : List ℕ} {more : List (List ℕ)} → Roomy m (slots ∷ more) → m ≤ length slots
first_room (one_further l r) = l

module _ (b : List ℕ) (ok : header_checks b 0 ≡ 0) where
  pub head : Header b
  head = ((header_says b 0 ((λ h. h), (λ h. h))).0 ok).0

  list_long : length (list_in b) ≡ list_size b
  list_long = length-take-le (list_size b) (drop (list_offset b) b) (omega (arith, length-drop (list_offset b) b, head.list_inside.1))

  abbrev pub recorded : Refusal
  recorded = stamps_refused 0 (pieces (accepted_of (terms_in b) (list_in b))) (stamps_in b)

  -- 3, 4 and 8 have passed too.
  list_right : list_checks (terms_in b) (list_in b) 0 ≡ 0
  list_right =
      let (m, l, e) = head.whole_records in
      rw (
        eq-eqb (terms_in b).version 1 head.right.version,
        le-ltb (terms_in b).processes 1 head.right.processes.0,
        le-ltb 32 (terms_in b).processes head.right.processes.1,
        eq-eqb (length (list_in b) % 8) 0 (rw list_long (omega arith)),
        le-ltb 4096 (length (list_in b)) (rw list_long (omega arith)),
      )

  -- So what is checked is what the strict course checks, and then the recorded stamps.
  pub checks_are : (w : Work) (more : List (List ℕ)) → reading_checks b w more ≡ (strict_checks (terms_in b) (list_in b) w more also recorded)
  checks_are w more =
      let k = nine (terms_in b) (how_many (list_in b)) w more in
      let f : header_checks b k ≡ k = header_then b k ∙ rw ok in
      let g : list_checks (terms_in b) (list_in b) k ≡ k = list_then (terms_in b) (list_in b) k ∙ rw list_right in
      let e = f ∙ sym g in
      λ i. record { early = e i; late = (reading_checks b w more).late }

  module _ (w : Work) (numbers : List ℕ) where
    abbrev t : Terms
    t = terms_in b

    abbrev list : List ℕ
    list = list_in b

    abbrev m : ℕ
    m = how_many list

    abbrev c : Checks
    c = strict_checks t list w (numbers ∷ [])

    -- What the reader leaves behind, by these checks.
    abbrev Left : Checks → Ends
    Left d = (call d (read_of t list) t list w, further d m (lamports (accepted_of t list)) numbers)

    left_is : Left (c also recorded) ≡ reading_lamport b w numbers
    unfolding reading_lamport
    left_is = ap Left (sym (checks_are w (numbers ∷ [])))

    module _ (early : c.early ≡ 0) (late : c.late.number ≡ 0) where
      refuses : recorded.number ≢ 0 → Left (c also recorded) ≡ ((refused recorded, cleared t m w), laid m [] numbers)
      refuses r = rw (eq-eqb c.early 0 early, eq-eqb c.late.number 0 late, ne_eqb recorded.number 0 r)

      accepts :
          recorded.number ≡ 0
          → Left (c also recorded)
          ≡ ((done (record { terms = t; list = list; carried = entries (accepted_of t list) }), filled t m (accepted_of t list) w), laid m (lamports (accepted_of t list)) numbers)
      unfolding read_of
      accepts r = rw (eq-eqb c.early 0 early, eq-eqb c.late.number 0 late, eq-eqb recorded.number 0 r)

    -- The list is refused.
    pub list_refused :
        {given : Refusal} {w' : Work} {numbers' : List ℕ}
        → ◌≡◌ {A = (Outcome ℕ × Work) × List ℕ} ((refused given, w'), numbers') (strict_lamport t list w numbers)
        → ◌≡◌ {A = Ends} ((refused given, w'), numbers') (reading_lamport b w numbers)
    unfolding strict_lamport
    list_refused {given} {w'} {numbers'} h =
        let (z, q) = is_refused (refusal_of c) (entries (accepted_of t list)) given (ap (λ (p : (Outcome ℕ × Work) × List ℕ). p.0.0) h) in
        let g : given ≡ refusal_of (c also recorded) = q ∙ sym (also_first c recorded z) in
        let x : w' ≡ (call (c also recorded) (read_of t list) t list w).1 =
        ap (λ (p : (Outcome ℕ × Work) × List ℕ). p.0.1) h ∙ sym (also_kept c recorded _ _ w _ z) in
        let y : numbers' ≡ further (c also recorded) m (lamports (accepted_of t list)) numbers =
        ap (λ (p : (Outcome ℕ × Work) × List ℕ). p.1) h ∙ sym (also_kept c recorded _ _ numbers _ z) in
        let o : (refusal_of (c also recorded)).number ≢ 0 = λ e. z (ap (λ (r : Refusal). r.number) (sym (also_first c recorded z)) ∙ e) in
        let a : outcome (refusal_of (c also recorded)) (read_of t list) ≡ refused (refusal_of (c also recorded)) =
        rw (ne_eqb (refusal_of (c also recorded)).number 0 o) in
        (λ i. ((refused (g i), x i), y i)) ∙ (λ i. ((sym a i, (call (c also recorded) (read_of t list) t list w).1), further (c also recorded) m (lamports (accepted_of t list)) numbers))
        ∙ left_is

    module _ {v : ℕ} {w' : Work} {numbers' : List ℕ}
        (h : ◌≡◌ {A = (Outcome ℕ × Work) × List ℕ} ((done v, w'), numbers') (strict_lamport t list w numbers)) where
      done_is : (done v, w') ≡ call c (entries (accepted_of t list)) t list w
      unfolding strict_lamport
      done_is = ap (λ (p : (Outcome ℕ × Work) × List ℕ). p.0) h

      passed : (c.early ≡ 0) × (c.late.number ≡ 0)
      passed = (call_done c (entries (accepted_of t list)) v t list w w' done_is).0

      pub stands : Stands t list w w'
      stands = (list_stands (numbers ∷ []) (entries (accepted_of t list)) v done_is).0

      carried_is : v ≡ entries (accepted_of t list)
      carried_is = sym (call_done c (entries (accepted_of t list)) v t list w w' done_is).1

      numbers_are : numbers' ≡ laid m (lamports (accepted_of t list)) numbers
      unfolding strict_lamport
      numbers_are = ap (λ (p : (Outcome ℕ × Work) × List ℕ). p.1) h ∙ after_done c _ _ numbers passed.0 passed.1

      numbers_room : (length (lamports (accepted_of t list)) ≤ m) × (m ≤ length numbers)
      numbers_room = (lamports_few t list w, first_room ((list_early t list w (numbers ∷ [])).0 passed.0).1.1)

      -- The recorded stamps refuse, and all named slots are cleared.
      pub stamps_differ :
          {given : Refusal} {w'' : Work} {numbers'' : List ℕ} → given ≡ recorded → given.number ≢ 0 → w'' ≡ wiped t.processes m w'
          → numbers'' ≡ wiped_slots m numbers' → ◌≡◌ {A = Ends} ((refused given, w''), numbers'') (reading_lamport b w numbers)
      stamps_differ {given} {w''} {numbers''} e z x y =
          let (early, late) = passed in
          let r : recorded.number ≢ 0 = λ q. z (ap (λ (g : Refusal). g.number) e ∙ q) in
          let (k, roomy) = numbers_room in
          let p : w'' ≡ cleared t m w = x ∙ wiped_held stands.held in
          let q : numbers'' ≡ laid m [] numbers = y ∙ ap (wiped_slots m) numbers_are ∙ wiped_further m (lamports (accepted_of t list)) numbers k roomy in
          (λ i. ((refused (e i), p i), q i)) ∙ sym (refuses early late r) ∙ left_is

      -- They are those of the slots.
      pub stamps_agree :
          {given : Refusal} {w'' : Work} {numbers'' list' : List ℕ} → given ≡ recorded → given.number ≡ 0 → w'' ≡ w' → numbers'' ≡ numbers' → list' ≡ list
          → ◌≡◌ {A = Ends} ((done (record { terms = t; list = list'; carried = v }), w''), numbers'') (reading_lamport b w numbers)
      stamps_agree {given} {w''} {numbers''} {list'} e z x y l =
          let (early, late) = passed in
          let r : recorded.number ≡ 0 = ap (λ (g : Refusal). g.number) (sym e) ∙ z in
          let p : w'' ≡ filled t m (accepted_of t list) w = x ∙ stands.held.is in
          let q = y ∙ numbers_are in
          (λ i. ((done (record { terms = t; list = l i; carried = carried_is i }), p i), q i)) ∙ sym (accepts early late r) ∙ left_is

-- The reader over the parts that the header told.
module _ (b : List ℕ) {p : Parts} (ok : header_checks b 0 ≡ 0) (e : p ≡ parts_in b) where
  abbrev cut : Part → List ℕ
  cut q = take q.size (drop q.offset b)

  terms_are : stated p.terms ≡ terms_in b
  terms_are = ap (λ (q : Parts). stated q.terms) e

  list_is : cut p.list ≡ list_in b
  list_is = ap (λ (q : Parts). cut q.list) e

  stamps_are : cut p.stamps ≡ stamps_in b
  stamps_are = ap (λ (q : Parts). cut q.stamps) e

  pub parts_inside : (p.list.offset + p.list.size ≤ length b) × (p.stamps.offset + p.stamps.size ≤ length b) × (length b ≤ 40960)
  parts_inside = let h = head b ok in rw e (h.list_inside.1, h.stamps_inside.1, h.size.1)

  module _ (w : Work) (numbers : List ℕ) where
    same_course : strict_lamport (stated p.terms) (cut p.list) w numbers ≡ strict_lamport (terms_in b) (list_in b) w numbers
    same_course = ap₂ (λ (u : Terms) (l : List ℕ). strict_lamport u l w numbers) terms_are list_is

    pub course_refused :
        {given : Refusal} {w' : Work} {numbers' : List ℕ}
        → ◌≡◌ {A = (Outcome ℕ × Work) × List ℕ} ((refused given, w'), numbers') (strict_lamport (stated p.terms) (cut p.list) w numbers)
        → ◌≡◌ {A = Ends} ((refused given, w'), numbers') (reading_lamport b w numbers)
    course_refused h = list_refused b ok w numbers (h ∙ same_course)

    module _ {v : ℕ} {w' : Work} {numbers' : List ℕ}
        (h : ◌≡◌ {A = (Outcome ℕ × Work) × List ℕ} ((done v, w'), numbers') (strict_lamport (stated p.terms) (cut p.list) w numbers)) where
      pub slots_lent : Slots (cut p.list) w'.masks w'.values
      slots_lent = rw list_is (slots_there (stands b ok w numbers (h ∙ same_course)))

      same_stamps : stamps_refused 0 (slot_pieces (cut p.list) w'.masks w'.values) (cut p.stamps) ≡ recorded b ok
      same_stamps = ap₂ (λ (ts : List (List ℕ)) (s : List ℕ). stamps_refused 0 ts s) (rw list_is (pieces_there (stands b ok w numbers (h ∙ same_course)))) stamps_are

      -- What is left of the slots once the stamps were compared.
      module _ {w'' : Work} {numbers'' : List ℕ} where
        pub recorded_differ :
            {given : Refusal} → refused given ≡ outcome (stamps_refused 0 (slot_pieces (cut p.list) w'.masks w'.values) (cut p.stamps)) (tt {0})
            → w'' ≡ wiped p.terms.processes (how_many (cut p.list)) w' → numbers'' ≡ wiped_slots (how_many (cut p.list)) numbers'
            → ◌≡◌ {A = Ends} ((refused given, w''), numbers'') (reading_lamport b w numbers)
        recorded_differ {given} d left kept =
            let (z, q) = is_refused _ (tt {0}) given d in
            stamps_differ b ok w numbers (h ∙ same_course) (q ∙ same_stamps) (rw (← q) at z)
            (left ∙ ap₂ (λ (n : ℕ) (l : List ℕ). wiped n (how_many l) w') (ap (λ (u : Terms). u.processes) terms_are) list_is)
            (kept ∙ ap (λ (l : List ℕ). wiped_slots (how_many l) numbers') list_is)

        pub recorded_agree :
            done (tt {0}) ≡ outcome (stamps_refused 0 (slot_pieces (cut p.list) w'.masks w'.values) (cut p.stamps)) (tt {0}) → w'' ≡ w' → numbers'' ≡ numbers'
            → ◌≡◌ {A = Ends} ((done (record { terms = stated p.terms; list = cut p.list; carried = v }), w''), numbers'') (reading_lamport b w numbers)
        recorded_agree d left kept =
            let z = ((is_done _ (tt {0}) (tt {0})).0 (sym d)).0 in
            (λ i. ((done (record { terms = terms_are i; list = cut p.list; carried = v }), w''), numbers''))
            ∙ stamps_agree b ok w numbers (h ∙ same_course) same_stamps z left kept list_is
