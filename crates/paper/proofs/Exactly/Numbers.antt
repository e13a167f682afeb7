-- `numbers_given`: a call refuses with no other number than those of its checks; `no_17`: so no call gives 17.
use Prim.Native.Nat.{ℕ, suc, ◌%◌}
use native.Mathlib.Omega.{arith}
use mathlib.Core.Path.{◌≡◌, refl, sym, ap, ◌∙◌}
use mathlib.Core.Logic.{◌≢◌}
use mathlib.Core.Bool.{Bool, true, false, cond, ◌&&◌, ◌||◌, not, false≢true}
use mathlib.Core.List.{List, [], ◌∷◌, ◌++◌}
use lib.Dec.{eqb, ltb, leb}
use lib.ListN.{length, drop}
use Rattle.paper.specs.Buffers.{Work, short, lacking, nine}
use Rattle.paper.specs.Claims.Exactly.{of_sheet, of_list, Among, NumbersGiven, Never}
use Rattle.paper.specs.Bytes.{byte}
use Rattle.paper.specs.Class.{wrong_list, list_checks, class_checks, class, class_lamport}
use Rattle.paper.specs.Event.{Event, is_send, is_receive, events_of, how_many}
use Rattle.paper.specs.Machine.{State, start, waiting, member, in_queue, in_front, wrong_peer, wrong_number, shape, answer, offered, answers, answers_of, accepted_of}
use Rattle.paper.specs.Marking.{line_count, wrong_lines, marking}
use Rattle.paper.specs.Order.{verdict}
use Rattle.paper.specs.Questions.{strict_checks, strict, strict_lamport, writing, judged, comparing, chain_slots, chaining, comparing_sheet, chaining_sheet, ordering}
use Rattle.paper.specs.Reading.{outside, shared, header_checks, first_refused, begins, stamps_refused, reading_checks, reading, reading_lamport}
use Rattle.paper.specs.Refusals.{first, Refusal, of_call, ◌then◌, Checks, refusal_of, ◌also◌, Outcome, refused, done, outcome}
use Rattle.paper.specs.Savings.{tallying, savings, storing}
use Rattle.paper.specs.Sheet.{processes_in, terms_in, list_offset, list_size, stamps_offset, stamps_size, list_in, stamps_in, pieces, written}
use Rattle.paper.specs.Terms.{Terms, wrong_version, wrong_count}
use Rattle.paper.proofs.Laws.Tables.{cond_cases}

-- 0, or one of these.
abbrev pub Known : List ℕ → ℕ → Type 0
Known ns x = member x (0 ∷ ns) ≡ true

module _ (ns : List ℕ) where
  first_known : (b : Bool) (r k : ℕ) → Known ns r → Known ns k → Known ns (first b r k)
  first_known true r k h i = h
  first_known false r k h i = i

  then_known : (r k : Refusal) → Known ns r.number → Known ns k.number → Known ns (r then k).number
  then_known r k h i = cond_cases (λ (x : Refusal). Known ns x.number) (eqb r.number 0) k r (λ e. i) (λ e. h)

  none_known : Known ns 0
  unfolding member
  none_known = refl

  -- A refusal is none, or has one of these numbers.
  pub among : {A : Type 0} (r : Refusal) (a : A) → Known ns r.number → Among ns (outcome r a)
  unfolding member
  among {A} r a h x = go (eqb r.number 0) refl
    where
      go : (b : Bool) → eqb r.number 0 ≡ b → cond b (done a) (refused r) ≡ refused x → member x.number ns ≡ true
      go true e q = let z : ◌≡◌ {A = ℕ} 0 1 = cc in absurd (omega arith)
      go false e q =
          let same : r ≡ x = cc in
          let found : member r.number ns ≡ true = rw e at h in
          rw (← same) found

  -- The groups of checks.
  lacking_known : (m : ℕ) (more : List (List ℕ)) → Known ns 9 → Known ns (lacking m more)
  unfolding lacking
  lacking_known m [] h = none_known
  lacking_known m (slots ∷ more) h = first_known (ltb (length slots) m) 9 (lacking m more) h (lacking_known m more h)

  pub nine_known : (t : Terms) (m : ℕ) (w : Work) (more : List (List ℕ)) → Known ns 9 → Known ns (nine t m w more)
  nine_known t m w more h = first_known (short t.processes m w) 9 (lacking m more) h (lacking_known m more h)

  module _ (o : Known ns 10 × Known ns 11 × Known ns 12 × Known ns 13 × Known ns 14 × Known ns 15 × Known ns 16) where
    answer_in : (t : Terms) (s : State) (e : Event) → Known ns (answer t s e)
    unfolding answer shape
    answer_in t s e =
        first_known (not (leb e.kind 2)) 10 _ o.0
        (first_known (not (ltb e.process t.processes)) 11 _ o.1
        (first_known (wrong_peer t.processes e) 12 _ o.2
        (first_known (wrong_number e) 13 _ o.3
        (first_known (is_send e && member e.message s.used) 14 _ o.4
        (first_known (is_receive e && not (in_queue e.message (waiting s e))) 15 _ o.5
        (first_known (is_receive e && not (in_front e.message (waiting s e))) 16 0 o.6 none_known))))))

    events_in : (t : Terms) (es : List Event) (s : State) (i : ℕ) → Known ns (first_refused i (answers t s es)).number
    unfolding first_refused answers
    events_in t [] s i = none_known
    events_in t (e ∷ es) s i =
        then_known (record { number = answer t s e; position = i }) (first_refused (suc i) (answers t (offered t s e) es)) (answer_in t s e)
        (events_in t es (offered t s e) (suc i))

    pub strict_in : (t : Terms) (list : List ℕ) → Known ns (first_refused 0 (answers_of t list)).number
    strict_in t list = events_in t (events_of list) (start t) 0

  stamps_in_order : Known ns 18 → Known ns 19 → (ts : List (List ℕ)) (i : ℕ) (b : List ℕ) → Known ns (stamps_refused i ts b).number
  unfolding stamps_refused
  stamps_in_order h k [] i [] = none_known
  stamps_in_order h k [] i (x ∷ b) = k
  stamps_in_order h k (u ∷ ts) i b =
      cond_cases (λ (r : Refusal). Known ns r.number) (begins u b) _ _ (λ e. stamps_in_order h k ts (suc i) (drop (length u) b)) (λ e. h)

  pub list_known :
      Known ns 3 × Known ns 4 × Known ns 8 × Known ns 9 → (t : Terms) (list : List ℕ) (w : Work) (more : List (List ℕ))
      → Known ns (list_checks t list (nine t (how_many list) w more))
  list_known h t list w more =
      first_known (wrong_version t) 3 _ h.0
      (first_known (wrong_count t.processes) 4 _ h.1
      (first_known (wrong_list list) 8 _ h.2 (nine_known t (how_many list) w more h.3)))

  pub header_known :
      Known ns 1 × Known ns 2 × Known ns 3 × Known ns 4 × Known ns 5 × Known ns 6 × Known ns 7 → (b : List ℕ) (k : ℕ) → Known ns k
      → Known ns (header_checks b k)
  unfolding header_checks
  header_known h b k i =
      first_known (ltb (length b) 24 || ltb 40960 (length b)) 1 _ h.0
      (first_known (not (eqb (byte b 0) 67) || not (eqb (byte b 1) 75) || not (eqb (byte b 2) 84)) 2 _ h.1
      (first_known (wrong_version (terms_in b)) 3 _ h.2
      (first_known (wrong_count (processes_in b)) 4 _ h.3
      (first_known (not (eqb (byte b 6) 0) || not (eqb (byte b 7) 0)) 5 _ h.4
      (first_known (outside (length b) (list_offset b) (list_size b) || not (eqb (list_size b % 8) 0) || ltb 4096 (list_size b)) 6 _ h.5
      (first_known (outside (length b) (stamps_offset b) (stamps_size b) || shared (list_offset b) (list_size b) (stamps_offset b) (stamps_size b)) 7 k
      h.6 i))))))

  -- The checks of a call on a list and on a sheet, and one more check behind them.
  pub checks_known : (c : Checks) → Known ns c.early → Known ns c.late.number → Known ns (refusal_of c).number
  checks_known c h i = then_known (of_call c.early) c.late h i

  also_known : (c : Checks) (k : ℕ) → Known ns c.late.number → Known ns k → Known ns (c also of_call k).late.number
  also_known c k h i = then_known c.late (of_call k) h i

abbrev Offered : List ℕ → Type 0
Offered ns = Known ns 10 × Known ns 11 × Known ns 12 × Known ns 13 × Known ns 14 × Known ns 15 × Known ns 16

-- What a call on a sheet starts with.
pub record SheetKnown (ns : List ℕ) : Type 0 where
  pub header : Known ns 1 × Known ns 2 × Known ns 3 × Known ns 4 × Known ns 5 × Known ns 6 × Known ns 7
  pub room : Known ns 9
  pub offered : Offered ns
  pub stamps : Known ns 18 × Known ns 19

pub record ListKnown (ns : List ℕ) : Type 0 where
  pub list : Known ns 3 × Known ns 4 × Known ns 8 × Known ns 9
  pub offered : Offered ns

module _ (ns : List ℕ) where
  pub early_sheet : SheetKnown ns → (b : List ℕ) (w : Work) (more : List (List ℕ)) → Known ns (reading_checks b w more).early
  early_sheet h b w more = header_known ns h.header b _ (nine_known ns (terms_in b) (how_many (list_in b)) w more h.room)

  pub late_sheet : SheetKnown ns → (b : List ℕ) (w : Work) (more : List (List ℕ)) → Known ns (reading_checks b w more).late.number
  late_sheet h b w more =
      let t = terms_in b in
      let list = list_in b in
      then_known ns (first_refused 0 (answers_of t list)) (stamps_refused 0 (pieces (accepted_of t list)) (stamps_in b))
      (strict_in ns h.offered t list) (stamps_in_order ns h.stamps.0 h.stamps.1 (pieces (accepted_of t list)) 0 (stamps_in b))

  module _ {A : Type 0} (a : A) where
    on_sheet : SheetKnown ns → (b : List ℕ) (w : Work) (more : List (List ℕ)) → Among ns (outcome (refusal_of (reading_checks b w more)) a)
    on_sheet h b w more = among ns (refusal_of (reading_checks b w more)) a (checks_known ns _ (early_sheet h b w more) (late_sheet h b w more))

    on_list : ListKnown ns → (t : Terms) (list : List ℕ) (w : Work) (more : List (List ℕ)) → Among ns (outcome (refusal_of (strict_checks t list w more)) a)
    on_list h t list w more =
        among ns (refusal_of (strict_checks t list w more)) a (checks_known ns _ (list_known ns h.list t list w more) (strict_in ns h.offered t list))

    -- With one more check, or a second one behind it.
    sheet_also :
        SheetKnown ns → (b : List ℕ) (w : Work) (k : ℕ) → Known ns k → Among ns (outcome (refusal_of (reading_checks b w [] also of_call k)) a)
    sheet_also h b w k i =
        let c = reading_checks b w [] in
        among ns (refusal_of (c also of_call k)) a (checks_known ns _ (early_sheet h b w []) (also_known ns c k (late_sheet h b w []) i))

    list_also :
        ListKnown ns → (t : Terms) (list : List ℕ) (w : Work) (k : ℕ) → Known ns k
        → Among ns (outcome (refusal_of (strict_checks t list w [] also of_call k)) a)
    list_also h t list w k i =
        let c = strict_checks t list w [] in
        among ns (refusal_of (c also of_call k)) a
        (checks_known ns _ (list_known ns h.list t list w []) (also_known ns c k (strict_in ns h.offered t list) i))

    sheet_twice :
        SheetKnown ns → (b : List ℕ) (w : Work) (k l : ℕ) → Known ns k → Known ns l
        → Among ns (outcome (refusal_of (reading_checks b w [] also of_call k also of_call l)) a)
    sheet_twice h b w k l i j =
        let c = reading_checks b w [] in
        let d = c also of_call k in
        among ns (refusal_of (d also of_call l)) a
        (checks_known ns _ (early_sheet h b w []) (also_known ns d l (also_known ns c k (late_sheet h b w []) i) j))

    list_twice :
        ListKnown ns → (t : Terms) (list : List ℕ) (w : Work) (k l : ℕ) → Known ns k → Known ns l
        → Among ns (outcome (refusal_of (strict_checks t list w [] also of_call k also of_call l)) a)
    list_twice h t list w k l i j =
        let c = strict_checks t list w [] in
        let d = c also of_call k in
        among ns (refusal_of (d also of_call l)) a
        (checks_known ns _ (list_known ns h.list t list w []) (also_known ns d l (also_known ns c k (strict_in ns h.offered t list) i) j))

-- The numbers of a sheet and of a list, with further ones behind.
pub sheet_numbers : (more : List ℕ) → SheetKnown (of_sheet ++ more)
unfolding member
sheet_numbers more =
    record {
      header = (refl, refl, refl, refl, refl, refl, refl);
      room = refl;
      offered = (refl, refl, refl, refl, refl, refl, refl);
      stamps = (refl, refl);
    }

pub list_numbers : (more : List ℕ) → ListKnown (of_list ++ more)
unfolding member
list_numbers more = record { list = (refl, refl, refl, refl); offered = (refl, refl, refl, refl, refl, refl, refl) }

pub numbers_given : NumbersGiven
unfolding member class class_lamport strict strict_lamport writing comparing chaining reading reading_lamport comparing_sheet chaining_sheet marking tallying savings storing ordering
numbers_given =
    record {
      classed = λ t list w answered.
          let ns : List ℕ = 3 ∷ 4 ∷ 8 ∷ 9 ∷ [] in
          let c = class_checks t list w (answered ∷ []) in
          among ns (refusal_of c) _ (checks_known ns c (list_known ns (refl, refl, refl, refl) t list w (answered ∷ [])) refl);
      classed_lamport = λ t list w answered numbers.
          let ns : List ℕ = 3 ∷ 4 ∷ 8 ∷ 9 ∷ [] in
          let c = class_checks t list w (answered ∷ numbers ∷ []) in
          among ns (refusal_of c) _ (checks_known ns c (list_known ns (refl, refl, refl, refl) t list w (answered ∷ numbers ∷ [])) refl);
      judged = λ t list w. on_list of_list _ (list_numbers []) t list w [];
      judged_lamport = λ t list w numbers. on_list of_list _ (list_numbers []) t list w (numbers ∷ []);
      written = λ t list w out.
          let ns : List ℕ = of_list ++ (21 ∷ []) in
          list_also ns _ (list_numbers (21 ∷ [])) t list w _ (first_known ns (ltb (length out) (length (written t list))) 21 0 refl refl);
      compared = λ t list w a b.
          let ns : List ℕ = of_list ++ (20 ∷ []) in
          list_also ns _ (list_numbers (20 ∷ [])) t list w _
          (first_known ns (not (ltb a (how_many list)) || not (ltb b (how_many list))) 20 0 refl refl);
      chained = λ t list w a b out.
          let ns : List ℕ = of_list ++ (20 ∷ 21 ∷ 22 ∷ []) in
          list_twice ns _ (list_numbers (20 ∷ 21 ∷ 22 ∷ [])) t list w _ _
          (first_known ns (not (ltb a (how_many list)) || not (ltb b (how_many list))) 20 0 refl refl)
          (first_known ns (not (eqb (judged t.processes (accepted_of t list) a b) 1)) 22 _ refl
          (first_known ns (ltb (length out) (chain_slots t.processes)) 21 0 refl refl));
      read = λ b w. on_sheet of_sheet _ (sheet_numbers []) b w [];
      read_lamport = λ b w numbers. on_sheet of_sheet _ (sheet_numbers []) b w (numbers ∷ []);
      compared_sheet = λ b w i j.
          let ns : List ℕ = of_sheet ++ (20 ∷ []) in
          sheet_also ns _ (sheet_numbers (20 ∷ [])) b w _
          (first_known ns (not (ltb i (how_many (list_in b))) || not (ltb j (how_many (list_in b)))) 20 0 refl refl);
      chained_sheet = λ b w i j out.
          let ns : List ℕ = of_sheet ++ (20 ∷ 21 ∷ 22 ∷ []) in
          let t = terms_in b in
          let list = list_in b in
          sheet_twice ns _ (sheet_numbers (20 ∷ 21 ∷ 22 ∷ [])) b w _ _
          (first_known ns (not (ltb i (how_many list)) || not (ltb j (how_many list))) 20 0 refl refl)
          (first_known ns (not (eqb (judged t.processes (accepted_of t list) i j) 1)) 22 _ refl
          (first_known ns (ltb (length out) (chain_slots t.processes)) 21 0 refl refl));
      marked = λ b lines w out.
          let ns : List ℕ = of_sheet ++ (21 ∷ 30 ∷ []) in
          let h = sheet_numbers (21 ∷ 30 ∷ []) in
          let c = reading_checks b w [] in
          let k = first (ltb (length out) (line_count lines)) 21 0 in
          let d : Checks = record { early = first (wrong_lines lines) 30 c.early; late = c.late } in
          among ns (refusal_of (d also of_call k)) _
          (checks_known ns (d also of_call k) (first_known ns (wrong_lines lines) 30 _ refl (early_sheet ns h b w []))
          (also_known ns d k (late_sheet ns h b w []) (first_known ns (ltb (length out) (line_count lines)) 21 0 refl refl)));
      tallied = λ b w. on_sheet of_sheet _ (sheet_numbers []) b w [];
      saved = λ b w. on_sheet of_sheet _ (sheet_numbers []) b w [];
      stored = λ b w out.
          let ns : List ℕ = of_sheet ++ (21 ∷ []) in
          sheet_also ns _ (sheet_numbers (21 ∷ [])) b w _ (first_known ns (ltb (length out) 1) 21 0 refl refl);
      ordered = λ v w.
          let ns : List ℕ = 4 ∷ [] in
          let wrong = wrong_count (length v) || wrong_count (length w) || not (eqb (length v) (length w)) in
          among ns (of_call (first wrong 4 0)) (verdict (length v) v w) (first_known ns wrong 4 0 refl refl);
    }

-- 17 is in none of these lists.
module _ (ns : List ℕ) (absent : member 17 ns ≡ false) where
  not_17 : {A : Type 0} (o : Outcome A) → Among ns o → (r : Refusal) → o ≡ refused r → r.number ≢ 17
  not_17 o h r e q = false≢true (sym absent ∙ ap (λ x. member x ns) (sym q) ∙ h r e)

pub no_17 : Never 17
unfolding member
no_17 =
    record {
      classed = λ t list w answered. not_17 (3 ∷ 4 ∷ 8 ∷ 9 ∷ []) refl _ (numbers_given.classed t list w answered);
      classed_lamport = λ t list w answered numbers. not_17 (3 ∷ 4 ∷ 8 ∷ 9 ∷ []) refl _ (numbers_given.classed_lamport t list w answered numbers);
      judged = λ t list w. not_17 of_list refl _ (numbers_given.judged t list w);
      judged_lamport = λ t list w numbers. not_17 of_list refl _ (numbers_given.judged_lamport t list w numbers);
      written = λ t list w out. not_17 (of_list ++ (21 ∷ [])) refl _ (numbers_given.written t list w out);
      compared = λ t list w a b. not_17 (of_list ++ (20 ∷ [])) refl _ (numbers_given.compared t list w a b);
      chained = λ t list w a b out. not_17 (of_list ++ (20 ∷ 21 ∷ 22 ∷ [])) refl _ (numbers_given.chained t list w a b out);
      read = λ b w. not_17 of_sheet refl _ (numbers_given.read b w);
      read_lamport = λ b w numbers. not_17 of_sheet refl _ (numbers_given.read_lamport b w numbers);
      compared_sheet = λ b w i j. not_17 (of_sheet ++ (20 ∷ [])) refl _ (numbers_given.compared_sheet b w i j);
      chained_sheet = λ b w i j out. not_17 (of_sheet ++ (20 ∷ 21 ∷ 22 ∷ [])) refl _ (numbers_given.chained_sheet b w i j out);
      marked = λ b lines w out. not_17 (of_sheet ++ (21 ∷ 30 ∷ [])) refl _ (numbers_given.marked b lines w out);
      tallied = λ b w. not_17 of_sheet refl _ (numbers_given.tallied b w);
      saved = λ b w. not_17 of_sheet refl _ (numbers_given.saved b w);
      stored = λ b w out. not_17 (of_sheet ++ (21 ∷ [])) refl _ (numbers_given.stored b w out);
      ordered = λ v w. not_17 (4 ∷ []) refl _ (numbers_given.ordered v w);
    }
