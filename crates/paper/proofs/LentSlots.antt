-- `lent_slots`: slot by slot, what every lent slice holds after every call. What is laid is read off place by place; that it fits in the named slots
-- is known once the checks up to 9 have passed.
use Prim.Native.Nat.{ℕ, ◌+◌, ◌-◌, ◌*◌, ◌≤◌, ◌<◌}
use native.Mathlib.Decide.{ℕ_discrete}
use native.Mathlib.Nat.{mul-le-mul_left}
use native.Mathlib.Omega.{arith}
use mathlib.Core.Path.{◌≡◌, refl, sym, ap, ◌∙◌}
use mathlib.Core.Logic.{◌≢◌}
use mathlib.Core.List.{List, [], ◌∷◌, ◌++◌, flat_map}
use lib.ListN.{length, get_or, drop, replicate, length-append, length-replicate, length-take, get_or-append, get_or-replicate}
use lib.Seq.{get_or-append-add, get_or-drop}
use Rattle.paper.specs.Buffers.{Work, laid, clock_slots, mask_slots, value_slots, filled, cleared, work_left}
use Rattle.paper.specs.Chain.{chain}
use Rattle.paper.specs.Claims.Slots.{SlotBySlot, Slots, Output, WorkSlots, LentSlots}
use Rattle.paper.specs.Class.{class_checks, class, class_lamport}
use Rattle.paper.specs.Clock.{most_processes, most_events}
use Rattle.paper.specs.Event.{how_many, events_of}
use Rattle.paper.specs.Lamport.{no_scalars, lamports}
use Rattle.paper.specs.Machine.{start, answers_of, accepted_of}
use Rattle.paper.specs.Marking.{wrong_lines, marks, marking_checks, marking}
use Rattle.paper.specs.Questions.{strict_checks, strict, strict_lamport, writing_checks, writing, asked, comparing, chained, chaining, comparing_sheet, chaining_sheet}
use Rattle.paper.specs.Reading.{reading_checks, reading, reading_lamport}
use Rattle.paper.specs.Refusals.{Checks, refusal_of, after}
use Rattle.paper.specs.Savings.{counts_in, saving, tallying, savings, stored, storing_checks, storing}
use Rattle.paper.specs.Sheet.{processes_in, terms_in, list_offset, list_size, list_in, written}
use Rattle.paper.specs.Stamp.{stamps, stamps_after}
use Rattle.paper.specs.Terms.{Terms}
use Rattle.paper.proofs.LamportBelow.Lists.{length_lamports}
use Rattle.paper.proofs.Laws.Append.{length_answers}
use Rattle.paper.proofs.Laws.Refused.{after_early, after_late, after_done}
use Rattle.paper.proofs.Laws.Runs.{clocked_few, length_events}
use Rattle.paper.proofs.Lent.Stamps.{slots_fit}
use Rattle.paper.proofs.ReadExactly.{early_says}
use Rattle.paper.proofs.RoundTrip.{list_early}
use Rattle.paper.proofs.Sheets.Checks.{in_order, placed}

-- The front of two lists, and what stands behind it.
front : (xs ys : List ℕ) (k : ℕ) → k < length xs → get_or (xs ++ ys) k 0 ≡ get_or xs k 0
front xs ys k l = get_or-append xs ys 0 k l

behind : (xs ys : List ℕ) (n k : ℕ) → length xs ≡ n → n ≤ k → get_or (xs ++ ys) k 0 ≡ get_or ys (k - n) 0
behind xs ys n k h l =
    let q : length xs + (k - n) ≡ k = omega arith in
    ap (λ i. get_or (xs ++ ys) i 0) (sym q) ∙ get_or-append-add xs ys (k - n) 0

laid_held : (named : ℕ) (xs old : List ℕ) → length xs ≤ named → SlotBySlot named xs old (laid named xs old)
unfolding laid
laid_held named xs old fits =
    let zeros : List ℕ = replicate (named - length xs) 0 in
    let long : length (xs ++ zeros) ≡ named = omega (arith, length-append xs zeros, length-replicate {A = ℕ} (named - length xs) 0) in
    record {
      content = λ k l. front (xs ++ zeros) (drop named old) k (omega arith) ∙ front xs zeros k l;
      unused = λ k l m.
          front (xs ++ zeros) (drop named old) k (omega arith)
          ∙ behind xs zeros (length xs) k refl l
          ∙ get_or-replicate {A = ℕ} (named - length xs) (k - length xs) 0 0 (omega arith);
      beyond = λ k l.
          let q : named + (k - named) ≡ k = omega arith in
          behind (xs ++ zeros) (drop named old) named k long l ∙ get_or-drop named old (k - named) 0 ∙ ap (λ i. get_or old i 0) q;
    }

-- A part f of a lent thing, of which xs are laid on success and nothing where a check behind 9 refuses.
slots_of :
    {A : Type 0} (f : A → List ℕ) (c : Checks) (named : ℕ) (xs : List ℕ) (left bare old : A) → f left ≡ laid named xs (f old)
    → f bare ≡ laid named [] (f old) → (c.early ≡ 0 → length xs ≤ named) → Slots c named xs (f old) (f (after c left bare old))
slots_of f c named xs left bare old l b fits =
    record {
      untouched = λ h. ap f (after_early c left bare old h);
      cleared = λ h k. rw (after_late c left bare old h k, b) (laid_held named [] (f old) (omega arith));
      filled = λ h k. rw (after_done c left bare old h k, l) (laid_held named xs (f old) (fits h));
    }

further_slots : (c : Checks) (m : ℕ) (xs old : List ℕ) → (c.early ≡ 0 → length xs ≤ m) → Slots c m xs old (after c (laid m xs old) (laid m [] old) old)
further_slots c m xs old fits = slots_of (λ l. l) c m xs (laid m xs old) (laid m [] old) old refl refl fits

-- A refusal by any check leaves as it was what both places leave so.
kept : {A : Type 0} (c : Checks) (left old : A) → (refusal_of c).number ≢ 0 → after c left old old ≡ old
kept c left old h = go (ℕ_discrete c.early 0) (ℕ_discrete c.late.number 0)
  where
    go : Dec (c.early ≡ 0) → Dec (c.late.number ≡ 0) → after c left old old ≡ old
    go (no e) l = after_early c left old old e
    go (yes e) (no l) = after_late c left old old e l
    go (yes e) (yes l) = absurd (h ((placed c).1 (e, l)))

output_slots : (c : Checks) (xs old : List ℕ) → Output c xs old (after c (laid (length xs) xs old) old old)
output_slots c xs old =
    record {
      untouched = kept c (laid (length xs) xs old) old;
      filled = λ h.
          let (e, l) = (placed c).0 h in
          rw (after_done c (laid (length xs) xs old) old old e l) (laid_held (length xs) xs old (omega arith));
    }

-- What the checks up to 9 leave of the sizes.
abbrev Small : Terms → List ℕ → Type 0
Small t list = (t.processes ≤ most_processes) × (how_many list ≤ most_events)

module _ (c : Checks) (t : Terms) (list : List ℕ) (w : Work) (passed : c.early ≡ 0 → Small t list) where
  work_slots : WorkSlots c t list w (work_left c t list w)
  unfolding filled clock_slots value_slots stamps_after flat_map
  work_slots =
      let n = t.processes in
      let m = how_many list in
      let cs = accepted_of t list in
      let left = filled t m cs w in
      let bare = cleared t m w in
      record {
        clocks = slots_of (λ v. v.clocks) c (n * m) (clock_slots n cs) left bare w refl refl (λ e. (room e).0);
        masks = slots_of (λ v. v.masks) c m (mask_slots (stamps cs)) left bare w refl refl (λ e. (room e).1);
        values = slots_of (λ v. v.values) c (n * m) (value_slots (stamps cs)) left bare w refl refl (λ e. (room e).2);
      }
    where
      room :
          c.early ≡ 0
          → (length (clock_slots t.processes (accepted_of t list)) ≤ t.processes * how_many list)
          × (length (mask_slots (stamps (accepted_of t list))) ≤ how_many list)
          × (length (value_slots (stamps (accepted_of t list))) ≤ t.processes * how_many list)
      room e =
          let (small, few) = passed e in
          let os = length_events (how_many list) list in
          let f = slots_fit t small (events_of list) (omega arith) in
          let few_accepted = clocked_few t (events_of list) (start t) in
          let l : t.processes * length (accepted_of t list) ≤ t.processes * how_many list = mul-le-mul_left t.processes (omega arith) in
          (omega (arith, f.clocks), omega (arith, f.masks), omega (arith, f.values))

-- How many answers and Lamport numbers there are.
answers_few : (t : Terms) (list : List ℕ) → length (answers_of t list) ≤ how_many list
answers_few t list = omega (arith, length_answers t (events_of list) (start t), length_events (how_many list) list)

lamports_few : (t : Terms) (list : List ℕ) → length (lamports (accepted_of t list)) ≤ how_many list
lamports_few t list =
    omega (arith, length_lamports (accepted_of t list) no_scalars, clocked_few t (events_of list) (start t), length_events (how_many list) list)

list_small : (t : Terms) (list : List ℕ) (w : Work) (more : List (List ℕ)) → (strict_checks t list w more).early ≡ 0 → Small t list
list_small t list w more h =
    let listed = ((list_early t list w more).0 h).0 in
    let (m, l, e) = listed.whole_records in
    (listed.processes.1, omega arith)

sheet_small : (b : List ℕ) (w : Work) (more : List (List ℕ)) → (reading_checks b w more).early ≡ 0 → Small (terms_in b) (list_in b)
sheet_small b w more h =
    let header = ((early_says b w more).0 h).0 in
    let (m, l, e) = header.whole_records in
    (header.right.processes.1, omega (arith, length-take (list_size b) (drop (list_offset b) b)))

-- 30 comes before the sheet.
lines_first : (b lines : List ℕ) (w : Work) (out : List ℕ) → (marking_checks b lines w out).early ≡ 0 → (reading_checks b w []).early ≡ 0
lines_first b lines w out h = ((in_order (wrong_lines lines) 30 (reading_checks b w []).early (omega arith) (λ e. e, λ e. e) (λ e. e, λ e. e)).0 h).1

pub lent_slots : LentSlots
unfolding class class_lamport strict strict_lamport writing comparing chaining reading reading_lamport comparing_sheet chaining_sheet marking tallying savings storing
lent_slots =
    record {
      classed = λ t list w answered.
          let more = answered ∷ [] in
          let c = class_checks t list w more in (
            work_slots c t list w (list_small t list w more),
            further_slots c (how_many list) (answers_of t list) answered (λ e. answers_few t list),
          );
      classed_lamport = λ t list w answered numbers.
          let more = answered ∷ numbers ∷ [] in
          let c = class_checks t list w more in (
            work_slots c t list w (list_small t list w more),
            further_slots c (how_many list) (answers_of t list) answered (λ e. answers_few t list),
            further_slots c (how_many list) (lamports (accepted_of t list)) numbers (λ e. lamports_few t list),
          );
      judged = λ t list w. work_slots (strict_checks t list w []) t list w (list_small t list w []);
      judged_lamport = λ t list w numbers.
          let more = numbers ∷ [] in
          let c = strict_checks t list w more in (
            work_slots c t list w (list_small t list w more),
            further_slots c (how_many list) (lamports (accepted_of t list)) numbers (λ e. lamports_few t list),
          );
      written_out = λ t list w out.
          let c = writing_checks t list w out in
          (work_slots c t list w (list_small t list w []), output_slots c (written t list) out);
      compared = λ t list w a b. work_slots (asked (strict_checks t list w []) list a b) t list w (list_small t list w []);
      linked = λ t list w a b out.
          let c = chained (strict_checks t list w []) t list a b out in
          (work_slots c t list w (list_small t list w []), output_slots c (chain (accepted_of t list) a b) out);
      read = λ b w. work_slots (reading_checks b w []) (terms_in b) (list_in b) w (sheet_small b w []);
      read_lamport = λ b w numbers.
          let more = numbers ∷ [] in
          let c = reading_checks b w more in (
            work_slots c (terms_in b) (list_in b) w (sheet_small b w more),
            further_slots c (how_many (list_in b)) (lamports (accepted_of (terms_in b) (list_in b))) numbers (λ e. lamports_few (terms_in b) (list_in b)),
          );
      compared_sheet = λ b w i j. work_slots (asked (reading_checks b w []) (list_in b) i j) (terms_in b) (list_in b) w (sheet_small b w []);
      linked_sheet = λ b w i j out.
          let c = chained (reading_checks b w []) (terms_in b) (list_in b) i j out in
          (work_slots c (terms_in b) (list_in b) w (sheet_small b w []), output_slots c (chain (accepted_of (terms_in b) (list_in b)) i j) out);
      marked = λ b lines w out.
          let c = marking_checks b lines w out in (
            work_slots c (terms_in b) (list_in b) w (λ e. sheet_small b w [] (lines_first b lines w out e)),
            output_slots c (marks (processes_in b) (accepted_of (terms_in b) (list_in b)) lines) out,
          );
      tallied = λ b w. work_slots (reading_checks b w []) (terms_in b) (list_in b) w (sheet_small b w []);
      saved = λ b w. work_slots (reading_checks b w []) (terms_in b) (list_in b) w (sheet_small b w []);
      stored_in = λ b w out.
          let c = storing_checks b w out in
          let left = stored (saving (counts_in b)) out in (
            work_slots c (terms_in b) (list_in b) w (sheet_small b w []),
            record {
              untouched = kept c left out;
              filled = λ h. let (e, l) = (placed c).0 h in after_done c left out out e l;
            },
          );
    }
