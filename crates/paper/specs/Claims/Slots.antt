-- What every lent slot holds after a call (the paper, "Refusal numbers", last paragraph; theorem `lent_slots`): its content, 0, or what it held.
use Rattle.std.specs.Prelude.{ℕ, ◌*◌, ◌≤◌, ◌<◌, ◌≡◌, ◌≢◌, List, [], ◌∷◌, Float, length, get_or}
use Rattle.paper.specs.Buffers.{Work, clock_slots, mask_slots, value_slots}
use Rattle.paper.specs.Chain.{chain}
use Rattle.paper.specs.Class.{class_checks, class, class_lamport}
use Rattle.paper.specs.Event.{how_many}
use Rattle.paper.specs.Lamport.{lamports}
use Rattle.paper.specs.Machine.{answers_of, accepted_of}
use Rattle.paper.specs.Marking.{marks, marking_checks, marking}
use Rattle.paper.specs.Questions.{strict_checks, strict, strict_lamport, writing_checks, writing, asked, comparing, chained, chaining, comparing_sheet, chaining_sheet}
use Rattle.paper.specs.Reading.{reading_checks, reading, reading_lamport}
use Rattle.paper.specs.Refusals.{Checks, refusal_of}
use Rattle.paper.specs.Savings.{counts_in, saving, tallying, savings, stored, storing_checks, storing}
use Rattle.paper.specs.Sheet.{processes_in, terms_in, list_in, written}
use Rattle.paper.specs.Stamp.{stamps}
use Rattle.paper.specs.Terms.{Terms}

-- Slot by slot, of `named` named ones: xs, then 0 in the named slots not used, then what was there.
pub record SlotBySlot (named : ℕ) (xs old new : List ℕ) : Type 0 where
  pub content : (k : ℕ) → k < length xs → get_or new k 0 ≡ get_or xs k 0
  pub unused : (k : ℕ) → length xs ≤ k → k < named → get_or new k 0 ≡ 0
  pub beyond : (k : ℕ) → named ≤ k → get_or new k 0 ≡ get_or old k 0

-- A work buffer after a call with the checks c: up to and including check 9 a refusal writes nothing; a later one sets the named slots to 0.
pub record Slots (c : Checks) (named : ℕ) (xs old new : List ℕ) : Type 0 where
  pub untouched : c.early ≢ 0 → new ≡ old
  pub cleared : c.early ≡ 0 → c.late.number ≢ 0 → SlotBySlot named [] old new
  pub filled : c.early ≡ 0 → c.late.number ≡ 0 → SlotBySlot named xs old new

-- An output: a refusal leaves it untouched, as is output beyond what is written.
pub record Output (c : Checks) (xs old new : List ℕ) : Type 0 where
  pub untouched : (refusal_of c).number ≢ 0 → new ≡ old
  pub filled : (refusal_of c).number ≡ 0 → SlotBySlot (length xs) xs old new

-- The three work buffers: on success the clocks of accepted events, their masks, and the carried values.
pub record WorkSlots (c : Checks) (t : Terms) (list : List ℕ) (old new : Work) : Type 0 where
  pub clocks : Slots c (t.processes * how_many list) (clock_slots t.processes (accepted_of t list)) old.clocks new.clocks
  pub masks : Slots c (how_many list) (mask_slots (stamps (accepted_of t list))) old.masks new.masks
  pub values : Slots c (t.processes * how_many list) (value_slots (stamps (accepted_of t list))) old.values new.values

-- The percentage stands in the first slot, and no other slot is touched; nor is any where there is none, or a refusal.
pub record Figure (b : List ℕ) (c : Checks) (old new : List Float) : Type 0 where
  pub untouched : (refusal_of c).number ≢ 0 → new ≡ old
  pub filled : (refusal_of c).number ≡ 0 → new ≡ stored (saving (counts_in b)) old

-- Of every call that is lent slots.
pub record LentSlots : Type 0 where
  pub classed :
      (t : Terms) (list : List ℕ) (w : Work) (answered : List ℕ)
      → let c = class_checks t list w (answered ∷ []) in
      WorkSlots c t list w (class t list w answered).0.1 × Slots c (how_many list) (answers_of t list) answered (class t list w answered).1
  pub classed_lamport :
      (t : Terms) (list : List ℕ) (w : Work) (answered numbers : List ℕ)
      → let c = class_checks t list w (answered ∷ numbers ∷ []) in
      WorkSlots c t list w (class_lamport t list w answered numbers).0.1
      × Slots c (how_many list) (answers_of t list) answered (class_lamport t list w answered numbers).1
      × Slots c (how_many list) (lamports (accepted_of t list)) numbers (class_lamport t list w answered numbers).2
  pub judged : (t : Terms) (list : List ℕ) (w : Work) → WorkSlots (strict_checks t list w []) t list w (strict t list w).1
  pub judged_lamport :
      (t : Terms) (list : List ℕ) (w : Work) (numbers : List ℕ)
      → let c = strict_checks t list w (numbers ∷ []) in
      WorkSlots c t list w (strict_lamport t list w numbers).0.1
      × Slots c (how_many list) (lamports (accepted_of t list)) numbers (strict_lamport t list w numbers).1
  pub written_out :
      (t : Terms) (list : List ℕ) (w : Work) (out : List ℕ)
      → let c = writing_checks t list w out in
      WorkSlots c t list w (writing t list w out).0.1 × Output c (written t list) out (writing t list w out).1
  pub compared :
      (t : Terms) (list : List ℕ) (w : Work) (a b : ℕ)
      → WorkSlots (asked (strict_checks t list w []) list a b) t list w (comparing t list w a b).1
  pub linked :
      (t : Terms) (list : List ℕ) (w : Work) (a b : ℕ) (out : List ℕ)
      → let c = chained (strict_checks t list w []) t list a b out in
      WorkSlots c t list w (chaining t list w a b out).0.1 × Output c (chain (accepted_of t list) a b) out (chaining t list w a b out).1
  pub read : (b : List ℕ) (w : Work) → WorkSlots (reading_checks b w []) (terms_in b) (list_in b) w (reading b w).1
  pub read_lamport :
      (b : List ℕ) (w : Work) (numbers : List ℕ)
      → let c = reading_checks b w (numbers ∷ []) in
      WorkSlots c (terms_in b) (list_in b) w (reading_lamport b w numbers).0.1
      × Slots c (how_many (list_in b)) (lamports (accepted_of (terms_in b) (list_in b))) numbers (reading_lamport b w numbers).1
  pub compared_sheet :
      (b : List ℕ) (w : Work) (i j : ℕ)
      → WorkSlots (asked (reading_checks b w []) (list_in b) i j) (terms_in b) (list_in b) w (comparing_sheet b w i j).1
  pub linked_sheet :
      (b : List ℕ) (w : Work) (i j : ℕ) (out : List ℕ)
      → let c = chained (reading_checks b w []) (terms_in b) (list_in b) i j out in
      WorkSlots c (terms_in b) (list_in b) w (chaining_sheet b w i j out).0.1
      × Output c (chain (accepted_of (terms_in b) (list_in b)) i j) out (chaining_sheet b w i j out).1
  pub marked :
      (b lines : List ℕ) (w : Work) (out : List ℕ)
      → let c = marking_checks b lines w out in
      WorkSlots c (terms_in b) (list_in b) w (marking b lines w out).0.1
      × Output c (marks (processes_in b) (accepted_of (terms_in b) (list_in b)) lines) out (marking b lines w out).1
  pub tallied : (b : List ℕ) (w : Work) → WorkSlots (reading_checks b w []) (terms_in b) (list_in b) w (tallying b w).1
  pub saved : (b : List ℕ) (w : Work) → WorkSlots (reading_checks b w []) (terms_in b) (list_in b) w (savings b w).1
  pub stored_in :
      (b : List ℕ) (w : Work) (out : List Float)
      → let c = storing_checks b w out in
      WorkSlots c (terms_in b) (list_in b) w (storing b w out).0.1 × Figure b c out (storing b w out).1
