-- The texts over lent slots say what the paper says of the list, where the slots hold its accepted events: the listing's text is the
-- paper's listing, with Lamport numbers or without, the class text has the line of the right event for every offer, and the chain's text is the chain.
use Prim.Native.Nat.{ℕ, zero, suc, ◌+◌, ◌-◌, ◌≤◌, ◌<◌}
use mathlib.Core.Path.{◌≡◌, refl, sym, ap, ◌∙◌}
use mathlib.Core.Bool.{Bool, true, false, cond}
use mathlib.Core.List.{List, [], ◌∷◌, ◌++◌, append-nil, append_assoc}
use native.Mathlib.Nat.{zero-add, add_assoc}
use native.Mathlib.Numerals.{one-add}
use native.Mathlib.Omega.{arith}
use borrow.Author.Tests.{eq-eqb, eqb-true, le-leb}
use lib.Dec.{eqb}
use lib.ListN.{length, get_or, take, drop, replicate, length-replicate, length-append}
use lib.Seq.{take-append_seam, length-take-le, drop-cons, drop-length}
use Rattle.std.proofs.lemmas.List.{get_or-take}
use Rattle.paper.specs.Buffers.{Work, laid, entries}
use Rattle.paper.specs.Bytes.{byte}
use Rattle.paper.specs.Event.{Event, how_many, events_of}
use Rattle.paper.specs.Lamport.{no_scalars, lamports}
use Rattle.paper.specs.Listing.{word, event_words, event_line, event_lines, lamport_line, lamport_lines, head_line, listing, lamport_listing}
use Rattle.paper.specs.Machine.{State, Clocked, start, answer, offered, answers, clocked, answers_of, accepted_of}
use Rattle.paper.specs.Order.{event_of, nothing}
use Rattle.paper.specs.Stamp.{Stamp, no_stamp, never_sent, stamps}
use Rattle.paper.specs.Stands.{Held, Stands}
use Rattle.paper.specs.Terms.{Terms}
use Rattle.paper.proofs.LamportBelow.Lists.{length_lamports}
use Rattle.paper.proofs.Laws.Append.{length_answers}
use Rattle.paper.proofs.Laws.Runs.{length_events}
use Rattle.paper.proofs.Laws.Slots.{length_stamps}
use Rattle.paper.proofs.Stands.{laid_there, events_at, small, still, row_there, mask_there, all, event_there}
use Rattle.lines.specs.Programs.{chain_line, chain_text, accepted_before, refused_line, offer_line, class_text, class_line, class_head, class_listing}
use Rattle.lines.specs.Slots.{slot_words, last_field, slot_line, numbered_text, listing_text, listing_lamport_text}
use Rattle.lines.specs.Text.{each}
use Rattle.lines.proofs.Slots.{number_there, number_none, Fitting, fitted}

pub each_same : (f g : ℕ → List ℕ) (k : ℕ) → ((i : ℕ) → i < k → f i ≡ g i) → each f k ≡ each g k
unfolding each
each_same f g zero h = refl
each_same f g (suc k) h = rw (each_same f g k (λ i l. h i (omega arith)), h k (omega arith))

-- How many are accepted hangs on the answers before, and can be counted from the front.
accepted_same : (rs qs : List ℕ) (i : ℕ) → ((k : ℕ) → k < i → byte rs k ≡ byte qs k) → accepted_before rs i ≡ accepted_before qs i
unfolding accepted_before
accepted_same rs qs zero h = refl
accepted_same rs qs (suc i) h = rw (accepted_same rs qs i (λ k l. h k (omega arith)), h i (omega arith))

-- The lines of the first k offers are the first k lines.
pub first_offers :
    (n : ℕ) (list rs clocks masks : List ℕ) (k : ℕ) → k ≤ length rs
    → each (offer_line n list (take k rs) clocks masks) (length (take k rs)) ≡ each (offer_line n list rs clocks masks) k
unfolding offer_line
first_offers n list rs clocks masks k h =
    rw (length-take-le k rs h) (each_same _ _ k same)
  where
    here : (i : ℕ) → i < k → byte (take k rs) i ≡ byte rs i
    here i l = get_or-take k rs i 0 l

    same : (i : ℕ) → i < k → offer_line n list (take k rs) clocks masks i ≡ offer_line n list rs clocks masks i
    same i l = rw (here i l, accepted_same (take k rs) rs i (λ j m. here j (omega arith)))

accepted_cons : (r : ℕ) (rs : List ℕ) (i : ℕ) → accepted_before (r ∷ rs) (suc i) ≡ cond (eqb r 0) 1 0 + accepted_before rs i
unfolding accepted_before
accepted_cons r rs zero = omega arith
accepted_cons r rs (suc i) = rw (accepted_cons r rs i) (add_assoc _ _ _)

-- The event e is accepted, as number a.
record Found (cs : List Clocked) (a : ℕ) (e : Event) : Type 0 where
  there : a < length cs
  same : event_of cs a ≡ e

-- An offer whose answer is 0 is found behind those accepted before it.
found :
    (t : Terms) (es : List Event) (s : State) (i : ℕ) → i < length es → byte (answers t s es) i ≡ 0
    → Found (clocked t s es) (accepted_before (answers t s es) i) (get_or es i nothing.event)
unfolding answers clocked accepted_before
found t [] s i h z = absurd (omega arith)
found t (e ∷ es) s zero h z = rw (eq-eqb (answer t s e) 0 z) (record { there = omega arith; same = refl })
found t (e ∷ es) s (suc i) h z =
    let r = answer t s e in
    let rs = answers t (offered t s e) es in
    rw (accepted_cons r rs i) (behind (eqb r 0) _ (found t es (offered t s e) i (omega arith) z))
  where
    behind : (b : Bool) (x : Clocked) {cs : List Clocked} {a : ℕ} {d : Event} → Found cs a d → Found (cond b (x ∷ cs) cs) (cond b 1 0 + a) d
    behind true x {cs} {a} f = rw (one-add a) (record { there = omega (arith, f.there); same = f.same })
    behind false x {cs} {a} f = rw (zero-add a) f

same_words :
    (n i : ℕ) (c d : Clocked) (t u : Stamp) → c.event ≡ d.event → take n c.clock ≡ take n d.clock → t.mask ≡ u.mask
    → event_words n i c t ≡ event_words n i d u
unfolding event_words
same_words n i c d t u e v m = rw (e, v, m)

-- The last field is none where no numbers are lent.
no_number : (a : ℕ) → last_field [] a ≡ []
no_number a = sym (number_none [] a (omega arith))

-- Lines one by one, where `rest i` are those from i on.
module _ (f rest : ℕ → List ℕ) where
  lines_from : (k : ℕ) → ((i : ℕ) → i < k → rest i ≡ f i ++ rest (suc i)) → rest 0 ≡ each f k ++ rest k
  unfolding each
  lines_from zero h = refl
  lines_from (suc k) h =
      lines_from k (λ i l. h i (omega arith)) ∙ ap (λ (l : List ℕ). each f k ++ l) (h k (omega arith)) ∙ sym (append_assoc (each f k) (f k) (rest (suc k)))

  lines_each : (k : ℕ) → ((i : ℕ) → i < k → rest i ≡ f i ++ rest (suc i)) → rest k ≡ [] → each f k ≡ rest 0
  lines_each k h e = sym (lines_from k h ∙ ap (λ (l : List ℕ). each f k ++ l) e ∙ append-nil (each f k))

-- As many named slots as are laid are there.
pub laid_enough : (named : ℕ) (xs old : List ℕ) → named ≤ length (laid named xs old)
unfolding laid
laid_enough named xs old =
    omega (
      arith,
      length-append (xs ++ replicate (named - length xs) 0) (drop named old),
      length-append xs (replicate (named - length xs) 0),
      length-replicate {A = ℕ} (named - length xs) 0,
    )

module _ {t : Terms} {list : List ℕ} {w w' : Work} (h : Held t list w w') where
  abbrev n : ℕ
  n = t.processes

  abbrev m : ℕ
  m = how_many list

  abbrev cs : List Clocked
  cs = accepted_of t list

  abbrev rs : List ℕ
  rs = answers_of t list

  slots_fit : Fitting n list w'.clocks w'.masks
  slots_fit =
      let (k, few, size) = h.listed.whole_records in
      record { few = small h; short = omega arith; clocked = (still h).clocks; masked = (still h).masks }

  -- The words over the slots of the event accepted as number a.
  words_there :
      (i a : ℕ) → a < length cs → event_of cs a ≡ get_or (events_of list) i nothing.event → i < m
      → event_words n i (get_or cs a nothing) (get_or (stamps cs) a no_stamp) ≡ slot_words n list w'.clocks w'.masks i a
  unfolding slot_words
  words_there i a l e inside =
      same_words n i _ _ _ _ (e ∙ events_at m list i inside) (sym (row_there h a l)) (sym (mask_there h a l))

  -- The line over the slots of an accepted offer.
  line_there : (i : ℕ) → i < m → byte rs i ≡ 0 → let a = accepted_before rs i in
      event_line n i (get_or cs a nothing) (get_or (stamps cs) a no_stamp) ≡ slot_line n list w'.clocks w'.masks [] i a
  unfolding event_line slot_line
  line_there i inside z =
      let f = found t (events_of list) (start t) i (omega (arith, length_events m list)) z in
      rw (words_there i (accepted_before rs i) f.there f.same inside, no_number (accepted_before rs i), append-nil)

  -- Where the answers too stand in lent slots.
  module _ (old : List ℕ) where
    abbrev lent : List ℕ
    lent = laid m rs old

    many_answers : length rs ≡ m
    many_answers = length_answers t (events_of list) (start t) ∙ length_events m list

    offer_there : (i : ℕ) → i < m → offer_line n list lent w'.clocks w'.masks i ≡ class_line n rs cs (stamps cs) i
    unfolding offer_line class_line
    offer_there i inside =
        let same : (k : ℕ) → k < m → byte lent k ≡ byte rs k = λ k l. laid_there m rs old k (omega (arith, many_answers)) in
        rw (same i inside, accepted_same lent rs i (λ k l. same k (omega arith))) (go (eqb (byte rs i) 0) refl)
      where
        go : (b : Bool) → eqb (byte rs i) 0 ≡ b → let a = accepted_before rs i in
            cond b (slot_line n list w'.clocks w'.masks [] i a) (refused_line i (byte rs i))
            ≡ cond b (event_line n i (get_or cs a nothing) (get_or (stamps cs) a no_stamp)) (refused_line i (byte rs i))
        go true e = sym (line_there i inside (eqb-true (byte rs i) 0 e))
        go false e = refl

    pub class_after : class_text n list lent w'.clocks w'.masks (length cs) (entries cs) ≡ class_listing t list
    unfolding class_text class_listing
    class_after =
        simp (fitted slots_fit, le-leb _ _ (laid_enough m rs old))
        (ap (λ (l : List ℕ). class_head m n (length cs) (entries cs) ++ l)
        (each_same (offer_line n list lent w'.clocks w'.masks) (class_line n rs cs (stamps cs)) m offer_there))

-- Where all events are accepted, each stands at its own place.
module _ {t : Terms} {list : List ℕ} {w w' : Work} (s : Stands t list w w') where
  abbrev events : List Clocked
  events = accepted_of t list

  own_words : (i : ℕ) → i < length events → event_words t.processes i (get_or events i nothing) (get_or (stamps events) i no_stamp) ≡ slot_words t.processes list w'.clocks w'.masks i i
  own_words i l =
      let inside : i < how_many list = omega (arith, all s) in
      words_there s.held i i l (event_there s i inside ∙ sym (events_at (how_many list) list i inside)) inside

  -- The lines from i on are those of what is left of the lists.
  module _ (numbers : List ℕ) (rest : ℕ → List ℕ) where
    abbrev line : ℕ → List ℕ
    line i = slot_line t.processes list w'.clocks w'.masks numbers i i

    text_is :
        ((i : ℕ) → i < length events → rest i ≡ line i ++ rest (suc i)) → rest (length events) ≡ []
        → numbered_text t.processes list w'.clocks w'.masks numbers (entries events) ≡ head_line (length events) t.processes (entries events) ++ rest 0
    unfolding numbered_text
    text_is h e =
        rw (fitted (slots_fit s.held))
        (ap (λ (k : ℕ). head_line k t.processes (entries events) ++ each line k) (sym (all s))
        ∙ ap (λ (l : List ℕ). head_line (length events) t.processes (entries events) ++ l) (lines_each line rest (length events) h e))

  left : (i : ℕ) → i < length events → drop i (stamps events) ≡ get_or (stamps events) i no_stamp ∷ drop (suc i) (stamps events)
  left i h = drop-cons (stamps events) i no_stamp (omega (arith, length_stamps events never_sent))

  pub listing_after : listing_text t.processes list w'.clocks w'.masks (entries events) ≡ listing t list
  unfolding listing event_lines event_line slot_line
  listing_after =
      text_is [] (λ i. event_lines t.processes i (drop i events) (drop i (stamps events)))
      (λ i h. rw (drop-cons events i nothing h, left i h, own_words i h, no_number i, append-nil))
      (rw (drop-length events))

  pub lamport_after :
      (old : List ℕ) → let numbers = laid (how_many list) (lamports events) old in
      listing_lamport_text t.processes list w'.clocks w'.masks numbers (entries events) ≡ lamport_listing t list
  unfolding listing_lamport_text lamport_listing lamport_lines lamport_line slot_line
  lamport_after old =
      let numbers = laid (how_many list) (lamports events) old in
      let many : length (lamports events) ≡ length events = length_lamports events no_scalars in
      let enough : how_many list ≤ length numbers = laid_enough (how_many list) (lamports events) old in
      let own : (i : ℕ) → i < length events → last_field numbers i ≡ word (get_or (lamports events) i 0) =
      λ i h. sym (number_there numbers i (omega (arith, all s)) (sym (laid_there (how_many list) (lamports events) old i (omega (arith, many))))) in
      rw (le-leb _ _ enough)
      (text_is numbers (λ i. lamport_lines t.processes i (drop i events) (drop i (stamps events)) (drop i (lamports events)))
      (λ i h. rw (drop-cons events i nothing h, left i h, drop-cons (lamports events) i 0 (omega (arith, many)), own_words i h, own i h))
      (rw (drop-length events)))

pub chain_after : (xs old : List ℕ) → length xs ≤ 512 → chain_text (laid (length xs) xs old) (length xs) ≡ chain_line xs
unfolding chain_text laid
chain_after xs old h =
    simp (le-leb _ _ h, le-leb _ _ (laid_enough (length xs) xs old))
    (ap chain_line (ap (take (length xs)) (append_assoc xs _ _) ∙ take-append_seam xs _))
