-- What stands in the slots of a list that passed the checks up to 9: of each accepted event its clock, its mask and its values, each at its place;
-- and where all events are accepted, each event's own bytes.
use Prim.Native.Nat.{ℕ, zero, suc, ◌+◌, ◌-◌, ◌*◌, ◌≤◌, ◌<◌}
use native.Mathlib.Nat.{mul-suc, mul-le-mul_left, eq-or-lt_of_le, le_of_suc-le-suc}
use native.Mathlib.Omega.{arith}
use mathlib.Core.Path.{◌≡◌, refl, sym, ap, ◌∙◌}
use mathlib.Core.Logic.{⊎_elim}
use mathlib.Core.List.{List, [], ◌∷◌, ◌++◌, append_assoc, flat_map, map}
use lib.Count.{ones}
use lib.ListN.{length, get_or, take, drop, replicate, length-append, length-replicate, length-take, length-drop, get_or-append, get_or-map}
use lib.Seq.{take-append-le, drop-append-le, get_or-append-add, take_all, drop_at, get_or_at, get_or-take, get_or-drop, length-take-le, ext_get_or}
use borrow.Author.Tests.{eq-eqb}
use Rattle.paper.specs.Buffers.{Work, laid, clock_slots, mask_slots, value_slots, entries, all_ones, values_begin, filled, cleared, call}
use Rattle.paper.specs.Bytes.{byte}
use Rattle.paper.specs.Class.{class_checks}
use Rattle.paper.specs.Clock.{Clock, part}
use Rattle.paper.specs.Event.{Event, event_at, first_events, how_many, events_of}
use Rattle.paper.specs.Machine.{State, Clocked, start, answer, offered, answers, clocked, accepted_of}
use Rattle.paper.specs.Order.{nothing, event_of, clock_of, within, verdict}
use Rattle.paper.specs.Questions.{strict_checks, judged}
use Rattle.paper.specs.Reading.{reading_checks}
use Rattle.paper.specs.Refusals.{done}
use Rattle.paper.specs.Sheet.{terms_in, list_in}
use Rattle.paper.specs.Stamp.{Stamp, no_stamp, never_sent, stamps, stamps_after}
use Rattle.paper.specs.Stands.{Listed, Room, Held, Stands, row}
use Rattle.paper.specs.Terms.{Terms}
use Rattle.paper.proofs.Also.{call_done}
use Rattle.paper.proofs.ChainRoom.{process_below}
use Rattle.paper.proofs.Laws.Runs.{clocked_few, all_accepted, length_events}
use Rattle.paper.proofs.Laws.Slots.{length_stamps, length_masks, getD_masks}
use Rattle.paper.proofs.Laws.Stores.{length_laid}
use Rattle.paper.proofs.Laws.Verdict.{verdict_within}
use Rattle.paper.proofs.Lent.Stamps.{SlotsFit, slots_fit}
use Rattle.paper.proofs.Ones.{each_stamp, values_stand}
use Rattle.paper.proofs.ReadExactly.{reading_number}
use Rattle.paper.proofs.RoundTrip.{list_early}
use Rattle.paper.proofs.Sheets.Checks.{placed}
use Rattle.paper.proofs.Sheets.Parts.{list_says}
use Rattle.paper.proofs.Sizes.{sized}

-- What was laid in named slots does not matter once they are set to 0.
pub laid_again : (named : ℕ) (xs old : List ℕ) → length xs ≤ named → laid named [] (laid named xs old) ≡ laid named [] old
unfolding laid
laid_again named xs old h =
    let zeros : List ℕ = replicate (named - length xs) 0 in
    let l : length (xs ++ zeros) ≡ named = rw (length-append, length-replicate) (omega arith) in
    ap (λ (r : List ℕ). replicate (named - 0) 0 ++ r) (drop_at (xs ++ zeros) (drop named old) named l)

-- The slot i of what is laid.
pub laid_there : (named : ℕ) (xs old : List ℕ) (i : ℕ) → i < length xs → get_or (laid named xs old) i 0 ≡ get_or xs i 0
unfolding laid
laid_there named xs old i h =
    rw (append_assoc xs (replicate (named - length xs) 0) (drop named old)) (get_or-append xs _ 0 i h)

-- The clock of the event at a begins at n times a.
clocks_there :
    (n : ℕ) (cs : List Clocked) → ((b : ℕ) → b < length cs → n ≤ length (clock_of cs b)) → (a k : ℕ) → a < length cs → k < n
    → (get_or (clock_slots n cs) (n * a + k) 0 ≡ part (clock_of cs a) k) × (n * a + k < length (clock_slots n cs))
unfolding clock_slots flat_map
clocks_there n [] long a k h l = absurd (omega arith)
clocks_there n (c ∷ cs) long zero k h l =
    let t : length (take n c.clock) ≡ n = length-take-le n c.clock (long 0 (omega arith)) in
    let z : n * 0 + k ≡ k = omega arith in (
      rw z (get_or-append (take n c.clock) (clock_slots n cs) 0 k (omega arith) ∙ get_or-take n c.clock k 0 l),
      omega (arith, length-append (take n c.clock) (clock_slots n cs)),
    )
clocks_there n (c ∷ cs) long (suc a) k h l =
    let t : length (take n c.clock) ≡ n = length-take-le n c.clock (long 0 (omega arith)) in
    let (r, m) = clocks_there n cs (λ b q. long (suc b) (omega arith)) a k (omega arith) l in
    let e : n * suc a + k ≡ length (take n c.clock) + (n * a + k) = omega (arith, mul-suc n a) in (
      rw e (get_or-append-add (take n c.clock) (clock_slots n cs) (n * a + k) 0 ∙ r),
      omega (arith, length-append (take n c.clock) (clock_slots n cs), mul-suc n a),
    )

-- A part of a list that is all there is the same part of a longer list.
part_there : (k a : ℕ) (xs ys : List ℕ) → length (take k (drop a xs)) ≡ k → take k (drop a (xs ++ ys)) ≡ take k (drop a xs)
part_there zero a xs ys h = refl
part_there (suc k) a xs ys h =
    let l : a + suc k ≤ length xs = omega (arith, length-take (suc k) (drop a xs), length-drop a xs) in
    rw (drop-append-le a xs ys (omega arith)) (take-append-le (suc k) (drop a xs) ys (omega (arith, length-drop a xs)))

-- As many ones as values.
ones_all :
    (ts : List Stamp) → ((a : ℕ) → ones (get_or ts a no_stamp).mask ≡ length (get_or ts a no_stamp).values)
    → all_ones (mask_slots ts) ≡ length (value_slots ts)
unfolding all_ones value_slots flat_map
ones_all [] h = refl
ones_all (t ∷ ts) h = omega (arith, length-append t.values (value_slots ts), h 0, ones_all ts (λ a. h (suc a)))

within_alike :
    (n : ℕ) (v w x y : Clock) → ((k : ℕ) → k < n → part v k ≡ part x k) → ((k : ℕ) → k < n → part w k ≡ part y k)
    → within n v w ≡ within n x y
unfolding within
within_alike zero v w x y p q = refl
within_alike (suc n) v w x y p q =
    rw (within_alike n v w x y (λ k l. p k (omega arith)) (λ k l. q k (omega arith)), p n (omega arith), q n (omega arith))

-- Where every offer is answered 0, the accepted events are the offers; and the event at each position.
offers_accepted :
    (t : Terms) (es : List Event) (s : State) → answers t s es ≡ replicate (length es) 0 → map (λ c. c.event) (clocked t s es) ≡ es
unfolding answers clocked
offers_accepted t [] s h = refl
offers_accepted t (e ∷ es) s h =
    let z : answer t s e ≡ 0 = cc in
    let r : answers t (offered t s e) es ≡ replicate (length es) 0 = cc in
    rw (eq-eqb (answer t s e) 0 z) (ap (λ (l : List Event). e ∷ l) (offers_accepted t es (offered t s e) r))

pub events_at : (k : ℕ) (list : List ℕ) (i : ℕ) → i < k → get_or (first_events k list) i nothing.event ≡ event_at list (8 * i)
unfolding first_events
events_at zero list i h = absurd (omega arith)
events_at (suc k) list i h =
    ⊎_elim (λ e. rw e (get_or_at (first_events k list) _ [] _ k (length_events k list)))
    (λ l. get_or-append (first_events k list) _ _ i (omega (arith, length_events k list)) ∙ events_at k list i l) (eq-or-lt_of_le (le_of_suc-le-suc h))

module _ {t : Terms} {list : List ℕ} {w w' : Work} (h : Held t list w w') where
  abbrev n : ℕ
  n = t.processes

  abbrev m : ℕ
  m = how_many list

  abbrev cs : List Clocked
  cs = accepted_of t list

  abbrev ts : List Stamp
  ts = stamps cs

  pub small : n ≤ 32
  small = h.listed.processes.1

  pub brief : m ≤ 512
  brief = let (k, few, size) = h.listed.whole_records in omega arith

  pub few : length cs ≤ m
  few = omega (arith, clocked_few t (events_of list) (start t), length_events m list)

  pub fit : SlotsFit n cs
  fit = slots_fit t small (events_of list) (omega (arith, length_events m list, brief))

  -- The named slots are still there.
  pub still : Room n m w'
  unfolding filled
  still =
      let l : n * length cs ≤ n * m = mul-le-mul_left n few in
      record {
        clocks = rw h.is (omega (arith, length_laid (n * m) (clock_slots n cs) w.clocks (omega (arith, fit.clocks)) h.room.clocks, h.room.clocks));
        masks = rw h.is (omega (arith, length_laid m (mask_slots ts) w.masks (omega (arith, fit.masks, few)) h.room.masks, h.room.masks));
        values = rw h.is (omega (arith, length_laid (n * m) (value_slots ts) w.values (omega (arith, fit.values)) h.room.values, h.room.values));
      }

  -- A later refusal sets them to 0, whatever was filled in.
  pub cleared_again : cleared t m w' ≡ cleared t m w
  unfolding filled clock_slots value_slots flat_map stamps_after
  cleared_again =
      let l : n * length cs ≤ n * m = mul-le-mul_left n few in
      let x = laid_again (n * m) (clock_slots n cs) w.clocks (omega (arith, fit.clocks)) in
      let y = laid_again m (mask_slots ts) w.masks (omega (arith, fit.masks, few)) in
      let z = laid_again (n * m) (value_slots ts) w.values (omega (arith, fit.values)) in
      ap (cleared t m) h.is ∙ (λ i. record { clocks = x i; masks = y i; values = z i })

  -- Of the accepted event at a: component k of its clock, and all n of them.
  pub clock_there : (a k : ℕ) → a < length cs → k < n → get_or w'.clocks (n * a + k) 0 ≡ part (clock_of cs a) k
  unfolding filled
  clock_there a k i j =
      let (e, l) = clocks_there n cs (λ b q. omega (arith, ((sized t small (events_of list)).events b q).thirty_two, small)) a k i j in
      rw h.is (laid_there (n * m) (clock_slots n cs) w.clocks (n * a + k) l ∙ e)

  pub row_part : (a k : ℕ) → a < length cs → k < n → part (row n w'.clocks a) k ≡ part (clock_of cs a) k
  row_part a k i j = get_or-take n (drop (n * a) w'.clocks) k 0 j ∙ get_or-drop (n * a) w'.clocks k 0 ∙ clock_there a k i j

  -- The row is all there.
  pub row_long : (a : ℕ) → a < length cs → (n * a + n ≤ length w'.clocks) × (length (row n w'.clocks a) ≡ n)
  row_long a i =
      let l : n * suc a ≤ n * m = mul-le-mul_left n (omega (arith, few)) in
      let r : n * a + n ≤ length w'.clocks = omega (arith, mul-suc n a, still.clocks) in
      (r, length-take-le n (drop (n * a) w'.clocks) (omega (arith, length-drop (n * a) w'.clocks)))

  pub row_there : (a : ℕ) → a < length cs → row n w'.clocks a ≡ take n (clock_of cs a)
  row_there a i =
      let l : length (take n (clock_of cs a)) ≡ n =
      length-take-le n (clock_of cs a) (omega (arith, ((sized t small (events_of list)).events a i).thirty_two, small)) in
      ext_get_or 0 (row n w'.clocks a) (take n (clock_of cs a)) ((row_long a i).1 ∙ sym l)
      (λ k q. let j : k < n = omega (arith, (row_long a i).1) in row_part a k i j ∙ sym (get_or-take n (clock_of cs a) k 0 j))

  -- The verdict on the rows of two accepted events is that on their clocks.
  pub verdict_there :
      (a b : ℕ) → a < length cs → b < length cs → verdict n (row n w'.clocks a) (row n w'.clocks b) ≡ judged n cs a b
  verdict_there a b i j =
      rw (
        verdict_within n (row n w'.clocks a) (row n w'.clocks b),
        verdict_within n (clock_of cs a) (clock_of cs b),
        within_alike n (row n w'.clocks a) (row n w'.clocks b) (clock_of cs a) (clock_of cs b) (λ k l. row_part a k i l) (λ k l. row_part b k j l),
        within_alike n (row n w'.clocks b) (row n w'.clocks a) (clock_of cs b) (clock_of cs a) (λ k l. row_part b k j l) (λ k l. row_part a k i l),
      )

  many_stamps : length ts ≡ length cs
  many_stamps = length_stamps cs never_sent

  -- Its mask, and where and what its values are.
  pub mask_there : (a : ℕ) → a < length cs → get_or w'.masks a 0 ≡ (get_or ts a no_stamp).mask
  unfolding filled
  mask_there a i =
      rw h.is
      (laid_there m (mask_slots ts) w.masks a (omega (arith, length_masks ts, many_stamps))
      ∙ getD_masks ts a (omega (arith, many_stamps)))

  pub begins_there : (a : ℕ) → a ≤ length cs → values_begin w'.masks a ≡ values_begin (mask_slots ts) a
  unfolding filled laid
  begins_there a i =
      rw h.is
      (rw (append_assoc (mask_slots ts)) (ap all_ones (take-append-le a (mask_slots ts) _ (omega (arith, length_masks ts, many_stamps)))))

  pub values_there :
      (a : ℕ) → a < length cs
      → take (ones (get_or ts a no_stamp).mask) (drop (values_begin w'.masks a) w'.values) ≡ (get_or ts a no_stamp).values
  unfolding filled laid
  values_there a i =
      let u = get_or ts a no_stamp in
      let e = values_stand cs a (omega (arith, many_stamps)) in
      rw (begins_there a (omega arith))
      (rw h.is
      (rw (append_assoc (value_slots ts))
      (part_there (ones u.mask) (values_begin (mask_slots ts) a) (value_slots ts) _ (ap length e ∙ sym (each_stamp never_sent cs a)) ∙ e)))

  -- All values begin and end where the masks say.
  pub all_values : values_begin w'.masks (length cs) ≡ entries cs
  all_values =
      begins_there (length cs) (omega arith)
      ∙ ap all_ones (take_all (length cs) (mask_slots ts) (omega (arith, length_masks ts, many_stamps)))
      ∙ ones_all ts (each_stamp never_sent cs)

  pub values_room : entries cs ≤ length w'.values
  values_room = let l : n * length cs ≤ n * m = mul-le-mul_left n few in omega (arith, fit.values, still.values)

module _ {t : Terms} {list : List ℕ} {w w' : Work} (s : Stands t list w w') where
  pub all : length (accepted_of t list) ≡ how_many list
  all = all_accepted t list s.accepted

  -- The event at a is the one whose record begins at byte 8 * a.
  pub event_there : (a : ℕ) → a < how_many list → event_of (accepted_of t list) a ≡ event_at list (8 * a)
  event_there a h =
      sym (get_or-map (λ c. c.event) (accepted_of t list) a nothing)
      ∙ ap (λ (es : List Event). get_or es a nothing.event) (offers_accepted t (events_of list) (start t) zeros)
      ∙ events_at (how_many list) list a h
    where
      zeros : answers t (start t) (events_of list) ≡ replicate (length (events_of list)) 0
      zeros = s.accepted ∙ ap (λ (k : ℕ). replicate k 0) (sym (length_events (how_many list) list))

  pub process_there : (a : ℕ) → a < how_many list → byte list (8 * a + 1) < t.processes
  unfolding event_at
  process_there a h =
      omega (arith, process_below t (events_of list) a (omega (arith, all)), ap (λ (e : Event). e.process) (event_there a h))

-- The calls after which the events of a list stand in the slots, whatever they answer and whatever further slots they ask for.
pub class_held :
    {A : Type 0} {t : Terms} {list : List ℕ} {w w' : Work} (more : List (List ℕ)) (a x : A)
    → (done x, w') ≡ call (class_checks t list w more) a t list w → Held t list w w' × (a ≡ x)
class_held {A} {t} {list} {w} {w'} more a x h =
    let ((early, late), same, is) = call_done (class_checks t list w more) a x t list w w' h in
    let (listed, (room, rest)) = (list_early t list w more).0 early in
    (record { listed = listed; room = room; is = is }, same)

pub list_stands :
    {A : Type 0} {t : Terms} {list : List ℕ} {w w' : Work} (more : List (List ℕ)) (a x : A)
    → (done x, w') ≡ call (strict_checks t list w more) a t list w → Stands t list w w' × (a ≡ x)
list_stands {A} {t} {list} {w} {w'} more a x h =
    let ((early, late), same, is) = call_done (strict_checks t list w more) a x t list w w' h in
    let (listed, (room, rest)) = (list_early t list w more).0 early in
    (record { held = record { listed = listed; room = room; is = is }; accepted = (list_says t list).0 late }, same)

pub sheet_stands :
    {A : Type 0} (b : List ℕ) {w w' : Work} (more : List (List ℕ)) (a x : A)
    → (done x, w') ≡ call (reading_checks b w more) a (terms_in b) (list_in b) w → Stands (terms_in b) (list_in b) w w' × (a ≡ x)
sheet_stands {A} b {w} {w'} more a x h =
    let c = reading_checks b w more in
    let ((early, late), same, is) = call_done c a x (terms_in b) (list_in b) w w' h in
    let (sheet, (room, rest)) = (reading_number b w more).0 ((placed c).1 (early, late)) in
    let listed : Listed (terms_in b) (list_in b) =
    record { version = sheet.right.version; processes = sheet.right.processes; whole_records = sheet.whole_records } in
    (record { held = record { listed = listed; room = room; is = is }; accepted = sheet.accepted }, same)
