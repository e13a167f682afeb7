-- `eighteen`: a sheet is refused with 18 at i exactly when the earlier checks pass, the earlier stamps stand, and that of the send at i does not.
use Prim.Native.Nat.{ℕ, zero, suc, ◌+◌, ◌≤◌, ◌<◌}
use native.Mathlib.Decide.{dec_lt}
use native.Mathlib.Nat.{add-zero, zero-add, lt_of_lt_of_le}
use native.Mathlib.Omega.{arith}
use mathlib.Core.Path.{◌≡◌, refl, sym, ap, ◌∙◌}
use mathlib.Core.Logic.{◌↔◌, ◌≢◌}
use mathlib.Core.Bool.{Bool, true, false, cond, false≢true}
use mathlib.Core.List.{List, [], ◌∷◌, ◌++◌, zip_with, flatten}
use lib.ListN.{length, get_or, take, drop, length-append, length-take, take-append-drop, get_or-eq_default}
use lib.Pow.{pow_mono}
use lib.Seq.{get_or-take, drop-drop, take-append_seam}
use borrow.Author.Tests.{eqb-true, eq-eqb}
use Rattle.paper.specs.Buffers.{Work}
use Rattle.paper.specs.Bytes.{Bytes, byte}
use Rattle.paper.specs.Claims.Exactly.{of_offer, Recorded, Eighteen}
use Rattle.paper.specs.Clock.{most_processes, most_events}
use Rattle.paper.specs.Event.{send, is_send, events_of, how_many}
use Rattle.paper.specs.Machine.{Clocked, member, answers_of, accepted_of, AllAccepted}
use Rattle.paper.specs.Order.{nothing, event_of}
use Rattle.paper.specs.Reading.{first_refused, begins, stamps_refused, reading_checks, read_of, reading}
use Rattle.paper.specs.Refusals.{Refusal, of_call, refusal_of, refused}
use Rattle.paper.specs.Sheet.{terms_in, list_offset, list_size, stamps_offset, stamps_size, list_in, stamps_in, stamp_bytes, piece, pieces}
use Rattle.paper.specs.Stamp.{Stamp, stamps, no_stamp, never_sent}
use Rattle.paper.specs.Terms.{Terms}
use Rattle.paper.proofs.Exactly.Firsts.{is_refused, then_is}
use Rattle.paper.proofs.Exactly.Numbers.{Known, nine_known, strict_in, header_known}
use Rattle.paper.proofs.Laws.Runs.{length_events}
use Rattle.paper.proofs.Laws.Slots.{length_stamps}
use Rattle.paper.proofs.Laws.Tables.{cond_cases}
use Rattle.paper.proofs.Laws.Tests.{also, and_both}
use Rattle.paper.proofs.Lent.Stamps.{StampFits, stamps_fit}
use Rattle.paper.proofs.ReadExactly.{early_says}
use Rattle.paper.proofs.Sheets.Header.{Header}
use Rattle.paper.proofs.Sheets.Parts.{begins_says, begins_self, list_says}
use Rattle.paper.proofs.StampSays.{begins_append, bytes_drop, stamp_says}

-- The position of 18 is never before where the stamps begin.
not_before : (ts : List (List ℕ)) (j : ℕ) (b : List ℕ) → (stamps_refused j ts b).number ≡ 18 → j ≤ (stamps_refused j ts b).position
unfolding stamps_refused
not_before [] j [] h = omega arith
not_before [] j (x ∷ b) h = absurd (omega arith)
not_before (u ∷ ts) j b h =
    cond_cases (λ (r : Refusal). r.number ≡ 18 → j ≤ r.position) (begins u b) _ _
    (λ e g. let l = not_before ts (suc j) (drop (length u) b) g in omega arith) (λ e g. omega arith) h

drop_past : (x y b : List ℕ) → drop (length (x ++ y)) b ≡ drop (length y) (drop (length x) b)
drop_past x y b = ap (λ n. drop n b) (length-append x y) ∙ sym (drop-drop (length y) (length x) b)

-- What stands before the stamp at i.
abbrev upto : ℕ → List (List ℕ) → List ℕ
upto i ts = flatten (take i ts)

-- The stamps before i stand, and that at i does not.
abbrev WrongAt : List (List ℕ) → List ℕ → ℕ → Type 0
WrongAt ts b i = (i < length ts) × (begins (upto i ts) b ≡ true) × (begins (get_or ts i []) (drop (length (upto i ts)) b) ≡ false)

wrong_says : (ts : List (List ℕ)) (i j : ℕ) (b : List ℕ) → (stamps_refused j ts b ≡ record { number = 18; position = j + i }) ↔ WrongAt ts b i
unfolding stamps_refused flatten begins
wrong_says [] i j [] = (λ h. let z : ◌≡◌ {A = ℕ} 0 18 = ap (λ (r : Refusal). r.number) h in absurd (omega arith), λ h. absurd (omega (arith, h.0)))
wrong_says [] i j (x ∷ b) = (λ h. let z : ◌≡◌ {A = ℕ} 19 18 = ap (λ (r : Refusal). r.number) h in absurd (omega arith), λ h. absurd (omega (arith, h.0)))
wrong_says (u ∷ ts) zero j b = go (begins u b) refl
  where
    go :
        (c : Bool) → begins u b ≡ c
        → (cond c (stamps_refused (suc j) ts (drop (length u) b)) (record { number = 18; position = j }) ≡ record { number = 18; position = j + 0 })
        ↔ ((0 < suc (length ts)) × (true ≡ true) × (begins u b ≡ false))
    go true e = (
      λ h.
          let n = ap (λ (r : Refusal). r.number) h in
          let p = ap (λ (r : Refusal). r.position) h in
          absurd (omega (arith, not_before ts (suc j) (drop (length u) b) n, p)),
      λ h. absurd (false≢true (sym h.2 ∙ e)),
    )
    go false e = (λ h. (omega arith, refl, e), λ h. rw add-zero)
wrong_says (u ∷ ts) (suc i) j b = go (wrong_says ts i (suc j) (drop (length u) b)) (begins u b) refl
  where
    go :
        (stamps_refused (suc j) ts (drop (length u) b) ≡ record { number = 18; position = suc j + i }) ↔ WrongAt ts (drop (length u) b) i
        → (c : Bool) → begins u b ≡ c
        → (cond c (stamps_refused (suc j) ts (drop (length u) b)) (record { number = 18; position = j }) ≡ record { number = 18; position = j + suc i })
        ↔ WrongAt (u ∷ ts) b (suc i)
    go ih true e =
        let same : suc j + i ≡ j + suc i = omega arith in
        also (rw same at ih) (
          λ h. (
            omega (arith, h.0),
            begins_append u (upto i ts) b ∙ rw e h.1,
            ap (λ d. begins (get_or ts i []) d) (drop_past u (upto i ts) b) ∙ h.2,
          ),
          λ h. (
            omega (arith, h.0),
            (and_both (begins u b) _ (sym (begins_append u (upto i ts) b) ∙ h.1)).1,
            ap (λ d. begins (get_or ts i []) d) (sym (drop_past u (upto i ts) b)) ∙ h.2,
          ),
        )
    go ih false e = (
      λ h. let p = ap (λ (r : Refusal). r.position) h in absurd (omega (arith, p)),
      λ h. absurd (false≢true (sym e ∙ (and_both (begins u b) _ (sym (begins_append u (upto i ts) b) ∙ h.1)).0)),
    )

fails_so : {P : Type 0} (c : Bool) → (c ≡ true) ↔ P → (P → ⊥) → c ≡ false
fails_so true p n = absurd (n (p.0 refl))
fails_so false p n = refl

-- The piece of the event at i.
piece_at :
    (cs : List Clocked) (ts : List Stamp) (i : ℕ) → i < length cs → length ts ≡ length cs
    → get_or (zip_with piece cs ts) i [] ≡ piece (get_or cs i nothing) (get_or ts i no_stamp)
unfolding zip_with
piece_at [] ts i h l = absurd (omega arith)
piece_at (c ∷ cs) [] i h l = absurd (omega arith)
piece_at (c ∷ cs) (u ∷ ts) zero h l = refl
piece_at (c ∷ cs) (u ∷ ts) (suc i) h l = piece_at cs ts i (omega arith) (omega arith)

pieces_long : (cs : List Clocked) (ts : List Stamp) → length ts ≡ length cs → length (zip_with piece cs ts) ≡ length cs
unfolding zip_with
pieces_long [] ts l = refl
pieces_long (c ∷ cs) [] l = absurd (omega arith)
pieces_long (c ∷ cs) (u ∷ ts) l = ap suc (pieces_long cs ts (omega arith))

-- Bytes begin with these exactly when they are the first of them.
begins_take : (x b : List ℕ) → (begins x b ≡ true) ↔ (take (length x) b ≡ x)
begins_take x b = (
  λ h. ap (λ (y : List ℕ). take (length x) y) (sym (begins_says x b h)) ∙ take-append_seam x (drop (length x) b),
  λ h. ap (begins x) (sym (take-append-drop (length x) b) ∙ ap (λ (y : List ℕ). y ++ drop (length x) b) h) ∙ begins_self x (drop (length x) b),
)

bytes_take : (b : List ℕ) (n : ℕ) → Bytes b → Bytes (take n b)
bytes_take b n s = record { small = λ k. go k (dec_lt k n) }
  where
    go : (k : ℕ) → Dec (k < n) → byte (take n b) k < 256
    go k (yes l) = rw (get_or-take n b k 0 l) (s.small k)
    go k (no l) =
        let h : length (take n b) ≤ k = omega (arith, length-take n b) in
        rw (get_or-eq_default (take n b) 0 h) (omega arith)

-- Of a stamp of at most 32 components, below 2 ^ 32, and values of at most 512.
module _ (t : Terms) (list b : List ℕ) (small : t.processes ≤ most_processes) (few : length (events_of list) ≤ most_events) (bytes : Bytes (stamps_in b)) where
  abbrev cs : List Clocked
  cs = accepted_of t list

  abbrev rest : ℕ → List ℕ
  rest i = drop (length (flatten (take i (pieces cs)))) (stamps_in b)

  stamp_there : (i : ℕ) → i < length cs → (begins (stamp_bytes (get_or (stamps cs) i no_stamp)) (rest i) ≡ true) ↔ Recorded (rest i) (get_or (stamps cs) i no_stamp)
  stamp_there i l =
      let u = get_or (stamps cs) i no_stamp in
      let f = stamps_fit t small (events_of list) few i l in
      stamp_says u (rest i) (lt_of_lt_of_le f.mask (pow_mono small)) (low u f) (bytes_drop (stamps_in b) (length (flatten (take i (pieces cs)))) bytes)
    where
      low : (u : Stamp) → StampFits t.processes u → (k : ℕ) → get_or u.values k 0 < 65536
      low u f k = go (dec_lt k (length u.values))
        where
          go : Dec (k < length u.values) → get_or u.values k 0 < 65536
          go (yes h) = omega (arith, (f.values k h).1)
          go (no h) =
              let l : length u.values ≤ k = omega arith in
              rw (get_or-eq_default u.values 0 l) (omega arith)

  the_piece : (i : ℕ) → i < length cs → get_or (pieces cs) i [] ≡ piece (get_or cs i nothing) (get_or (stamps cs) i no_stamp)
  unfolding pieces
  the_piece i l = piece_at cs (stamps cs) i l (length_stamps cs never_sent)

  same_size : length (pieces cs) ≡ length cs
  unfolding pieces
  same_size = pieces_long cs (stamps cs) (length_stamps cs never_sent)

  wrong_is : (i : ℕ) → WrongAt (pieces cs) (stamps_in b) i ↔ Eighteen b cs i
  unfolding begins
  wrong_is i = (to, from)
    where
      to : WrongAt (pieces cs) (stamps_in b) i → Eighteen b cs i
      to (l, e, f) =
          let there : i < length cs = omega (arith, same_size) in
          let wrong = sym (ap (λ x. begins x (rest i)) (the_piece i there)) ∙ f in
          let kind = cond_cases (λ (x : List ℕ). begins x (rest i) ≡ false → is_send (event_of cs i) ≡ true) (is_send (event_of cs i)) _ []
          (λ y n. y) (λ y n. absurd (false≢true (sym n))) wrong in
          record {
            there = there;
            sends = eqb-true (event_of cs i).kind send kind;
            earlier = (begins_take (flatten (take i (pieces cs))) (stamps_in b)).0 e;
            wrong = λ r. false≢true (sym (rw kind at wrong) ∙ (stamp_there i there).1 r);
          }

      from : Eighteen b cs i → WrongAt (pieces cs) (stamps_in b) i
      from h =
          let kind = eq-eqb (event_of cs i).kind send h.sends in (
            omega (arith, h.there, same_size),
            (begins_take (flatten (take i (pieces cs))) (stamps_in b)).1 h.earlier,
            ap (λ x. begins x (rest i)) (the_piece i h.there) ∙ rw kind (fails_so (begins (stamp_bytes (get_or (stamps cs) i no_stamp)) (rest i)) (stamp_there i h.there) h.wrong),
          )

-- The checks before the stamps never give 18.
not_18 : (ns : List ℕ) → member 18 (0 ∷ ns) ≡ false → (x : ℕ) → Known ns x → x ≢ 18
not_18 ns h x k q = false≢true (sym h ∙ ap (λ y. member y (0 ∷ ns)) (sym q) ∙ k)

module _ (b : List ℕ) (w : Work) where
  early_18 : (reading_checks b w []).early ≢ 18
  unfolding member
  early_18 =
      let ns : List ℕ = 1 ∷ 2 ∷ 3 ∷ 4 ∷ 5 ∷ 6 ∷ 7 ∷ 9 ∷ [] in
      not_18 ns refl _
      (header_known ns (refl, refl, refl, refl, refl, refl, refl) b _ (nine_known ns (terms_in b) (how_many (list_in b)) w [] refl))

  events_18 : (first_refused 0 (answers_of (terms_in b) (list_in b))).number ≢ 18
  unfolding member
  events_18 = not_18 of_offer refl _ (strict_in of_offer (refl, refl, refl, refl, refl, refl, refl) (terms_in b) (list_in b))

  few_events : Header b → length (events_of (list_in b)) ≤ most_events
  few_events h =
      let (m, l, e) = h.whole_records in
      omega (
        arith,
        length_events (how_many (list_in b)) (list_in b),
        length-take (list_size b) (drop (list_offset b) b),
      )

  module _ (bytes : Bytes b) (i : ℕ) where
    abbrev it : Refusal
    it = record { number = 18; position = i }

    abbrev here : Type 0
    here = Eighteen b (accepted_of (terms_in b) (list_in b)) i

    stamp_here : Header b → (stamps_refused 0 (pieces (accepted_of (terms_in b) (list_in b))) (stamps_in b) ≡ it) ↔ here
    stamp_here h =
        let t = terms_in b in
        let list = list_in b in
        also (rw (zero-add i) at (wrong_says (pieces (accepted_of t list)) i 0 (stamps_in b)))
        (wrong_is t list b h.right.processes.1 (few_events h) (bytes_take (drop (stamps_offset b) b) (stamps_size b) (bytes_drop b (stamps_offset b) bytes)) i)

    pub eighteen :
        ((reading b w).0 ≡ refused (record { number = 18; position = i }))
        ↔ (((reading_checks b w []).early ≡ 0) × AllAccepted (terms_in b) (list_in b) × Eighteen b (accepted_of (terms_in b) (list_in b)) i)
    unfolding reading
    eighteen =
        let t = terms_in b in
        let list = list_in b in
        let c = reading_checks b w [] in
        let ts = pieces (accepted_of t list) in
        also (is_refused (refusal_of c) it (read_of t list) (λ q. omega arith))
        (also (then_is (of_call c.early) c.late it early_18 (λ q. omega arith)) (
          λ h.
              let (e, l) = h in
              let (a, s) = (then_is (first_refused 0 (answers_of t list)) (stamps_refused 0 ts (stamps_in b)) it events_18 (λ q. omega arith)).0 l in
              (e, (list_says t list).0 a, (stamp_here ((early_says b w []).0 e).0).0 s),
          λ h.
              let (e, a, s) = h in (
                e,
                (then_is (first_refused 0 (answers_of t list)) (stamps_refused 0 ts (stamps_in b)) it events_18 (λ q. omega arith)).1
                    ((list_says t list).1 a, (stamp_here ((early_says b w []).0 e).0).1 s),
              ),
        ))
