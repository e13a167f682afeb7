-- Pieces of bytes stored one behind another.
use Prim.Native.Nat.{ℕ, suc, ◌+◌, ◌-◌, ◌/◌, ◌%◌, ◌^◌, ◌≤◌, ◌<◌, min}
use mathlib.Core.Path.{◌≡◌, refl, sym, ap, ◌∙◌}
use mathlib.Core.Bool.{Bool, true, false}
use mathlib.Core.List.{List, [], ◌∷◌, ◌++◌, append_assoc}
use native.Mathlib.Nat.{add-zero, add-suc, suc-add}
use native.Mathlib.Numerals.{add-one}
use native.Mathlib.Omega.{arith}
use borrow.Author.Tests.{ltb-true, ltb-false}
use lib.Dec.{ltb}
use lib.ListN.{length, get_or, take, drop, set, length-append, take-append-drop}
use lib.Seq.{sets, length-sets, length-take-le, take-suc, drop-length}
use Rattle.paper.specs.Bytes.{two_bytes, four_bytes}
use Rattle.octets.specs.Appended.{Appended}
use Rattle.octets.proofs.Places.{sets_out, sets_past}

sets_more : (s t l : List ℕ) (i : ℕ) → sets (sets l i s) (i + length s) t ≡ sets l i (s ++ t)
sets_more [] t l i = ap (λ (k : ℕ). sets l k t) (add-zero i)
sets_more (a ∷ s) t l i =
    ap (λ (k : ℕ). sets (sets (set l i a) (suc i) s) k t) (add-suc i (length s) ∙ sym (suc-add i (length s))) ∙ sets_more s t (set l i a) (suc i)

-- No byte; an equal text; and the length stays.
pub none : (l : List ℕ) (at : ℕ) → length l < 2 ^ 64 → at < 2 ^ 64 → Appended l at [] at l
none l at h s = record { lent = h; place = omega arith; bytes = refl }

pub same : {l m s t : List ℕ} {at r : ℕ} → s ≡ t → Appended l at s r m → Appended l at t r m
same {l} {m} {s} {t} {at} {r} e a = rw e at a

pub long : {l m t : List ℕ} {at r : ℕ} → Appended l at t r m → length m ≡ length l
long {l} {m} {t} {at} a = ap length a.bytes ∙ length-sets l at t

-- The place is at most as far behind as there are bytes, and just as far where that is a number of 64 bits.
pub up_to : {l m t : List ℕ} {at r k : ℕ} → Appended l at t r m → length t ≤ k → r ≤ at + k
up_to a h = omega (arith, a.place)

pub behind : {l m t : List ℕ} {at r : ℕ} → Appended l at t r m → at + length t < 2 ^ 64 → r ≡ at + length t
behind a h = omega (arith, a.place)

-- One piece behind another, and behind it one of two parts.
pub join : {l m n s t : List ℕ} {at k r : ℕ} → Appended l at s k m → Appended m k t r n → Appended l at (s ++ t) r n
join {l} {m} {n} {s} {t} {at} {k} {r} a b =
    let small : length (sets l at s) < 2 ^ 64 = omega (arith, a.lent, length-sets l at s) in
    record {
      lent = a.lent;
      place = omega (arith, a.place, b.place, length-append s t);
      bytes = b.bytes ∙ rw (a.bytes, a.place) (sets_past t (sets l at s) at (length s) small ∙ sets_more s t l at);
    }

pub join_two : (t u : List ℕ) {l m n s : List ℕ} {at k r : ℕ} → Appended l at s k m → Appended m k (t ++ u) r n → Appended l at (s ++ t ++ u) r n
join_two t u {l} {m} {n} {s} a b = rw append_assoc (join a b)

-- As many bytes of a text as there is room for are all that is stored of it.
pub sets_cut : (t l : List ℕ) (at n : ℕ) → n ≡ min (length t) (length l - at) → sets l at (take n t) ≡ sets l at t
sets_cut t l at n e =
    sym (rest (ltb n (length t)) refl) ∙ sets_more (take n t) (drop n t) l at ∙ ap (λ (x : List ℕ). sets l at x) (take-append-drop n t)
  where
    front : length (take n t) ≡ n
    front = length-take-le n t (omega arith)

    rest : (b : Bool) → ltb n (length t) ≡ b → sets (sets l at (take n t)) (at + length (take n t)) (drop n t) ≡ sets l at (take n t)
    rest true q =
        let h : n < length t = ltb-true n (length t) q in
        sets_out (drop n t) (sets l at (take n t)) (at + length (take n t)) (omega (arith, front, length-sets l at (take n t)))
    rest false q =
        let h : length t ≤ n = ltb-false n (length t) q in
        let all : n ≡ length t = omega arith in
        let end : drop n t ≡ [] = ap (λ (k : ℕ). drop k t) all ∙ drop-length t in
        rw end

-- One byte more of a text.
pub one_more : (t l m : List ℕ) (at i : ℕ) → m ≡ sets l at (take i t) → i < length t → set m (at + i) (get_or t i 0) ≡ sets l at (take (i + 1) t)
one_more t l m at i e h =
    let front : length (take i t) ≡ i = length-take-le i t (omega arith) in
    rw (e, add-one, take-suc t i 0, ← sets_more (take i t) (get_or t i 0 ∷ []) l at, front)

-- The four bytes of a number are its two lower and its two upper ones.
pub stored_four :
    {l m n : List ℕ} {at k r : ℕ} (x : ℕ) → Appended l at (two_bytes x) k m → Appended m k (two_bytes (x / 65536)) r n → Appended l at (four_bytes x) r n
unfolding two_bytes four_bytes
stored_four x a b = let e : x / 65536 / 256 % 256 ≡ x / 16777216 % 256 = omega arith in rw (← e) (join a b)
