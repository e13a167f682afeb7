-- The pieces of the events of a list: that of the first event, then those of the rest, whose masks and values stand behind the first's.
use Prim.Native.Nat.{ℕ, zero, suc, ◌+◌, ◌*◌, ◌≤◌, ◌<◌}
use mathlib.Core.List.{List, [], ◌∷◌}
use mathlib.Core.Path.{◌≡◌, refl, ap}
use native.Mathlib.Omega.{arith}
use lib.Count.{ones}
use lib.ListN.{length, get_or, drop, length-drop}
use lib.Seq.{drop-drop, get_or-drop}
use Rattle.clock.specs.Event.{kind_at}
use Rattle.paper.specs.Buffers.{all_ones, values_begin}
use Rattle.paper.specs.Event.{how_many}
use Rattle.sheet.specs.Slots.{slot_stamp, kind_piece, pieces_from, slot_pieces, Slots}
use Rattle.sheet.proofs.Slots.{values_there}

piece_behind : (m : ℕ) (vs : List ℕ) (n p kind : ℕ) → kind_piece kind m vs (n + p) ≡ kind_piece kind m (drop n vs) p
unfolding slot_stamp
piece_behind m vs n p kind = rw (drop-drop p n vs)

kind_behind : (list : List ℕ) (i : ℕ) → kind_at list (suc i) ≡ kind_at (drop 8 list) i
kind_behind list i = let e : 8 + 8 * i ≡ 8 * suc i = omega arith in rw (get_or-drop 8 list (8 * i) 0, e)

pieces_behind :
    (list : List ℕ) (m : ℕ) (ms vs : List ℕ) (k i : ℕ) → pieces_from list (m ∷ ms) vs k (suc i) ≡ pieces_from (drop 8 list) ms (drop (ones m) vs) k i
unfolding pieces_from all_ones
pieces_behind list m ms vs zero i = refl
pieces_behind list m ms vs (suc k) i =
    rw (kind_behind list i, piece_behind (get_or ms i 0) vs (ones m) (values_begin ms i) (kind_at (drop 8 list) i))
    (ap (λ (xs : List (List ℕ)). kind_piece (kind_at (drop 8 list) i) (get_or ms i 0) (drop (ones m) vs) (values_begin ms i) ∷ xs) (pieces_behind list m ms vs k (suc i)))

pub none_left : (list masks vs : List ℕ) → length list < 8 → slot_pieces list masks vs ≡ []
unfolding pieces_from
none_left list masks vs h = let e : how_many list ≡ 0 = omega arith in rw e

first_piece :
    (list masks vs : List ℕ) → 8 ≤ length list → 0 < length masks
    → slot_pieces list masks vs
    ≡ kind_piece (kind_at list 0) (get_or masks 0 0) vs 0 ∷ slot_pieces (drop 8 list) (drop 1 masks) (drop (ones (get_or masks 0 0)) vs)
unfolding pieces_from all_ones
first_piece list [] vs h l = absurd (omega arith)
first_piece list (m ∷ ms) vs h l =
    let e : how_many list ≡ suc (how_many (drop 8 list)) = omega (arith, length-drop 8 list) in
    rw (e, pieces_behind list m ms vs (how_many (drop 8 list)) 0)

values_behind :
    (masks : List ℕ) (n : ℕ) → 0 < length masks
    → ones (get_or masks 0 0) + values_begin (drop 1 masks) n ≡ values_begin masks (suc n)
unfolding all_ones
values_behind [] n h = absurd (omega arith)
values_behind (m ∷ ms) n h = refl

module _ {list masks vs : List ℕ} (s : Slots list masks vs) (some : 8 ≤ length list) where
  pub first_there : ones (get_or masks 0 0) ≤ length vs
  unfolding all_ones
  first_there = let h : 0 + ones (get_or masks 0 0) ≤ length vs = values_there list masks vs s 0 (omega arith) in omega arith

  -- The rest of the list, of the masks and of the values.
  module _ {list' masks' vs' : List ℕ} (l : list' ≡ drop 8 list) (m : masks' ≡ drop 1 masks) (v : vs' ≡ drop (ones (get_or masks 0 0)) vs) where
    less : how_many list ≡ suc (how_many list')
    less = rw l (omega (arith, length-drop 8 list))

    pub rest_masks : how_many list' ≤ length masks'
    rest_masks = rw m (omega (arith, length-drop 1 masks, less, s.each_mask))

    pub rest_values : values_begin masks' (how_many list') ≤ length vs'
    rest_values = rw (m, v) (omega (arith, length-drop (ones (get_or masks 0 0)) vs, values_behind masks (how_many list') (omega (arith, less, s.each_mask)), rw less at s.all_values))

    pub left_more :
        {piece : List ℕ} → piece ≡ kind_piece (kind_at list 0) (get_or masks 0 0) vs 0
        → slot_pieces list masks vs ≡ piece ∷ slot_pieces list' masks' vs'
    left_more e = rw (e, l, m, v) (first_piece list masks vs some (omega (arith, s.each_mask)))

pub pieces_many : (list masks vs : List ℕ) (k i : ℕ) → length (pieces_from list masks vs k i) ≡ k
unfolding pieces_from
pieces_many list masks vs zero i = refl
pieces_many list masks vs (suc k) i = ap suc (pieces_many list masks vs k (suc i))
