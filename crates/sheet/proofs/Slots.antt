-- Sizes and places of the stamps in the work buffers.
use Prim.Native.Nat.{ℕ, zero, suc, ◌+◌, ◌*◌, ◌≤◌, ◌<◌}
use mathlib.Core.Bool.{Bool, true, false, cond}
use mathlib.Core.List.{List, [], ◌∷◌, ◌++◌, append_assoc, append-nil, flat_map}
use mathlib.Core.Path.{◌≡◌, refl, sym, ap, ◌∙◌}
use native.Mathlib.Numerals.{add-one}
use native.Mathlib.Omega.{arith}
use lib.Count.{ones}
use lib.Dec.{eqb}
use lib.ListN.{length, get_or, take, drop, length-take, length-drop}
use lib.Seq.{take-suc, take-nil, get_or-drop}
use Rattle.paper.specs.Buffers.{all_ones, values_begin}
use Rattle.paper.specs.Bytes.{two_bytes, four_bytes}
use Rattle.paper.specs.Event.{send, how_many}
use Rattle.paper.specs.Sheet.{stamp_bytes}
use Rattle.paper.proofs.Sheets.Sizes.{values_double}
use Rattle.sheet.specs.Slots.{value_bytes, slot_stamp, kind_piece, kind_size, Slots}

-- One value more.
values_end : (xs : List ℕ) (y : ℕ) → flat_map two_bytes (xs ++ (y ∷ [])) ≡ flat_map two_bytes xs ++ two_bytes y
unfolding flat_map
values_end [] y = append-nil (two_bytes y)
values_end (x ∷ xs) y = ap (λ (l : List ℕ). two_bytes x ++ l) (values_end xs y) ∙ sym (append_assoc (two_bytes x) (flat_map two_bytes xs) (two_bytes y))

module _ (vs : List ℕ) (p : ℕ) where
  pub one_more : (k : ℕ) → p + k < length vs → value_bytes vs p (k + 1) ≡ value_bytes vs p k ++ two_bytes (get_or vs (p + k) 0)
  one_more k h =
      let l : k < length (drop p vs) = omega (arith, length-drop p vs) in
      rw (add-one, take-suc (drop p vs) k 0 l, get_or-drop p vs k 0) (values_end (take k (drop p vs)) (get_or vs (p + k) 0))

  pub length_value_bytes : (k : ℕ) → p + k ≤ length vs → length (value_bytes vs p k) ≡ 2 * k
  length_value_bytes k h = omega (arith, values_double (take k (drop p vs)), length-take k (drop p vs), length-drop p vs)

  module _ (m : ℕ) (h : p + ones m ≤ length vs) where
    pub length_slot_stamp : length (slot_stamp m vs p) ≡ 4 + 2 * ones m
    unfolding slot_stamp stamp_bytes four_bytes
    length_slot_stamp = omega (arith, length_value_bytes (ones m) h)

    pub length_kind_piece : (kind : ℕ) → length (kind_piece kind m vs p) ≡ kind_size kind m
    length_kind_piece kind = go (eqb kind send)
      where
        go : (b : Bool) → length (cond b (slot_stamp m vs p) []) ≡ cond b (4 + 2 * ones m) 0
        go true = length_slot_stamp
        go false = refl

-- Where the values of the next event begin, and that no event's begin behind those of a later one.
pub begin_more : (masks : List ℕ) (i : ℕ) → i < length masks → values_begin masks (i + 1) ≡ values_begin masks i + ones (get_or masks i 0)
unfolding all_ones
begin_more masks i h = rw add-one (go masks i h)
  where
    go : (ms : List ℕ) (j : ℕ) → j < length ms → values_begin ms (suc j) ≡ values_begin ms j + ones (get_or ms j 0)
    go [] j l = absurd (omega arith)
    go (m ∷ ms) zero l = omega arith
    go (m ∷ ms) (suc j) l = omega (arith, go ms j (omega arith))

begin_later : (masks : List ℕ) (i j : ℕ) → i ≤ j → values_begin masks i ≤ values_begin masks j
unfolding all_ones
begin_later [] i j h = rw (take-nil i, take-nil j) (omega arith)
begin_later (m ∷ ms) zero j h = omega arith
begin_later (m ∷ ms) (suc i) zero h = absurd (omega arith)
begin_later (m ∷ ms) (suc i) (suc j) h = omega (arith, begin_later ms i j (omega arith))

-- The values of every event are there.
pub values_there :
    (list masks vs : List ℕ) → Slots list masks vs → (i : ℕ) → i < how_many list → values_begin masks i + ones (get_or masks i 0) ≤ length vs
values_there list masks vs s i h =
    omega (arith, begin_more masks i (omega (arith, s.each_mask)), begin_later masks (i + 1) (how_many list) (omega arith), s.all_values)
