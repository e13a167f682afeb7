-- How many bytes the stamps take, and that from the slots of an accepted list the paper's sheet is written.
use Prim.Native.Nat.{ℕ, zero, suc, ◌+◌, ◌-◌, ◌≤◌, ◌<◌}
use mathlib.Core.List.{List, flatten}
use mathlib.Core.Path.{◌≡◌, refl, ap}
use native.Mathlib.Numerals.{add-one}
use native.Mathlib.Omega.{arith}
use lib.ListN.{length, get_or, length-append}
use Rattle.clock.specs.Event.{kind_at}
use Rattle.paper.specs.Buffers.{Work, values_begin}
use Rattle.paper.specs.Bytes.{two_bytes, four_bytes, text}
use Rattle.paper.specs.Event.{how_many}
use Rattle.paper.specs.Machine.{accepted_of}
use Rattle.paper.specs.Sheet.{pieces, stamps_part, header, written}
use Rattle.paper.specs.Stands.{Stands}
use Rattle.paper.specs.Terms.{Terms}
use Rattle.sheet.specs.Slots.{kind_piece, kind_size, pieces_from, Slots}
use Rattle.sheet.proofs.Filled.{slots_there, pieces_there}
use Rattle.sheet.proofs.Slots.{length_kind_piece, values_there}
use Rattle.layout.specs.Sizes.{size_from, slot_size, slot_stamps, slot_written}

-- The size from the event at i on: by that event's, and of none.
pub size_more :
    (list masks : List ℕ) (i : ℕ) → i < how_many list
    → size_from list masks (how_many list - i) i ≡ kind_size (kind_at list i) (get_or masks i 0) + size_from list masks (how_many list - (i + 1)) (i + 1)
unfolding size_from
size_more list masks i h = let e : how_many list - i ≡ suc (how_many list - suc i) = omega arith in rw (e, add-one)

pub size_end : (list masks : List ℕ) (i : ℕ) → how_many list ≤ i → size_from list masks (how_many list - i) i ≡ 0
unfolding size_from
size_end list masks i h = let e : how_many list - i ≡ 0 = omega arith in rw e

-- The stamps take as many bytes as the masks say.
module _ (list masks vs : List ℕ) (slots : Slots list masks vs) where
  size_rest : (k i : ℕ) → i + k ≤ how_many list → length (flatten (pieces_from list masks vs k i)) ≡ size_from list masks k i
  unfolding pieces_from size_from flatten
  size_rest zero i h = refl
  size_rest (suc k) i h =
      omega (
        arith,
        length-append (kind_piece (kind_at list i) (get_or masks i 0) vs (values_begin masks i)) (flatten (pieces_from list masks vs k (suc i))),
        length_kind_piece vs (values_begin masks i) (get_or masks i 0) (values_there list masks vs slots i (omega arith)) (kind_at list i),
        size_rest k (suc i) (omega arith),
      )

  pub size_is : length (slot_stamps list masks vs) ≡ slot_size list masks
  size_is = size_rest (how_many list) 0 (omega arith)

module _ {t : Terms} {list : List ℕ} {w w' : Work} (s : Stands t list w w') where
  pub written_there : slot_written t list w'.masks w'.values ≡ written t list
  unfolding written stamps_part
  written_there = rw (pieces_there s)

  -- What check 21 compares with the length of the output.
  pub size_there : 24 + length list + slot_size list w'.masks ≡ length (written t list)
  unfolding written stamps_part header text two_bytes four_bytes
  size_there =
      omega (
        arith,
        size_is list w'.masks w'.values (slots_there s),
        ap (λ (ps : List (List ℕ)). length (flatten ps)) (pieces_there s),
        length-append list (flatten (pieces (accepted_of t list))),
      )
