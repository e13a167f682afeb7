-- The stamps of a list as the work buffers hold them: a mask for each event, and its values where the ones of all earlier masks say.
use Rattle.std.specs.Prelude.{ℕ, zero, suc, ◌+◌, ◌*◌, ◌≤◌, cond, eqb, length, get_or, take, drop}
use mathlib.Core.List.{List, [], ◌∷◌, flat_map}
use Rattle.std.specs.Int.Count.{ones}
use Rattle.clock.specs.Event.{kind_at}
use Rattle.paper.specs.Buffers.{values_begin}
use Rattle.paper.specs.Bytes.{two_bytes}
use Rattle.paper.specs.Event.{send, how_many}
use Rattle.paper.specs.Sheet.{stamp_bytes}

-- The bytes of k values from place p on.
abbrev pub value_bytes : List ℕ → ℕ → ℕ → List ℕ
value_bytes vs p k = flat_map two_bytes (take k (drop p vs))

-- The bytes of a stamp with the mask m whose values stand from place p on.
unfoldable pub slot_stamp : ℕ → List ℕ → ℕ → List ℕ
slot_stamp m vs p = stamp_bytes (record { mask = m; values = take (ones m) (drop p vs) })

-- What the sheet has of an event of this kind among its stamps, and how many bytes that is.
abbrev pub kind_piece : ℕ → ℕ → List ℕ → ℕ → List ℕ
kind_piece kind m vs p = cond (eqb kind send) (slot_stamp m vs p) []

abbrev pub kind_size : ℕ → ℕ → ℕ
kind_size kind m = cond (eqb kind send) (4 + 2 * ones m) 0

module _ (list masks : List ℕ) where
  -- The pieces of k events from the one at i on; those of all events of the list.
  unfoldable pub pieces_from : List ℕ → ℕ → ℕ → List (List ℕ)
  pieces_from vs zero i = []
  pieces_from vs (suc k) i = kind_piece (kind_at list i) (get_or masks i 0) vs (values_begin masks i) ∷ pieces_from vs k (suc i)

  abbrev pub slot_pieces : List ℕ → List (List ℕ)
  slot_pieces vs = pieces_from vs (how_many list) 0

  -- There is a mask for each event, and there are all the values that the masks say.
  pub record Slots (vs : List ℕ) : Type 0 where
    pub each_mask : how_many list ≤ length masks
    pub all_values : values_begin masks (how_many list) ≤ length vs
