-- Recorded stamps compared: a stamp by its mask and its values, and the walk over all events, along which the answer from here on stays the whole answer.
use Prim.Native.Nat.{ℕ, zero, suc, ◌+◌, ◌*◌, ◌<◌, ◌≤◌}
use mathlib.Core.Bool.{Bool, true, false, ◌&&◌}
use mathlib.Core.List.{List, [], ◌∷◌, flat_map}
use mathlib.Core.Logic.{◌≢◌}
use mathlib.Core.Path.{◌≡◌, refl, sym, ap, ap₂, ◌∙◌}
use native.Mathlib.Numerals.{add-one}
use native.Mathlib.Omega.{arith}
use lib.Dec.{eqb}
use lib.ListN.{length, get_or, drop, length-append}
use lib.Seq.{get_or-drop}
use Rattle.std.specs.Cmp.{both_ways}
use Rattle.std.proofs.Common.{w32}
use Rattle.std.specs.Int.{to_le_bytes}
use Rattle.std.specs.List.{starts_with}
use Rattle.paper.specs.Bytes.{byte, two, two_bytes, four_bytes}
use Rattle.paper.specs.Reading.{begins, stamps_refused}
use Rattle.paper.specs.Refusals.{Refusal, of_call, refused, done, outcome}
use Rattle.paper.specs.Sheet.{stamp_bytes}
use Rattle.paper.proofs.Sheets.Parts.{begins_says}
use Rattle.paper.proofs.Sheets.Sizes.{values_double}
use Rattle.paper.proofs.StampSays.{begins_append, stamp_says}

-- `begins` of the paper is what std asks of a slice, with the two lists the other way round.
starts : (t b : List ℕ) → starts_with eqb b t ≡ begins t b
unfolding begins
starts [] b = refl
starts (x ∷ t) [] = refl
starts (x ∷ t) (y ∷ b) = ap (λ c. eqb x y && c) (starts t b)

two_behind : (b : List ℕ) (n k : ℕ) → two (drop n b) k ≡ two b (n + k)
two_behind b n k = ap₂ (λ x y. x + 256 * y) (get_or-drop n b k 0) (get_or-drop n b (k + 1) 0 ∙ ap (λ i. byte b i) (omega arith))

-- Values agree one by one exactly where bytes begin with theirs: with a mask of 0 in front of both, as `stamp_says`.
module _ (vs b : List ℕ) (h : (i : ℕ) → get_or vs i 0 < 65536) (s : (k : ℕ) → get_or b k 0 < 256) where
  abbrev ahead : List ℕ
  ahead = 0 ∷ 0 ∷ 0 ∷ 0 ∷ b

  small : (k : ℕ) → byte ahead k < 256
  small zero = omega arith
  small (suc zero) = omega arith
  small (suc (suc zero)) = omega arith
  small (suc (suc (suc zero))) = omega arith
  small (suc (suc (suc (suc k)))) = s k

  pub same_values :
      2 * length vs ≤ length b → (same : Bool) → (same ≡ true → (i : ℕ) → i < length vs → two b (2 * i) ≡ get_or vs i 0)
      → (((i : ℕ) → i < length vs → two b (2 * i) ≡ get_or vs i 0) → same ≡ true) → same ≡ begins (flat_map two_bytes vs) b
  unfolding begins stamp_bytes four_bytes
  same_values l same to from =
      let (there, back) = stamp_says (record { mask = 0; values = vs }) ahead (omega arith) h (record { small = small }) in
      both_ways same (begins (flat_map two_bytes vs) b) (λ e. back (record { long = omega arith; mask = refl; values = λ i k. sym (two_behind ahead 4 (2 * i)) ∙ to e i k })) (λ e. from (λ i k. two_behind ahead 4 (2 * i) ∙ (there e).values i k))

-- What bytes begin with is not longer than they are.
pub begins_long : (t b : List ℕ) → begins t b ≡ true → length t ≤ length b
begins_long t b h = omega (arith, length-append t (drop (length t) b), ap length (begins_says t b h))

module _ (m : ℕ) (vs : List ℕ) where
  pub stamp_long : length (stamp_bytes (record { mask = m; values = vs })) ≡ 4 + 2 * length vs
  unfolding stamp_bytes four_bytes
  stamp_long = omega (arith, values_double vs)

  pub ends_early : (b : List ℕ) → length b < 4 + 2 * length vs → false ≡ begins (stamp_bytes (record { mask = m; values = vs })) b
  ends_early b l = go (begins (stamp_bytes (record { mask = m; values = vs })) b) refl
    where
      go : (c : Bool) → begins (stamp_bytes (record { mask = m; values = vs })) b ≡ c → false ≡ c
      go true e = absurd (omega (arith, begins_long (stamp_bytes (record { mask = m; values = vs })) b e, stamp_long))
      go false e = refl

  -- The mask, then the values.
  pub same_stamp :
      (b : List ℕ) (x y : Bool) → x ≡ starts_with eqb b (to_le_bytes w32 m) → y ≡ begins (flat_map two_bytes vs) (drop 4 b)
      → (x && y) ≡ begins (stamp_bytes (record { mask = m; values = vs })) b
  unfolding stamp_bytes four_bytes
  same_stamp b x y e f = rw (begins_append (four_bytes m) (flat_map two_bytes vs) b, e, f, starts (four_bytes m) b)

-- The answer a goes by the next piece, and where there is none, by whether bytes are left.
module _ {a : Refusal} {t : List ℕ} {ts us : List (List ℕ)} (i : ℕ) (b : List ℕ) (walked : a ≡ stamps_refused i us b) where
  pub walk_stop : us ≡ t ∷ ts → begins t b ≡ false → refused (record { number = 18; position = i }) ≡ outcome a (tt {0})
  unfolding stamps_refused
  walk_stop e h = rw (walked, e, h)

  pub walk_more : {j : ℕ} {r : List ℕ} → us ≡ t ∷ ts → j ≡ i + 1 → begins t b ≡ true → r ≡ drop (length t) b → a ≡ stamps_refused j ts r
  unfolding stamps_refused
  walk_more e n h d = rw (walked, e, h, n, d, add-one)

module _ {a : Refusal} {us : List (List ℕ)} (i : ℕ) (b : List ℕ) (walked : a ≡ stamps_refused i us b) (none : us ≡ []) where
  pub walk_end : length b ≡ 0 → done (tt {0}) ≡ outcome a (tt {0})
  unfolding stamps_refused
  walk_end e = rw (walked, none) (go b e)
    where
      go : (b : List ℕ) → length b ≡ 0 → done (tt {0}) ≡ outcome (stamps_refused i [] b) (tt {0})
      go [] e = refl
      go (x ∷ b) e = absurd (omega arith)

  pub left_over : length b ≢ 0 → refused (of_call 19) ≡ outcome a (tt {0})
  unfolding stamps_refused
  left_over e = rw (walked, none) (go b e)
    where
      go : (b : List ℕ) → length b ≢ 0 → refused (of_call 19) ≡ outcome (stamps_refused i [] b) (tt {0})
      go [] e = absurd (e refl)
      go (x ∷ b) e = refl
