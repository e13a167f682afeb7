-- What is found at the bytes of an argument, and what they make.
use Prim.Native.Nat.{ℕ, zero, suc, ◌^◌, ◌≤◌, ◌<◌}
use mathlib.Core.Path.{◌≡◌, refl}
use mathlib.Core.Bool.{Bool, true, false, ◌&&◌}
use mathlib.Core.List.{List, [], ◌∷◌}
use native.Mathlib.Nat.{pow-le-pow_right, lt_of_lt_of_le}
use native.Mathlib.Omega.{arith}
use lib.Dec.{lit<}
use lib.ListN.{length, get_or, drop}
use Rattle.std.specs.Bool.{MatchBool}
use Rattle.std.specs.List.{AllWithin, HoldsAt}
use Rattle.number.specs.Digits.{is_digit, all_digits, value_behind}

-- Either all bytes are digits, or at some place stands another byte.
all_are : (s : List ℕ) → AllWithin (λ b. is_digit b ≡ true) s 0 (length s) → true ≡ all_digits s
all_are [] h = refl
all_are (b ∷ s) h =
    let here : is_digit b ≡ true = h 0 0 (omega arith) (omega arith) in
    rw here (all_are s (λ k d l m. h (suc k) d (omega arith) (omega arith)))

other_is : (s : List ℕ) (k : ℕ) → k < length s → is_digit (get_or s k 0) ≡ false → false ≡ all_digits s
other_is [] k l e = absurd (omega arith)
other_is (b ∷ s) zero l e = rw e
other_is (b ∷ s) (suc k) l e = rw (← other_is s k (omega arith) e) (go (is_digit b))
  where
    go : (t : Bool) → false ≡ (t && false)
    go true = refl
    go false = refl

pub digits_found :
    (s : List ℕ) (r : Bool)
    → MatchBool r (AllWithin (λ b. is_digit b ≡ true) s 0 (length s)) ((k : ℕ) × (k < length s) × HoldsAt (λ b. is_digit b ≡ false) s k)
    → r ≡ all_digits s
digits_found s true h = all_are s h
digits_found s false h = other_is s h.0 h.1 (h.2 0)

-- The first i bytes make v.
pub record Made (s : List ℕ) (v i : ℕ) : Type 0 where
  pub rest : value_behind v (drop i s) ≡ value_behind 0 s
  pub small : v < 256 ^ i

-- No number of fewer than 5 bytes is large.
pub made_fits : {s : List ℕ} {v i : ℕ} → Made s v i → i < length s → length s ≤ 5 → v < 256 ^ 5
made_fits {s} {v} {i} a h l =
    let few : i ≤ 5 = omega arith in
    lt_of_lt_of_le a.small (pow-le-pow_right (lit< tt) few)
