-- The decimal digits of a number (theorem `decimal_right`): their value is the number, and none leads with a zero.
use Rattle.std.specs.Prelude.{ℕ, ◌+◌, ◌-◌, ◌*◌, ◌≤◌, ◌<◌, ◌≡◌, ◌≢◌, List, [], ◌∷◌, length, get_or}

-- The value of digits behind those whose value is x: byte 48 is the digit 0.
unfoldable pub value_behind : ℕ → List ℕ → ℕ
value_behind x [] = x
value_behind x (d ∷ ds) = value_behind (10 * x + (d - 48)) ds

pub record Decimal (x : ℕ) (ds : List ℕ) : Type 0 where
  pub some : 1 ≤ length ds
  pub digits : (i : ℕ) → i < length ds → (48 ≤ get_or ds i 0) × (get_or ds i 0 ≤ 57)
  pub value : value_behind 0 ds ≡ x
  pub no_leading_zero : 1 < length ds → get_or ds 0 0 ≢ 48
