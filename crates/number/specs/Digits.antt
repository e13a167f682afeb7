-- A program's argument: a decimal number of 1 to 5 digits; leading zeros count as digits.
use Rattle.std.specs.Prelude.{ℕ, ◌+◌, ◌-◌, ◌*◌, Bool, true, cond, ◌&&◌, List, [], ◌∷◌, Option, None, Some, leb, length}

-- A decimal digit's byte; a text of such bytes alone.
abbrev pub is_digit : ℕ → Bool
is_digit b = leb 48 b && leb b 57

abbrev pub all_digits : List ℕ → Bool
all_digits [] = true
all_digits (b ∷ s) = is_digit b && all_digits s

-- The number that the digits s make behind v.
abbrev pub value_behind : ℕ → List ℕ → ℕ
value_behind v [] = v
value_behind v (b ∷ s) = value_behind (v * 10 + (b - 48)) s

-- The number that a text says, or none.
unfoldable pub number_of : List ℕ → Option ℕ
number_of s = cond (leb 1 (length s) && leb (length s) 5 && all_digits s) (Some (value_behind 0 s)) None
