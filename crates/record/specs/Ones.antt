-- A walk of a word's set bits.
use Rattle.std.specs.Prelude.{ℕ, ◌-◌, ◌≡◌, ◌≢◌, Option, Some, None, bit_and}
use Rattle.std.specs.Int.Count.{count_trailing_zeros}

-- From the word m: its lowest set bit, and the word without it; or nothing, where no bit is set.
abbrev pub Walks : ℕ → Option ℕ → ℕ → Type 0
Walks m None rest = m ≡ 0
Walks m (Some k) rest = (m ≢ 0) × (k ≡ count_trailing_zeros 32 m) × (rest ≡ bit_and m (m - 1))
