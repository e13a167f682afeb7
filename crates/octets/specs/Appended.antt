-- Bytes stored one after another in a lent slice. A store behind the end of a list is no store, so what is too long is cut.
use Rattle.std.specs.Prelude.{ℕ, ◌+◌, ◌<◌, ◌^◌, min, List, ◌≡◌, length}
use Rattle.std.proofs.lemmas.List.Edits.{sets}

-- The place k bytes behind `at`; the largest number of 64 bits, which is behind the end of every slice, stands for all that are larger.
abbrev pub past : ℕ → ℕ → ℕ
past at k = min 18446744073709551615 (at + k)

-- The list l, as long as a slice can be, with the bytes t stored from the place `at` on is m, and r is the place behind them.
pub record Appended (l : List ℕ) (at : ℕ) (t : List ℕ) (r : ℕ) (m : List ℕ) : Type 0 where
  pub lent : length l < 2 ^ 64
  pub place : r ≡ past at (length t)
  pub bytes : m ≡ sets l at t
