-- The verdict on two events whose clocks stand in slots, n slots to each.
use Rattle.std.specs.Prelude.{ℕ, ◌/◌, Bool, ◌||◌, not, List, ltb, length}
use Rattle.paper.specs.Order.{verdict}
use Rattle.paper.specs.Refusals.{first, of_call, Outcome, outcome}
use Rattle.paper.specs.Stands.{row}
use Rattle.paper.specs.Terms.{wrong_count}

-- How many rows of n slots are all there.
abbrev pub rows : ℕ → List ℕ → ℕ
rows n clocks = length clocks / n

-- One of two positions is not below a count.
abbrev pub not_both : ℕ → ℕ → ℕ → Bool
not_both count a b = not (ltb a count) || not (ltb b count)

-- 4 where n is not 1 to 32 or a row is not all there, or the verdict on the two rows.
unfoldable pub row_verdict : ℕ → List ℕ → ℕ → ℕ → Outcome ℕ
row_verdict n clocks a b =
    outcome (of_call (first (wrong_count n) 4 (first (not_both (rows n clocks) a b) 4 0))) (verdict n (row n clocks a) (row n clocks b))
