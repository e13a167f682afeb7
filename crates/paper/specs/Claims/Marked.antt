-- What is claimed of the marks and the total (request 2; theorem `total_right`).
use Rattle.std.specs.Prelude.{ℕ, ◌≤◌, ◌<◌, ◌≡◌, ◌↔◌, List, get_or}
use Rattle.paper.specs.Machine.{Clocked}
use Rattle.paper.specs.Marking.{line_count, line_at, Marked, RightLine, NumberOf}

-- The marks and the total of lines on accepted events cs, where the slots lent for the marks held `out` and hold `out'` now.
pub record RightlyMarked (cs : List Clocked) (lines out out' : List ℕ) (m : Marked) : Type 0 where
  pub one : (j : ℕ) → j < line_count lines → (get_or out' j 0 ≡ 1) ↔ RightLine cs (line_at lines j)
  pub nothing : (j : ℕ) → j < line_count lines → (get_or out' j 0 ≡ 0) ↔ (RightLine cs (line_at lines j) → ⊥)
  pub untouched : (j : ℕ) → line_count lines ≤ j → get_or out' j 0 ≡ get_or out j 0
  pub total : NumberOf (λ j. RightLine cs (line_at lines j)) (line_count lines) m.total
  pub of_lines : m.lines ≡ line_count lines
