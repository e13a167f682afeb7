-- Sheets are refused as in reading, and lists as on the strict course, by every call that looks at more (the paper, "Refusal numbers"; requests 2 and 5; theorems
-- `as_in_reading` and `as_on_the_course`): the same number and position, the same work buffers, and outputs untouched.
use Rattle.std.specs.Prelude.{ℕ, ◌≡◌, false, List, Float}
use Rattle.paper.specs.Buffers.{Work}
use Rattle.paper.specs.Figures.{Position}
use Rattle.paper.specs.Marking.{wrong_lines, marking}
use Rattle.paper.specs.Questions.{writing, comparing, chaining, comparing_sheet, chaining_sheet}
use Rattle.paper.specs.Refusals.{Refusal, refused}
use Rattle.paper.specs.Savings.{tallying, savings, storing}
use Rattle.paper.specs.Terms.{Terms}

-- Where reading b refuses with r and leaves v; of marking 30 comes first.
pub record AsInReading (b : List ℕ) (w : Work) (r : Refusal) (v : Work) : Type 0 where
  pub compared : (i j : Position) → comparing_sheet b w i j ≡ (refused r, v)
  pub chained : (i j : Position) (out : List ℕ) → chaining_sheet b w i j out ≡ ((refused r, v), out)
  pub marked : (lines out : List ℕ) → wrong_lines lines ≡ false → marking b lines w out ≡ ((refused r, v), out)
  pub tallied : tallying b w ≡ (refused r, v)
  pub saved : savings b w ≡ (refused r, v)
  pub stored : (out : List Float) → storing b w out ≡ ((refused r, v), out)

-- Where the strict course of a list refuses with r and leaves v.
pub record AsOnTheCourse (t : Terms) (list : List ℕ) (w : Work) (r : Refusal) (v : Work) : Type 0 where
  pub written : (out : List ℕ) → writing t list w out ≡ ((refused r, v), out)
  pub compared : (i j : Position) → comparing t list w i j ≡ (refused r, v)
  pub chained : (i j : Position) (out : List ℕ) → chaining t list w i j out ≡ ((refused r, v), out)
