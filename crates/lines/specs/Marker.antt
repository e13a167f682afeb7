-- What `marker` prints, byte for byte.
use Rattle.std.specs.Prelude.{ℕ, cond, ◌&&◌, List, [], ◌++◌, leb, length}
use Rattle.paper.specs.Bytes.{byte, text}
use Rattle.paper.specs.Listing.{decimal, word}
use Rattle.lines.specs.Text.{each}

-- A line of the pupil's list: its place from 0, and its mark.
unfoldable pub mark_line : List ℕ → ℕ → List ℕ
mark_line marks j = decimal j ++ word (byte marks j) ++ text "\n"

-- At the end `total T of L`.
unfoldable pub total_line : ℕ → ℕ → List ℕ
total_line total lines = text "total" ++ word total ++ text " of" ++ word lines ++ text "\n"

-- What `marker` prints of the marks of all lines and their total.
unfoldable pub marker_lines : List ℕ → ℕ → List ℕ
marker_lines marks total = each (mark_line marks) (length marks) ++ total_line total (length marks)

-- The same of the first k slots of some marks; nothing where there are fewer, or k is over 200.
unfoldable pub marker_text : List ℕ → ℕ → ℕ → List ℕ
marker_text marks total k = cond (leb k 200 && leb k (length marks)) (each (mark_line marks) k ++ total_line total k) []
