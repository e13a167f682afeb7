-- The text over slots that begin with the marks is that of the marks.
use Prim.Native.Nat.{ℕ, ◌≤◌, ◌<◌}
use mathlib.Core.List.{List, ◌++◌}
use mathlib.Core.Path.{◌≡◌, ap}
use borrow.Author.Tests.{le-leb}
use lib.ListN.{length, take}
use lib.Seq.{length-take-le}
use Rattle.std.proofs.lemmas.List.{get_or-take}
use Rattle.paper.specs.Buffers.{laid}
use Rattle.paper.specs.Bytes.{byte, text}
use Rattle.paper.specs.Listing.{decimal, word}
use Rattle.paper.proofs.Stands.{laid_there}
use Rattle.lines.specs.Text.{each}
use Rattle.lines.specs.Marker.{mark_line, total_line, marker_lines, marker_text}
use Rattle.lines.proofs.Faithful.{each_same, laid_enough}

mark_same : (l m : List ℕ) (j : ℕ) → byte l j ≡ byte m j → mark_line l j ≡ mark_line m j
unfolding mark_line
mark_same l m j e = ap (λ (x : ℕ). decimal j ++ word x ++ text "\n") e

-- The lines of the first k marks are the first k lines.
pub first_marks : (l : List ℕ) (k : ℕ) → k ≤ length l → each (mark_line (take k l)) (length (take k l)) ≡ each (mark_line l) k
first_marks l k h =
    rw (length-take-le k l h) (each_same _ _ k (λ j i. mark_same (take k l) l j (get_or-take k l j 0 i)))

pub marker_after : (ms old : List ℕ) (total : ℕ) → length ms ≤ 200 → marker_text (laid (length ms) ms old) total (length ms) ≡ marker_lines ms total
unfolding marker_text marker_lines
marker_after ms old total h =
    simp (le-leb _ _ h, le-leb _ _ (laid_enough (length ms) ms old))
    (ap (λ (l : List ℕ). l ++ total_line total (length ms)) (each_same (mark_line (laid (length ms) ms old)) (mark_line ms) (length ms) line))
  where
    line : (j : ℕ) → j < length ms → mark_line (laid (length ms) ms old) j ≡ mark_line ms j
    line j l = mark_same _ _ j (laid_there (length ms) ms old j l)
