-- For callers that go on after the events: clearing what stands in the slots leaves what a later refusal leaves.
use mathlib.Core.List.{List, []}
use mathlib.Core.Path.{◌≡◌}
use Prim.Native.Nat.{ℕ, ◌*◌, ◌≤◌}
use native.Mathlib.Omega.{arith}
use lib.ListN.{length}
use borrow.Author.Tests.{le-ltb, le-leb}
use Rattle.paper.specs.Buffers.{Work, laid, filled, cleared}
use Rattle.paper.specs.Event.{how_many}
use Rattle.paper.specs.Stands.{Held}
use Rattle.paper.specs.Terms.{Terms}
use Rattle.paper.proofs.Stands.{laid_again, small, brief, still, cleared_again}
use Rattle.paper.proofs.Laws.Stores.{length_laid}
use Rattle.course.specs.Said.{wiped, wiped_slots}

pub wiped_held : {terms : Terms} {list : List ℕ} {w w' : Work} → Held terms list w w' → wiped terms.processes (how_many list) w' ≡ cleared terms (how_many list) w
unfolding filled
wiped_held {terms} {list} {w} {w'} h =
    let n = terms.processes in
    let m = how_many list in
    let s = still h in
    rw (
      le-ltb 32 n (small h),
      le-ltb 512 m (brief h),
      le-ltb (length w'.clocks) (n * m) s.clocks,
      le-ltb (length w'.masks) m s.masks,
      le-ltb (length w'.values) (n * m) s.values,
    )
    (cleared_again h)

pub wiped_further : (m : ℕ) (xs old : List ℕ) → length xs ≤ m → m ≤ length old → wiped_slots m (laid m xs old) ≡ laid m [] old
wiped_further m xs old few long =
    let l : length (laid m xs old) ≡ length old = length_laid m xs old few long in
    rw (le-leb m (length (laid m xs old)) (omega arith)) (laid_again m xs old few)
