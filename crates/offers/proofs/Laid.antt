-- What a part of a list is written over with, as a run of stores.
use Prim.Native.Nat.{ℕ, ◌+◌, ◌≤◌}
use mathlib.Core.List.{List, append_assoc}
use mathlib.Core.Path.{◌≡◌}
use native.Mathlib.Omega.{arith}
use lib.ListN.{length, take}
use lib.Seq.{sets, sets-eq, length-take-le, drop-drop}
use borrow.Rule.Slice.PartMut.{put_mid}
use Rattle.paper.specs.Clock.{Clock, part}
use Rattle.paper.specs.Stamp.{upto}
use Rattle.paper.proofs.Laws.Masks.{take_upto}

pub laid : (v : Clock) (l : List ℕ) (at n : ℕ) {k j : ℕ} {w : List ℕ} → n ≤ length v → at + n ≤ length l → k ≡ n → j ≡ n → w ≡ take j v
    → put_mid at k l w ≡ sets l at (upto (part v) n)
laid v l at n few room q r f =
    let front : length (take n v) ≡ n = length-take-le n v few in
    let fits : at + length (take n v) ≤ length l = omega (arith, front) in
    rw (q, f, r, drop-drop, ← take_upto v n few, sets-eq (take n v) l at fits, append_assoc, front)
