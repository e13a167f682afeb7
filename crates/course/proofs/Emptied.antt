-- What `clear` does: where the named slots are lent they are set to 0, and otherwise nothing is written.
use Prim.Native.Nat.{ℕ, ◌*◌, ◌≤◌}
use native.Mathlib.Omega.{arith}
use mathlib.Core.Path.{◌≡◌, refl}
use mathlib.Core.Bool.{Bool, true, false, ◌||◌, not}
use mathlib.Core.List.{[], flat_map}
use lib.Dec.{ltb}
use lib.ListN.{length}
use Rattle.paper.specs.Buffers.{Work, filled, clock_slots, value_slots}
use Rattle.paper.specs.Clock.{most_processes, most_events}
use Rattle.paper.specs.Stamp.{stamps_after}
use Rattle.paper.proofs.Laws.Tests.{and_both}
use Rattle.paper.proofs.Sheets.Checks.{not_below, neither, none_of}
use borrow.Author.Tests.{not-true}
use Rattle.course.specs.Said.{wiped}
use Rattle.course.specs.Slots.{named, Tail, swept}
use Rattle.course.proofs.Tidied.{zeroed_cleared}

pub few : (n m : ℕ) → (ltb most_processes n || ltb most_events m) ≡ false → (n ≤ 32) × (m ≤ 512)
few n m h = (neither (ltb most_processes n) (ltb most_events m) (not_below most_processes n) (not_below most_events m)).0 h

module _ (n m : ℕ) (w : Work) where
  abbrev is_named : Bool
  is_named = named n m (length w.clocks) (length w.masks) (length w.values)

  pub room : is_named ≡ true → Tail n m 0 0 w
  room h =
      let c = ltb (length w.clocks) (n * m) in
      let k = ltb (length w.masks) m in
      let v = ltb (length w.values) (n * m) in
      let (small, lent) = and_both (not (ltb most_processes n || ltb most_events m)) (not (c || k || v)) h in
      let (p, q) = few n m (not-true _ small) in
      let r =
      (none_of c k v (not_below (length w.clocks) (n * m)) (not_below (length w.masks) m) (not_below (length w.values) (n * m))).0 (not-true _ lent) in
      record { few = p; short = q; accepted = omega arith; carried = omega arith; clock = r.0; mask = r.1; value = r.2 }

  pub swept_wiped : is_named ≡ true → swept n m 0 0 w ≡ wiped n m w
  unfolding filled clock_slots value_slots flat_map stamps_after
  swept_wiped h =
      let t = room h in
      let p : n * 0 ≡ 0 = omega arith in
      let x = zeroed_cleared (n * m) [] w.clocks {k = 0} refl refl (omega arith) t.clock in
      let y = zeroed_cleared m [] w.masks {k = 0} refl refl (omega arith) t.mask in
      let z = zeroed_cleared (n * m) [] w.values {k = 0} refl refl (omega arith) t.value in
      rw (h, p) (λ i. record { clocks = x i; masks = y i; values = z i })
