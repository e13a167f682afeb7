-- What a public function prints, and texts of many lines.
use Prim.Native.Nat.{ℕ, ◌+◌, ◌*◌, ◌^◌, ◌≤◌, ◌<◌}
use mathlib.Core.Path.{◌≡◌, refl, sym}
use mathlib.Core.List.{List, []}
use native.Mathlib.Numerals.{add-one}
use native.Mathlib.Omega.{arith}
use lib.ListN.{length, take, drop}
use lib.Seq.{sets-eq, take_at}
use Rattle.octets.specs.Appended.{Appended}
use Rattle.octets.proofs.Appended.{none, join}
use Rattle.lines.specs.Text.{Printed, each}

-- From the start on, and no text there.
pub printed : {l m t : List ℕ} {r : ℕ} → Appended l 0 t r m → r ≤ 500000 → Printed l t r m
printed a s = record { size = omega (arith, a.place); bytes = a.bytes; short = s }

pub unprinted : (l : List ℕ) → Printed l [] 0 l
unprinted l = record { size = refl; bytes = refl; short = omega arith }

-- The texts of all i below k are written, in at most 800 bytes each.
pub record Lined (f : ℕ → List ℕ) (l : List ℕ) (at k i : ℕ) (m : List ℕ) : Type 0 where
  pub short : k ≤ at + 800 * i
  pub is : Appended l at (each f i) k m

pub lined_none : (f : ℕ → List ℕ) (l : List ℕ) (at : ℕ) → length l < 2 ^ 64 → at < 2 ^ 64 → Lined f l at at 0 l
unfolding each
lined_none f l at h s = record { short = omega arith; is = none l at h s }

pub lined_more : (f : ℕ → List ℕ) {l m n : List ℕ} {at k i r : ℕ} → Lined f l at k i m → Appended m k (f i) r n → r ≤ k + 800 → Lined f l at r (i + 1) n
unfolding each
lined_more f {l} {m} {n} {at} {k} {i} {r} a b s = record { short = omega (arith, a.short); is = rw add-one (join a.is b) }

pub lined_all : (f : ℕ → List ℕ) {l m : List ℕ} {at k i : ℕ} (end : ℕ) → Lined f l at k i m → i ≤ end → end ≤ i → Appended l at (each f end) k m
lined_all f {l} {m} {at} {k} {i} end a h h' = let e : i ≡ end = omega arith in rw e at a.is

-- Half a million bytes are not too short: the first r of them are then the text.
pub whole : {l t m : List ℕ} {r : ℕ} → Printed l t r m → 500000 ≤ length l → take r m ≡ t
whole {l} {t} {m} {r} p h =
    let fits : 0 + length t ≤ length l = omega (arith, p.size, p.short) in
    rw (p.bytes, sets-eq t l 0 fits) (take_at t (drop (0 + length t) l) r (sym p.size))
