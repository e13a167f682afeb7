-- The chain's line from its first position and the others, and the offers accepted so far.
use Prim.Native.Nat.{ℕ, zero, suc, ◌+◌, ◌-◌, ◌≤◌, ◌<◌}
use mathlib.Core.Path.{◌≡◌, refl}
use mathlib.Core.Bool.{Bool, true, false, cond}
use mathlib.Core.List.{List, [], ◌∷◌, ◌++◌}
use native.Mathlib.Omega.{arith}
use lib.Dec.{eqb}
use lib.ListN.{length, get_or, take, drop}
use lib.Seq.{take-length}
use mir.Val.{bool_byte}
use Rattle.paper.specs.Bytes.{byte, text}
use Rattle.paper.specs.Listing.{decimal, words}
use Rattle.lines.specs.Programs.{chain_line, accepted_before}

pub chain_none : (xs : List ℕ) → length xs < 1 → text "\n" ≡ chain_line xs
unfolding chain_line
chain_none [] h = refl
chain_none (x ∷ xs) h = let z : ⊥ = omega arith in absurd z

pub chain_is :
    (xs : List ℕ) {x : ℕ} → x ≡ get_or xs 0 0 → 1 ≤ length xs → decimal x ++ words (take (length xs - 1) (drop 1 xs)) ++ text "\n" ≡ chain_line xs
unfolding chain_line
chain_is [] e h = let z : ⊥ = omega arith in absurd z
chain_is (y ∷ ys) e h =
    let many : suc (length ys) - 1 ≡ length ys = omega arith in
    rw (e, many, take-length ys)

pub accepted_few : (answers : List ℕ) (k : ℕ) → accepted_before answers k ≤ k
unfolding accepted_before
accepted_few answers zero = omega arith
accepted_few answers (suc k) = go (eqb (byte answers k) 0) (accepted_few answers k)
  where
    go : (b : Bool) → accepted_before answers k ≤ k → accepted_before answers k + cond b 1 0 ≤ suc k
    go true h = omega arith
    go false h = omega arith

-- The number of a Bool: 1 or 0.
pub told : (b : Bool) {x : ℕ} → x ≡ bool_byte b → (x ≡ cond b 1 0) × (x ≤ 1)
told true e = (e, omega arith)
told false e = (e, omega arith)
