-- Numbers of a list written one behind another, each as a function says.
use Prim.Native.Nat.{ℕ, ◌+◌, ◌*◌, ◌^◌, ◌≤◌, ◌<◌}
use mathlib.Core.Path.{◌≡◌, sym, ap, ◌∙◌}
use mathlib.Core.List.{List, [], ◌∷◌, ◌++◌, append-nil, append_assoc, flat_map}
use native.Mathlib.Nat.{mul-suc}
use native.Mathlib.Numerals.{add-one}
use native.Mathlib.Omega.{arith}
use lib.ListN.{length, get_or, take}
use lib.Seq.{take-suc, take-length}
use Rattle.octets.specs.Appended.{Appended}
use Rattle.octets.proofs.Appended.{none, join}

-- The first i of the numbers xs are written, each as f says, in at most `most` bytes.
pub record Written (f : ℕ → List ℕ) (most : ℕ) (l xs : List ℕ) (at k i : ℕ) (m : List ℕ) : Type 0 where
  pub within : i ≤ length xs
  pub short : k ≤ at + most * i
  pub is : Appended l at (flat_map f (take i xs)) k m

module _ (f : ℕ → List ℕ) (most : ℕ) where
  flat_end : (xs : List ℕ) (x : ℕ) → flat_map f (xs ++ (x ∷ [])) ≡ flat_map f xs ++ f x
  unfolding flat_map
  flat_end [] x = append-nil (f x)
  flat_end (y ∷ xs) x = ap (λ (l : List ℕ). f y ++ l) (flat_end xs x) ∙ sym (append_assoc (f y) (flat_map f xs) (f x))

  pub written_none : (l xs : List ℕ) (at : ℕ) → length l < 2 ^ 64 → at < 2 ^ 64 → Written f most l xs at at 0 l
  unfolding flat_map
  written_none l xs at h s = record { within = omega arith; short = omega arith; is = none l at h s }

  pub written_more :
      {l xs m n : List ℕ} {at k i r : ℕ} → Written f most l xs at k i m → i < length xs → Appended m k (f (get_or xs i 0)) r n → r ≤ k + most
      → Written f most l xs at r (i + 1) n
  written_more {l} {xs} {m} {n} {at} {k} {i} {r} a h b s =
      let e : most * (i + 1) ≡ most * i + most = rw add-one (mul-suc most i) in
      record {
        within = omega arith;
        short = omega (arith, a.short);
        is = rw (add-one, take-suc xs i 0, flat_end) (join a.is b);
      }

  pub written_all : {l xs m : List ℕ} {at k i : ℕ} → Written f most l xs at k i m → length xs ≤ i → Appended l at (flat_map f xs) k m
  written_all {l} {xs} {m} {at} {k} {i} a h =
      let e : i ≡ length xs = omega (arith, a.within) in
      let t : take i xs ≡ xs = ap (λ (j : ℕ). take j xs) e ∙ take-length xs in
      rw t at a.is
