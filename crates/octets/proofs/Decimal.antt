-- A number's decimal digits.
use Prim.Native.Nat.{ℕ, zero, suc, ◌+◌, ◌*◌, ◌/◌, ◌%◌, ◌^◌, ◌≤◌, ◌<◌}
use mathlib.Core.Path.{◌≡◌, ap, ◌∙◌}
use mathlib.Core.Bool.{Bool, true, false, cond}
use mathlib.Core.List.{List, [], ◌∷◌, ◌++◌}
use native.Mathlib.Nat.{pow-suc}
use native.Mathlib.Omega.{arith}
use borrow.Author.Tests.{lt-ltb, le-ltb}
use lib.Dec.{ltb}
use lib.ListN.{length, length-append}
use Rattle.paper.specs.Listing.{digits, decimal}

digits_more : (k x : ℕ) → x < 10 ^ suc k → digits k x ≡ digits (suc k) x
unfolding digits
digits_more zero x h = let e : x % 10 ≡ x = omega arith in simp (lt-ltb x 10 (omega arith), e)
digits_more (suc k) x h =
    let h' : x < 10 ^ suc k * 10 = rw pow-suc at h in
    ap (λ (l : List ℕ). cond (ltb x 10) ((48 + x) ∷ []) (l ++ ((48 + x % 10) ∷ []))) (digits_more k (x / 10) (omega arith))

decimal_one : (x : ℕ) → x < 10 → decimal x ≡ (48 + x) ∷ []
unfolding decimal digits
decimal_one x h = simp (lt-ltb x 10 h)

-- The digit that is put of a number of one digit.
pub put_one : (x : ℕ) {d : ℕ} → d ≡ 48 + x % 10 → x < 10 → d ∷ [] ≡ decimal x
put_one x e h = let q : 48 + x ≡ 48 + x % 10 = omega arith in rw (e, decimal_one x h, q)

decimal_more : (x : ℕ) → 10 ≤ x → x < 2 ^ 64 → decimal x ≡ decimal (x / 10) ++ ((48 + x % 10) ∷ [])
unfolding decimal digits
decimal_more x h l = step 18 ∙ ap (λ (t : List ℕ). t ++ ((48 + x % 10) ∷ [])) (digits_more 18 (x / 10) (omega arith))
  where
    step : (k : ℕ) → digits (suc k) x ≡ digits k (x / 10) ++ ((48 + x % 10) ∷ [])
    step k = simp (le-ltb x 10 h)

-- The digit that is put behind all but the last.
pub put_more : (x : ℕ) {d : ℕ} → d ≡ 48 + x % 10 → 10 ≤ x → x < 2 ^ 64 → decimal (x / 10) ++ (d ∷ []) ≡ decimal x
put_more x e h l = rw (e, decimal_more x h l)

digits_length : (k x : ℕ) → length (digits k x) ≤ suc k
unfolding digits
digits_length zero x = omega arith
digits_length (suc k) x = go (ltb x 10) (digits_length k (x / 10))
  where
    go : (b : Bool) → length (digits k (x / 10)) ≤ suc k → length (cond b ((48 + x) ∷ []) (digits k (x / 10) ++ ((48 + x % 10) ∷ []))) ≤ suc (suc k)
    go true h = omega arith
    go false h = omega (arith, length-append (digits k (x / 10)) ((48 + x % 10) ∷ []))

pub decimal_length : (x : ℕ) → length (decimal x) ≤ 20
unfolding decimal
decimal_length x = digits_length 19 x
