-- `decimal_right`: the bytes that are printed of a number below 10 ^ 20 are its decimal digits. The last digit is the rest by 10, and those before it are
-- the digits of the tenth part.
use Prim.Native.Nat.{ℕ, zero, suc, ◌+◌, ◌-◌, ◌*◌, ◌/◌, ◌%◌, ◌^◌, ◌≤◌, ◌<◌}
use native.Mathlib.Decide.{dec_lt}
use native.Mathlib.Nat.{pow-suc}
use native.Mathlib.Omega.{arith}
use mathlib.Core.Path.{◌≡◌, refl, sym, ◌∙◌}
use mathlib.Core.Bool.{Bool, true, false, cond}
use mathlib.Core.List.{List, [], ◌∷◌, ◌++◌}
use lib.Dec.{ltb}
use lib.ListN.{length, get_or, length-append, get_or-append}
use lib.Seq.{get_or-append_seam}
use borrow.Author.Tests.{ltb-true, ltb-false}
use Rattle.paper.specs.Claims.Decimal.{value_behind, Decimal}
use Rattle.paper.specs.Listing.{digits, decimal}

-- One digit more.
value_more : (ds : List ℕ) (x d : ℕ) → value_behind x (ds ++ (d ∷ [])) ≡ 10 * value_behind x ds + (d - 48)
unfolding value_behind
value_more [] x d = refl
value_more (c ∷ ds) x d = value_more ds (10 * x + (c - 48)) d

-- A single digit.
value_one : (ds : List ℕ) → length ds ≡ 1 → value_behind 0 ds ≡ get_or ds 0 0 - 48
unfolding value_behind
value_one [] h = absurd (omega arith)
value_one (d ∷ []) h = omega arith
value_one (d ∷ e ∷ ds) h = absurd (omega arith)

one_digit : (x : ℕ) → x < 10 → Decimal x ((48 + x) ∷ [])
unfolding value_behind
one_digit x h =
    record {
      some = omega arith;
      digits = only;
      value = omega arith;
      no_leading_zero = λ l. absurd (omega arith);
    }
  where
    only : (i : ℕ) → i < 1 → (48 ≤ get_or ((48 + x) ∷ []) i 0) × (get_or ((48 + x) ∷ []) i 0 ≤ 57)
    only zero l = (omega arith, omega arith)
    only (suc i) l = absurd (omega arith)

more_digits : (x : ℕ) (ds : List ℕ) → 10 ≤ x → Decimal (x / 10) ds → Decimal x (ds ++ ((48 + x % 10) ∷ []))
more_digits x ds h t =
    let d : ℕ = 48 + x % 10 in
    let long = length-append ds (d ∷ []) in
    record {
      some = omega arith;
      digits = λ i l. each i (dec_lt i (length ds)) l;
      value = value_more ds 0 d ∙ omega (arith, t.value);
      no_leading_zero = λ l q. leads (dec_lt 1 (length ds)) (sym (get_or-append ds (d ∷ []) 0 0 t.some) ∙ q);
    }
  where
    each :
        (i : ℕ) → Dec (i < length ds) → i < length (ds ++ ((48 + x % 10) ∷ []))
        → (48 ≤ get_or (ds ++ ((48 + x % 10) ∷ [])) i 0) × (get_or (ds ++ ((48 + x % 10) ∷ [])) i 0 ≤ 57)
    each i (yes l) m = rw (get_or-append ds ((48 + x % 10) ∷ []) 0 i l) (t.digits i l)
    each i (no l) m =
        let e : i ≡ length ds = omega (arith, length-append ds ((48 + x % 10) ∷ [])) in
        rw (e, get_or-append_seam ds (48 + x % 10) [] 0) (omega arith, omega arith)

    leads : Dec (1 < length ds) → get_or ds 0 0 ≡ 48 → ⊥
    leads (yes l) q = t.no_leading_zero l q
    leads (no l) q = omega (arith, value_one ds (omega (arith, t.some)), t.value)

digits_right : (k x : ℕ) → x < 10 ^ suc k → Decimal x (digits k x)
unfolding digits
digits_right zero x h =
    let e : x % 10 ≡ x = omega arith in
    rw e (one_digit x (omega arith))
digits_right (suc k) x h = go (digits_right k (x / 10) (omega (arith, pow-suc 10 (suc k)))) (ltb x 10) refl
  where
    go :
        Decimal (x / 10) (digits k (x / 10)) → (b : Bool) → ltb x 10 ≡ b
        → Decimal x (cond b ((48 + x) ∷ []) (digits k (x / 10) ++ ((48 + x % 10) ∷ [])))
    go t true e = one_digit x (ltb-true x 10 e)
    go t false e = more_digits x (digits k (x / 10)) (ltb-false x 10 e) t

pub decimal_right : (x : ℕ) → x < 10 ^ 20 → Decimal x (decimal x)
unfolding decimal
decimal_right x h = digits_right 19 x h
