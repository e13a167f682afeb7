-- The largest place is behind the end of every slice: there is nothing to read or to store there.
use Prim.Native.Nat.{ℕ, suc, ◌+◌, ◌^◌, ◌≤◌, ◌<◌}
use mathlib.Core.Path.{◌≡◌, refl, sym, subst, ◌∙◌}
use mathlib.Core.Bool.{Bool, true, false}
use mathlib.Core.List.{List, [], ◌∷◌}
use native.Mathlib.Omega.{arith}
use borrow.Author.Tests.{ltb-true, ltb-false}
use lib.Dec.{ltb}
use lib.ListN.{length}
use lib.Seq.{sets, set_out}
use Rattle.octets.specs.Appended.{past}

-- What agrees with `at + k` as it stands, and behind the end, agrees with the place k bytes behind `at`.
pub past_cases : (P : ℕ → Type 0) (len at k : ℕ) → len < 2 ^ 64 → P (at + k) → ((i : ℕ) → len ≤ i → len ≤ at + k → P i) → P (past at k)
past_cases P len at k small here out = go (ltb 18446744073709551615 (at + k)) refl
  where
    go : (t : Bool) → ltb 18446744073709551615 (at + k) ≡ t → P (past at k)
    go true e =
        let h : 18446744073709551615 < at + k = ltb-true 18446744073709551615 (at + k) e in
        out (past at k) (omega arith) (omega arith)
    go false e =
        let h : at + k ≤ 18446744073709551615 = ltb-false 18446744073709551615 (at + k) e in
        let q : past at k ≡ at + k = omega arith in
        subst P (sym q) here

-- Behind the end nothing is stored.
pub sets_out : (t l : List ℕ) (i : ℕ) → length l ≤ i → sets l i t ≡ l
sets_out [] l i h = refl
sets_out (a ∷ t) l i h = rw (set_out l i a h) (sets_out t l (suc i) (omega arith))

pub sets_past : (t l : List ℕ) (at k : ℕ) → length l < 2 ^ 64 → sets l (past at k) t ≡ sets l (at + k) t
sets_past t l at k small =
    past_cases (λ (i : ℕ). sets l i t ≡ sets l (at + k) t) (length l) at k small refl
    (λ i h h'. sets_out t l i h ∙ sym (sets_out t l (at + k) h'))
