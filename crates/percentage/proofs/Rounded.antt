-- `div_whole`: the quotient of two floats that are whole numbers is the exact fraction, rounded once. Each such float has its whole number as its value,
-- and equal fractions round alike.
use Prim.Native.Nat.{ℕ, ◌*◌, ◌^◌, ◌≤◌, ◌<◌}
use Rattle.paper.specs.Savings.{Counts, whole, unsent, percent, saving}
use Rattle.paper.proofs.SavedRight.{Bounds}
use mathlib.Core.Path.{◌≡◌, ap, ◌∙◌, sym}
use mathlib.Core.Bool.{false}
use mathlib.Core.Logic.{◌≢◌}
use native.Mathlib.Nat.{mul_assoc, mul_comm, mul-pos, mul-one, mul-le-mul}
use native.Mathlib.Omega.{arith}
use borrow.Author.Tests.{ne_eqb}
use lib.IntN.{pos}
use lib.Ieee.{Float, nan, inf, fin, Format, binary64, up, down, round, div, of_int}
use lib.Ieee.Fits.{down_pos}
use lib.Ieee.Exact.{HasValue}
use lib.Ieee.Scale.{round_same}
use lib.Ieee.Back.{round_whole}

-- (a · x · y) · b is a · (b · y · x)
cross : (a b x y : ℕ) → (a * x * y) * b ≡ a * (b * y * x)
cross a b x y =
    ap (λ (k : ℕ). k * b) (mul_assoc a x y) ∙ mul_assoc a (x * y) b
    ∙ ap (λ (k : ℕ). a * k) (mul_comm (x * y) b ∙ ap (λ (k : ℕ). b * k) (mul_comm x y) ∙ sym (mul_assoc b y x))

div_at : (f : Format) (x y : Float) (a b : ℕ) → 0 < b → HasValue x false a 1 → HasValue y false b 1 → div f x y ≡ round f false a b
unfolding div
div_at f nan y a b p hx hy = absurd hx
div_at f (inf s) y a b p hx hy = absurd hx
div_at f (fin s m e) nan a b p hx hy = absurd hy
div_at f (fin s m e) (inf t) a b p hx hy = absurd hy
div_at f (fin s m e) (fin t n d) a b p hx hy =
    let ex : m * up e ≡ a * down e = sym (mul-one (m * up e)) ∙ hx.1 in
    let ey : n * up d ≡ b * down d = sym (mul-one (n * up d)) ∙ hy.1 in
    let y_pos : 0 < b * down d = mul-pos p (down_pos d) in
    let some : n ≡ 0 → ⊥ = λ z. let q : 0 * up d ≡ b * down d = ap (λ (k : ℕ). k * up d) (sym z) ∙ ey in omega arith in
    simp (ne_eqb n 0 some, hx.0, hy.0)
    (round_same f false (m * up e * down d) (n * up d * down e) a b
    (rw ey (mul-pos y_pos (down_pos e))) p (rw (ex, ey) (cross a b (down e) (down d))))

pub div_whole : (n m : ℕ) → 0 < m → n ≤ 2 ^ 53 → m ≤ 2 ^ 53 → div binary64 (of_int binary64 (pos n)) (of_int binary64 (pos m)) ≡ round binary64 false n m
unfolding of_int
div_whole n m p hn hm = div_at binary64 (round binary64 false n 1) (round binary64 false m 1) n m p (round_whole binary64 false n hn) (round_whole binary64 false m hm)

-- The counts of a sheet are small.
pub whole_few : (c : Counts) → Bounds c → whole c ≤ 16384
whole_few c b = mul-le-mul b.few b.brief

-- So the division is the saving where there is a send.
pub figure_right :
    (c : Counts) → Bounds c → c.sends ≢ 0
    → percent (div binary64 (of_int binary64 (pos (100 * unsent c))) (of_int binary64 (pos (whole c)))) ≡ saving c
unfolding saving
figure_right c b some =
    let few = whole_few c b in
    let above : 0 < whole c = mul-pos b.some (omega arith) in
    rw (ne_eqb c.sends 0 some) (ap percent (div_whole (100 * unsent c) (whole c) above (omega arith) (omega arith)))
