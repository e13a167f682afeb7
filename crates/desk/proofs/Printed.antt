-- A text that is printed.
use Rattle.std.specs.Prelude.{◌≡◌, ℕ, ◌≤◌, ◌+◌, List, ◌++◌, length, take, drop}
use Rattle.std.proofs.Common.{subst, ap, ◌∙◌, arith}
use Rattle.std.proofs.Math.Seq.{length-sets, take-append_seam}
use Rattle.std.proofs.lemmas.List.Edits.{sets-eq}
use Rattle.lines.specs.Text.{Printed}

-- It is printed as every text equal to it.
pub printed_as : {l t u m : List ℕ} {r : ℕ} → t ≡ u → Printed l t r m → Printed l u r m
printed_as {l} {t} {u} {m} {r} e p = subst (λ (x : List ℕ). Printed l x r m) e p

-- It is the first r bytes of a page.
pub printed_front : {l t m : List ℕ} {r : ℕ} → Printed l t r m → length m ≡ 500000 → take r m ≡ t
printed_front {l} {t} {m} {r} p whole =
    let room : 0 + length t ≤ length l = omega (arith, p.size, p.short, whole, ap length p.bytes, length-sets l 0 t) in
    let rest = drop (0 + length t) l in
    ap (take r) (p.bytes ∙ sets-eq t l 0 room) ∙ ap (λ k. take k (t ++ rest)) p.size ∙ take-append_seam t rest
