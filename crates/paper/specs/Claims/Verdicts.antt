-- What a verdict says (the paper, "Before, after, neither"; theorems `verdict_right`, of two accepted events, and `lent_right`, of two lent clocks).
use Rattle.std.specs.Prelude.{ℕ, ◌≡◌, ◌↔◌}

-- 1 the first is below, 2 the second is below, 4 they are equal, 3 none of these; and below and equal may be said in another way.
pub record Right (x : ℕ) (P Q E : Type 0) : Type 0 where
  pub first : (x ≡ 1) ↔ P
  pub second : (x ≡ 2) ↔ Q
  pub equal : (x ≡ 4) ↔ E
  pub neither : (x ≡ 3) ↔ ((E → ⊥) × (P → ⊥) × (Q → ⊥))
