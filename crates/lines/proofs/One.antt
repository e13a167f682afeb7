-- A text's promise allows one outcome: its length and the page.
use Prim.Native.Nat.{ℕ}
use mathlib.Core.List.{List}
use mathlib.Core.Path.{◌≡◌, sym, ◌∙◌}
use Rattle.lines.specs.Text.{Printed}

pub one_printed : {l t m n : List ℕ} {r s : ℕ} → Printed l t r m → Printed l t s n → (r ≡ s) × (m ≡ n)
one_printed p q = (p.size ∙ sym q.size, p.bytes ∙ sym q.bytes)
