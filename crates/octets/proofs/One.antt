-- A store's promise allows one outcome: the place behind the bytes, and the slice.
use Prim.Native.Nat.{ℕ}
use mathlib.Core.List.{List}
use mathlib.Core.Path.{◌≡◌, sym, ◌∙◌}
use Rattle.octets.specs.Appended.{Appended}

pub one_appended : {l t m n : List ℕ} {at r s : ℕ} → Appended l at t r m → Appended l at t s n → (r ≡ s) × (m ≡ n)
one_appended p q = (p.place ∙ sym q.place, p.bytes ∙ sym q.bytes)
