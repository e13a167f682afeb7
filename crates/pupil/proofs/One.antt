-- The map to the paper's outcomes is one to one: a promise in the paper's words allows one answer.
use mathlib.Core.Path.{◌≡◌}
use Rattle.std.specs.Prelude.{Result}
use Rattle.clock.specs.declared.Refusal as declared_refusal
use Rattle.clock.proofs.One.{one_told}
use Rattle.pupil.specs.Said.{mark, marked}
use Rattle.pupil.specs.declared.Marked as declared

one_mark : (x y : declared.Marked) → mark x ≡ mark y → x ≡ y
one_mark x y h = λ i. record { total = (h i).total; lines = (h i).lines }

pub one_marked : (r s : Result declared.Marked declared_refusal.Refusal) → marked r ≡ marked s → r ≡ s
one_marked r s h = one_told one_mark r s h
