-- Fields that do not touch in the number: the first two are below 256, the others below 65,536, and each can be read back.
use Prim.Native.Nat.{◌/◌, ◌%◌}
use native.Mathlib.Omega.{arith}
use mathlib.Core.Path.{◌≡◌}
use lib.Dec.{eqb}
use borrow.Author.Tests.{eqb-true}
use Rattle.paper.specs.Refusals.{Refusal, outcome}
use Rattle.paper.proofs.Laws.Tables.{cond_cases}
pub use Rattle.oboefinch.specs.Packed.{Small}
use Rattle.oboefinch.specs.Packed.{Fields, packed, refusal_fields, fields}

-- Each field, from the number.
pub record ReadBack (f : Fields) : Type 0 where
  pub number : packed f % 256 ≡ f.number
  pub x : packed f / 256 % 256 ≡ f.x
  pub y : packed f / 65536 % 65536 ≡ f.y
  pub z : packed f / 4294967296 ≡ f.z

pub read_back : (f : Fields) → Small f → ReadBack f
read_back f s =
    record {
      number = omega (arith, s.number, s.x, s.y, s.z);
      x = omega (arith, s.number, s.x, s.y, s.z);
      y = omega (arith, s.number, s.x, s.y, s.z);
      z = omega (arith, s.number, s.x, s.y, s.z);
    }

-- A call's fields are small where those of its refusal and of its answer are.
pub outcome_small :
    {A : Type 0} (told : A → Fields) (r : Refusal) (a : A) → Small (refusal_fields r) → (r.number ≡ 0 → Small (told a))
    → Small (fields told (outcome r a))
outcome_small told r a s h =
    cond_cases (λ o. Small (fields told o)) (eqb r.number 0) _ _ (λ q. h (eqb-true r.number 0 q)) (λ q. s)
