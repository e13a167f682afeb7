use Prim.Native.Nat.{ℕ}
use Rattle.oboefinch.specs.Packed.{chain_fields}
use Rattle.oboefinch.proofs.Calls.{chaining_small}
use Rattle.oboefinch.proofs.Given.{tells, small_output}
use Rattle.oboefinch.proofs.Plain as plain
use Rattle.oboefinch.proofs.oboefinch_chain.Goals as goal

pub packed-requires : goal.packed-requires
packed-requires c =
    let e = plain.chain c.plain-terms.ensures _ _ _ _ _ c.chain.ensures in
    small_output (tells (λ (k : ℕ). k) chain_fields _) e (chaining_small _ _ _ _ _ _)
