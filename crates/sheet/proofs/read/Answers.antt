-- Reading with 512 slots of its own for Lamport numbers, which say nothing in the answer.
use mathlib.Core.Path.{ap, ◌∙◌}
use Prim.Native.Nat.{ℕ}
use lib.ListN.{length-replicate}
use Rattle.course.specs.Said.{work}
use native.Mathlib.Omega.{arith}
use Rattle.paper.proofs.Ample.{reading_unasked}
use Rattle.sheet.proofs.read.Goals as goal

pub returns : goal.returns
returns c =
    let a = c.args in
    let r = c.read_lamport.ensures in
    record {
      reads = ap (λ p. p.0) r.numbers ∙ reading_unasked _ (omega (arith, length-replicate {A = ℕ} 512 0)) a.sheet.now (work a.clocks.now a.masks.now a.values.now);
      place = r.place;
    }
