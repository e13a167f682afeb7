-- What is counted and what is left to count are the whole size.
use native.Mathlib.Omega.{arith}
use Rattle.layout.proofs.Sizes.{size_more, size_end}
use Rattle.layout.proofs.store.Listed.stamps_size.Goals as goal

pub loop-i-preserved : goal.loop-i-preserved
loop-i-preserved c =
    let a = c.args in
    let size = rw c.kind_at.ensures at c.piece_size-size.ensures.0 in (
      omega (arith, c.loop-i.invariant.0, size_more a.self.list.now a.masks.now c.loop-i.i c.loop-i-test.true, size),
      omega arith,
    )

pub returns : goal.returns
returns c =
    let a = c.args in
    let i = c.loop-i.invariant in
    (omega (arith, i.0, size_end a.self.list.now a.masks.now c.loop-i.i c.loop-i-test.false), omega arith)
