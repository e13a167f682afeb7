-- Tidying: each buffer is zeroed behind what was stored in it.
use Rattle.course.specs.Said.{work}
use Rattle.course.proofs.Clearing.{filled}
use Rattle.course.proofs.tidy.Goals as goal

pub returns : goal.returns
returns c =
    let t = c.requires in
    let masks = filled _ _ _ _ t.accepted t.mask (c.fill.ensures.after (λ y e. e)) in
    λ i. work (c.zero.ensures i) (masks i) (c.zero-2.ensures i)
