use Rattle.course.proofs.Clearing.{filled}
use Rattle.course.proofs.zero.Goals as goal

pub returns : goal.returns
returns c = filled _ _ _ _ c.requires.0 c.requires.1 (c.fill.ensures.after (λ y e. e))
