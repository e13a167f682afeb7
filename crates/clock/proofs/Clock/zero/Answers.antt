use mathlib.Core.Path.{refl}
use Rattle.paper.specs.Clock.{zero_clock}
use Rattle.clock.proofs.Clock.zero.Goals as goal

pub returns : goal.returns
unfolding zero_clock
returns c = refl
