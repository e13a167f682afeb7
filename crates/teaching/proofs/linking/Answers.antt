-- 20, 22 and 21, then the walk.
use native.Mathlib.Omega.{arith}
use mathlib.Core.Path.{refl}
use Rattle.clock.proofs.Checks.{some_check}
use Rattle.teaching.proofs.Linked.{link_late, link_ready, link_done}
use Rattle.teaching.proofs.linking.Goals as goal

pub returns-in-Err : goal.returns-in-Err
returns-in-Err c = link_late (record { is = c.in-Err.ensures }) (λ e. omega (arith, some_check c.in-Err.check)) c.from.ensures c.clear.ensures

pub walk-requires : goal.walk-requires
walk-requires c = link_ready (record { is = c.in_default.ensures }) refl c.requires

pub returns : goal.returns
returns c = link_done (record { is = c.in_default.ensures }) refl c.walk.ensures.0 c.walk.ensures.1
