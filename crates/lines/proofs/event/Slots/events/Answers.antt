use native.Mathlib.Omega.{arith}
use mathlib.Core.Path.{refl}
use Rattle.lines.proofs.Slots.{fits}
use Rattle.lines.proofs.event.Slots.events.Goals as goal

pub returns : goal.returns
returns c = let f = fits _ _ _ _ c.args.self.now.fit in (refl, omega (arith, f.short))
