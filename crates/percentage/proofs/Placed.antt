-- The percentage in its slot, and the two cases of what is left to do once a sheet is counted.
use Prim.Native.Nat.{◌≤◌}
use mathlib.Core.Path.{◌≡◌, refl, ap, ◌∙◌}
use mathlib.Core.List.{List}
use lib.Ieee.{Float}
use lib.ListN.{length, set}
use borrow.Author.Tests.{le-ltb}
use Rattle.paper.specs.Buffers.{Work}
use Rattle.paper.specs.Refusals.{done}
use Rattle.paper.specs.Savings.{Counts, Saving, no_messages, percent, saving, stored}
use Rattle.percentage.specs.Slots.{placing}

pub put_none : (s : Saving) (out : List Float) → s ≡ no_messages → out ≡ stored s out
unfolding stored
put_none s out e = rw e refl

pub put_first : (s : Saving) (out : List Float) (x : Float) → s ≡ percent x → set out 0 x ≡ stored s out
unfolding stored
put_first s out x e = rw e refl

module _ (c : Counts) (w : Work) (out : List Float) where
  pub placing_done : {s : Saving} {out' : List Float} → 1 ≤ length out → s ≡ saving c → out' ≡ stored s out → ((done s, w), out') ≡ placing c w out
  placing_done h e o =
      let p = o ∙ ap (λ x. stored x out) e in
      rw (le-ltb (length out) 1 h) (λ i. ((done (e i), w), p i))
