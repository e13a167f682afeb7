use mathlib.Core.Path.{◌≡◌}
use Rattle.paper.specs.Stamp.{mask}
use Rattle.record.specs.View.{newer}
use Rattle.record.proofs.row.grown.Given as goal

abbrev pub invariant-loop-k : goal.invariant-loop-k
invariant-loop-k l = l.m ≡ mask (newer l.updated l.last) l.k
