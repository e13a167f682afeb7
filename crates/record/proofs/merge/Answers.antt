-- A receive, for every input: where the limits hold the stamp is taken in, and elsewhere the record stays.
use Prim.Native.Nat.{◌+◌}
use mathlib.Core.Path.{sym, ◌∙◌}
use native.Mathlib.Omega.{arith}
use borrow.Author.Tests.{leb-true}
use lib.Count.{ones}
use lib.ListN.{length}
use Rattle.record.proofs.Bits.{ones_bits}
use Rattle.record.proofs.Outcomes.{merged}
use Rattle.record.proofs.merge.Goals as goal

pub take-requires : goal.take-requires
take-requires c =
    let a = c.args in
    omega (arith, ones_bits a.mask (omega (arith, c.ranges.mask)), leb-true (a.at + ones a.mask) (length a.values.now) (sym c.has_values.ensures ∙ c.if-not-has_values.false))

pub returns : goal.returns
returns c =
    let a = c.args in
    merged a.running.now _ a.by.0 _ a.mask a.values.now a.at (record { clock = omega arith; updated = omega arith; sent = omega arith })
    c.in-Some.ensures (sym c.has_values.ensures ∙ c.if-not-has_values.false) c.take.ensures
