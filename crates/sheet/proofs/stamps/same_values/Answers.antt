use mathlib.Core.List.{flat_map}
use Rattle.std.proofs.Common.{rules}
use Rattle.sheet.proofs.Compared.{same_values}
use Rattle.sheet.proofs.stamps.same_values.Goals as goal

pub returns : goal.returns
unfolding flat_map
returns c =
    let i = c.loop-j.invariant in
    same_values c.args.values.now c.args.bytes.now (λ k. (c.type_inv.values k).fits) (λ k. (c.type_inv.bytes k).fits) c.requires c.loop-j.same
    (λ e. search rules) (λ e. search rules)
