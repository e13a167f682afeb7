use mathlib.Core.List.{flat_map}
use Rattle.std.proofs.Common.{sym, ap, ◌∙◌, arith, refl, length}
use Rattle.std.proofs.lemmas.Slice.{between_to_end}
use Rattle.paper.specs.Bytes.{two_bytes}
use Rattle.paper.specs.Reading.{begins}
use Rattle.sheet.proofs.Compared.{ends_early, same_stamp}
use Rattle.sheet.proofs.stamps.is_recorded.Goals as goal

pub returns-then-bytes-size : goal.returns-then-bytes-size
returns-then-bytes-size c = let s = c.args.stamp in ends_early s.mask s.values.now _ (omega arith)

pub returns-then-starts_with : goal.returns-then-starts_with
unfolding flat_map
returns-then-starts_with c =
    let s = c.args.stamp in
    let b = c.args.bytes.now in
    let rest = between_to_end b 4 (length b) (omega arith) in
    same_stamp s.mask s.values.now _ _ _ (sym c.if-starts_with.true ∙ (rw c.to_le_bytes.ensures at c.starts_with.ensures.value))
    (c.same_values.ensures ∙ ap (begins (flat_map two_bytes s.values.now)) rest)

pub returns-else-starts_with : goal.returns-else-starts_with
returns-else-starts_with c =
    let s = c.args.stamp in
    c.if-starts_with.false
    ∙ same_stamp s.mask s.values.now _ _ _ (sym c.if-starts_with.false ∙ (rw c.to_le_bytes.ensures at c.starts_with.ensures.value)) refl
