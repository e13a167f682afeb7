-- The room that is looked for is that of the pieces that are put.
use mathlib.Core.List.{flatten}
use mathlib.Core.Path.{sym, ap, ◌∙◌}
use lib.ListN.{length}
use Rattle.layout.proofs.Sizes.{size_is}
use Rattle.layout.proofs.store.Listed.written.Goals as goal

pub put_sheet-requires : goal.put_sheet-requires
put_sheet-requires c =
    let a = c.args in
    c.stamps_size-stamped.ensures.0 ∙ sym (size_is a.self.list.now a.masks.now a.values.now c.requires) ∙ ap (λ ps. length (flatten ps)) (sym c.of.ensures.pieces)
