-- What is read is told by its terms, its values and where its list lies, which the sheet settles: the reader's promise allows one answer.
use Prim.Native.Nat.{ℕ}
use mathlib.Core.List.{List}
use mathlib.Core.Path.{◌≡◌, sym, ap, ◌∙◌}
use Rattle.std.specs.Prelude.{Result, Ok, Err}
use Rattle.clock.specs.declared.Refusal.{Refusal}
use Rattle.clock.proofs.One.{one_refusal, one_stated}
use Rattle.paper.proofs.OneOutcome.{same_refused, same_done, not_both}
use Rattle.paper.specs.Reading.{Read}
use Rattle.sheet.specs.Said.{read_as, Where}
use Rattle.sheet.specs.declared.Contents.{Contents}

pub one_reading : (b : List ℕ) (r s : Result Contents Refusal) → read_as b r ≡ read_as b s → Where b r → Where b s → r ≡ s
one_reading b (Err r) (Err s) h p q = ap Err (one_refusal r s (same_refused h))
one_reading b (Ok c) (Ok d) h (at, long) (at', long') =
    let e = same_done h in
    let t = one_stated c.terms d.terms (ap (λ (x : Read). x.terms) e) in
    let from = at ∙ sym at' in
    let size = long ∙ sym long' in
    λ i. Ok (record { terms = t i; offset = from i; size = size i; carried = (e i).carried })
one_reading b (Err r) (Ok d) h p q = absurd (not_both h)
one_reading b (Ok c) (Err s) h p q = absurd (not_both (sym h))
