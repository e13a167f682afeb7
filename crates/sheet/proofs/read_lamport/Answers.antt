-- Reading: a header that refuses refuses the sheet and writes nothing.
use mathlib.Core.Path.{◌∙◌}
use Rattle.std.proofs.lemmas.Result.{err_from_is_err_and}
use Rattle.clock.specs.Check.{number_of}
use Rattle.paper.specs.Reading.{header_checks}
use Rattle.sheet.specs.Header.{parts_in}
use Rattle.sheet.proofs.Checks.{is_refused}
use Rattle.sheet.proofs.InOrder.{head_refused}
use Rattle.sheet.proofs.read_lamport.Goals as goal

pub returns-in_err-parts-clause-numbers : goal.returns-in_err-parts-clause-numbers
returns-in_err-parts-clause-numbers c =
    let b = c.args.sheet.now in
    let p = err_from_is_err_and c.from_residual.result c.from_residual.ensures.1 in
    let q = is_refused (parts_in b) (number_of c.in_err-parts.field-0.0) (header_checks b 0) c.in_err-parts.ensures in
    rw p.1 (head_refused b q.0 (λ z. q.1 (q.0 ∙ z)) p.2)
