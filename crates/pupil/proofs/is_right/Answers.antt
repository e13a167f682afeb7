-- A line is right where both events are there and its verdict is the one on them.
use mathlib.Core.Path.{sym, ap, ◌∙◌}
use Prim.Native.Nat.{ℕ}
use lib.Dec.{eqb}
use Rattle.pupil.specs.Given.{line}
use Rattle.pupil.proofs.Row.{missing, found}
use Rattle.pupil.proofs.is_right.Goals as goal

pub returns-then-is_past : goal.returns-then-is_past
returns-then-is_past c = missing _ _ _ (line c.args.given) (sym c.is_past.ensures ∙ c.if-is_past.true)

pub returns-in-Ok : goal.returns-in-Ok
returns-in-Ok c =
    let l = line c.args.given in
    ap (λ (k : ℕ). eqb l.verdict k) c.number.ensures.0 ∙ found _ _ _ l (sym c.is_past.ensures ∙ c.if-is_past.false) c.in-Ok.ensures

pub returns-in-Err : goal.returns-in-Err
returns-in-Err c = found _ _ _ (line c.args.given) (sym c.is_past.ensures ∙ c.if-is_past.false) c.in-Err.ensures
