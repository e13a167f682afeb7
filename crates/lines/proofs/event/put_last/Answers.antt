use mathlib.Core.Path.{◌∙◌}
use native.Mathlib.Omega.{arith}
use Rattle.octets.proofs.Appended.{none, same}
use Rattle.lines.proofs.Slots.{number_there, number_none}
use Rattle.lines.proofs.event.put_last.Goals as goal

pub returns-in-Some : goal.returns-in-Some
returns-in-Some c =
    let a = c.put_word.ensures in
    let h = c.in-Some.ensures.lookup.3 in
    (same (number_there _ _ h.0 (c.wide.ensures.0 ∙ h.1 0)) a.0, a.1)

pub returns-in-None : goal.returns-in-None
returns-in-None c = let h = c.in-None.ensures.lookup.3 in (same (number_none _ _ h) (none _ _ (omega arith) (omega arith)), omega arith)
