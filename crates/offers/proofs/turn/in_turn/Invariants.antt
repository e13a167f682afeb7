use Rattle.clock.specs.Said.{stated}
use Rattle.offers.specs.Slots.{slots}
use Rattle.offers.specs.Tables.{tables}
use Rattle.offers.proofs.Going.{Underway}
use Rattle.offers.proofs.turn.in_turn.Given as goal

abbrev pub invariant-loop-i : goal.invariant-loop-i
invariant-loop-i l = Underway l.strict (stated l.terms) l.m l.list (slots l.initial.clocks l.initial.masks l.initial.values l.initial.answers l.initial.lamports) (slots l.clocks l.masks l.values l.answers l.lamports)
    l.records (tables l.tables) l.latest l.tally l.i
