use native.Mathlib.Omega.{arith}
use borrow.Author.Tests.{eq-eqb, ne_eqb}
use Rattle.lines.specs.Slots.{kind_letter}
use Rattle.lines.proofs.event.letter.Goals as goal

pub returns-in-0 : goal.returns-in-0
unfolding kind_letter
returns-in-0 c = simp (eq-eqb c.args.kind 0 (omega arith))

pub returns-in-1 : goal.returns-in-1
unfolding kind_letter
returns-in-1 c = simp (ne_eqb c.args.kind 0 (omega arith), eq-eqb c.args.kind 1 (omega arith))

pub returns-in_default : goal.returns-in_default
unfolding kind_letter
returns-in_default c = simp (ne_eqb c.args.kind 0 (omega arith), ne_eqb c.args.kind 1 (omega arith))
