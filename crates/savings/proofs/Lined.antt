-- The line that is printed for each case of the tally is that of its outcome.
use Prim.Native.Nat.{ℕ}
use mathlib.Core.Path.{◌≡◌, refl, ap}
use mathlib.Core.Logic.{◌≢◌}
use mathlib.Core.List.{List}
use borrow.Author.Tests.{eq-eqb, ne_eqb}
use Rattle.paper.specs.Buffers.{Work, ample}
use Rattle.paper.specs.Refusals.{Outcome}
use Rattle.paper.specs.Savings.{Counts, hundredths, tallying}
use Rattle.lines.specs.Savings.{no_messages_line, saved_line}
use Rattle.desk.specs.Answers.{text_of}
use Rattle.savings.specs.Answer.{counts_line, savings_answer}

module _ (c : Counts) where
  pub none_line : c.sends ≡ 0 → no_messages_line ≡ counts_line c
  unfolding counts_line
  none_line h = rw (eq-eqb c.sends 0 h) refl

  pub some_line : c.sends ≢ 0 → saved_line (hundredths c) ≡ counts_line c
  unfolding counts_line
  some_line h = rw (ne_eqb c.sends 0 h) refl

module _ (b : List ℕ) (after : Work) where
  pub line_of : (o : Outcome Counts) → (o, after) ≡ tallying b ample → text_of counts_line o ≡ savings_answer b
  unfolding savings_answer
  line_of o e = ap (λ (x : Outcome Counts × Work). text_of counts_line x.0) e
