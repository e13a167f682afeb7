-- The text that is printed for each case of the question's outcome is the text of that outcome.
use Prim.Native.Nat.{ℕ}
use mathlib.Core.List.{List}
use mathlib.Core.Path.{◌≡◌, ap}
use Rattle.paper.specs.Buffers.{Work, ample}
use Rattle.paper.specs.Questions.{comparing_sheet}
use Rattle.paper.specs.Refusals.{Outcome}
use Rattle.lines.specs.Programs.{verdict_line}
use Rattle.desk.specs.Answers.{text_of}
use Rattle.compare.specs.Answer.{compare_answer}

pub compare_told :
    (b : List ℕ) (i j : ℕ) {after : Work} {o : Outcome ℕ} → (o, after) ≡ comparing_sheet b ample i j → text_of verdict_line o ≡ compare_answer b i j
unfolding compare_answer
compare_told b i j e = ap (λ (x : Outcome ℕ × Work). text_of verdict_line x.0) e
