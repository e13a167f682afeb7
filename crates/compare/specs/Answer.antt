-- What `compare` prints of its input: the text of the paper's outcome.
use Rattle.std.specs.Prelude.{ℕ, List}
use Rattle.paper.specs.Buffers.{ample}
use Rattle.paper.specs.Figures.{Position}
use Rattle.paper.specs.Questions.{comparing_sheet}
use Rattle.lines.specs.Programs.{verdict_line}
use Rattle.desk.specs.Answers.{text_of}

-- What refuses the sheet refuses the question.
unfoldable pub compare_answer : List ℕ → Position → Position → List ℕ
compare_answer sheet a b = text_of verdict_line (comparing_sheet sheet ample a b).0
