-- What `chain` prints of its input: the text of the paper's outcome.
use Rattle.std.specs.Prelude.{ℕ, List, replicate}
use Rattle.paper.specs.Buffers.{ample}
use Rattle.paper.specs.Chain.{chain}
use Rattle.paper.specs.Figures.{Position}
use Rattle.paper.specs.Machine.{accepted_of}
use Rattle.paper.specs.Questions.{chaining_sheet}
use Rattle.paper.specs.Sheet.{terms_in, list_in}
use Rattle.lines.specs.Programs.{chain_line}
use Rattle.desk.specs.Answers.{text_of}

-- What refuses the sheet refuses the question; 31 slots are room for the chain of 32 processes.
unfoldable pub chain_answer : List ℕ → Position → Position → List ℕ
chain_answer sheet a b =
    let path = chain (accepted_of (terms_in sheet) (list_in sheet)) a b in
    text_of (λ k. chain_line path) (chaining_sheet sheet ample a b (replicate 31 0)).0.0
