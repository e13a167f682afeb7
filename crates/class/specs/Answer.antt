-- What `class` prints of its input: the text of the paper's outcome.
use Rattle.std.specs.Prelude.{ℕ, List, replicate}
use Rattle.paper.specs.Buffers.{ample}
use Rattle.paper.specs.Class.{class}
use Rattle.paper.specs.Terms.{Terms}
use Rattle.lines.specs.Programs.{class_listing}
use Rattle.desk.specs.Answers.{text_of}

-- `class`.
unfoldable pub class_answer : Terms → List ℕ → List ℕ
class_answer t list = text_of (λ k. class_listing t list) (class t list ample (replicate 512 0)).0.0
