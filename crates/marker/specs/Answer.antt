-- What `marker` prints of its input: the text of the paper's outcome.
use Rattle.std.specs.Prelude.{ℕ, List, replicate}
use Rattle.paper.specs.Buffers.{ample}
use Rattle.paper.specs.Machine.{accepted_of}
use Rattle.paper.specs.Marking.{marks, marking}
use Rattle.paper.specs.Sheet.{processes_in, terms_in, list_in}
use Rattle.lines.specs.Marker.{marker_lines}
use Rattle.desk.specs.Answers.{text_of}

-- `marker`: what refuses the list or the sheet, or the marks and their total. The slots are for 200 lines, so there is no 21.
unfoldable pub marker_answer : List ℕ → List ℕ → List ℕ
marker_answer sheet lines =
    let ms = marks (processes_in sheet) (accepted_of (terms_in sheet) (list_in sheet)) lines in
    text_of (λ m. marker_lines ms m.total) (marking sheet lines ample (replicate 200 0)).0.0
