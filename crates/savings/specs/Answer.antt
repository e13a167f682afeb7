-- What `savings` prints of a sheet: a refusal's line, or the line of its counts.
use Rattle.std.specs.Prelude.{ℕ, cond, List, eqb}
use Rattle.paper.specs.Buffers.{ample}
use Rattle.paper.specs.Savings.{Counts, hundredths, tallying}
use Rattle.lines.specs.Savings.{no_messages_line, saved_line}
use Rattle.desk.specs.Answers.{text_of}

-- The percentage is cut to two decimals from the exact fraction: no float is printed.
unfoldable pub counts_line : Counts → List ℕ
counts_line c = cond (eqb c.sends 0) no_messages_line (saved_line (hundredths c))

unfoldable pub savings_answer : List ℕ → List ℕ
savings_answer b = text_of counts_line (tallying b ample).0
