-- What `write` answers: a refusal, or the bytes of the sheet.
use Rattle.std.specs.Prelude.{ℕ, List, []}
use Rattle.paper.specs.Buffers.{ample}
use Rattle.paper.specs.Questions.{strict_checks}
use Rattle.paper.specs.Refusals.{refusal_of, Outcome, outcome}
use Rattle.paper.specs.Sheet.{written}
use Rattle.paper.specs.Terms.{Terms}

-- `write`: what refuses the list on the strict course, or else the sheet. Work buffers and page are always long enough, so there is no 9 and no 21.
unfoldable pub write_answer : Terms → List ℕ → Outcome (List ℕ)
write_answer t list = outcome (refusal_of (strict_checks t list ample [])) (written t list)
