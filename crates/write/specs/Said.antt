-- What stands on the page for each case of what `write` is to print.
use Rattle.std.specs.Prelude.{ℕ, List, Result, Ok, Err}
use Rattle.lines.specs.Text.{Printed}
use Rattle.paper.specs.Listing.{refusal_line}
use Rattle.paper.specs.Refusals.{Outcome, refused, done}

-- The page `old` has become `new`: a sheet that is written stands on it as a sheet, a refusal as its line.
abbrev pub Stands : List ℕ → Outcome (List ℕ) → Result ℕ ℕ → List ℕ → Type 0
Stands old (refused r) (Err k) new = Printed old (refusal_line r) k new
Stands old (done sheet) (Ok k) new = Printed old sheet k new
Stands old (refused r) (Ok k) new = ⊥
Stands old (done sheet) (Err k) new = ⊥
