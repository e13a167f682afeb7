-- What the programs print: the text of the paper's outcome.
use Rattle.std.specs.Prelude.{ℕ, List}
use Rattle.paper.specs.Listing.{refusal_line}
use Rattle.paper.specs.Refusals.{Outcome, refused, done}

-- A refusal's line, or the text of what is answered.
abbrev pub text_of : {A : Type 0} → (A → List ℕ) → Outcome A → List ℕ
text_of f (refused r) = refusal_line r
text_of f (done a) = f a
