-- On which stream `write` prints: a sheet on standard output, a refusal's line on standard error.
use Rattle.std.specs.Prelude.{ℕ, List, Option}
use Rattle.std.specs.Io.KnownBytes.{Appends, Keeps}
use Rattle.paper.specs.Listing.{refusal_line}
use Rattle.paper.specs.Refusals.{Outcome, refused, done}

-- What the two hold before and after.
abbrev pub Prints : Outcome (List ℕ) → Option (List ℕ) → Option (List ℕ) → Option (List ℕ) → Option (List ℕ) → Type 0
Prints (refused r) out out' err err' = Keeps out out' × Appends err err' (refusal_line r)
Prints (done sheet) out out' err err' = Appends out out' sheet × Keeps err err'
