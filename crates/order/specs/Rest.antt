-- What is left of a question once the checks before it are passed and the accepted events stand in the work buffers.
use Rattle.std.specs.Prelude.{ℕ, List, ◌≡◌}
use Rattle.paper.specs.Buffers.{Work}
use Rattle.paper.specs.Questions.{comparison}
use Rattle.paper.specs.Refusals.{Checks, Outcome}
use Rattle.paper.specs.Stands.{Stands}
use Rattle.paper.specs.Terms.{Terms}

-- The checks c are passed, and the events of the list stand in the work buffers w', which held w before.
pub record Past (c : Checks) (t : Terms) (list : List ℕ) (w w' : Work) : Type 0 where
  pub early : c.early ≡ 0
  pub late : c.late.number ≡ 0
  pub stands : Stands t list w w'

-- From the work buffers w' on, comparing ends with r and w'' as the whole call does, whatever the checks were and whatever was lent.
pub record Compares (t : Terms) (list : List ℕ) (w' : Work) (a b : ℕ) (r : Outcome ℕ) (w'' : Work) : Type 0 where
  pub ends : (c : Checks) (w : Work) → Past c t list w w' → (r, w'') ≡ comparison c t list w a b
