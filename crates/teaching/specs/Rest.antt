-- What is left of the chain once the checks before it are passed and the accepted events stand in the work buffers.
use Rattle.std.specs.Prelude.{ℕ, Bool, false, not, List, ◌≡◌, eqb, ltb}
use Rattle.order.specs.Judge.{not_both, row_verdict}
use Rattle.order.specs.Rest.{Past}
use Rattle.paper.specs.Buffers.{Work}
use Rattle.paper.specs.Questions.{chain_slots, linking}
use Rattle.paper.specs.Refusals.{first, Checks, Outcome, refused, done}
use Rattle.paper.specs.Terms.{Terms}

-- Whether a verdict is there, and says that the first is before the second.
abbrev pub says_before : Outcome ℕ → Bool
says_before (refused r) = false
says_before (done v) = eqb v 1

-- 20, 22 and 21, in this order, or 0, of two events whose clocks stand in slots, n slots to each.
abbrev pub late : ℕ → ℕ → List ℕ → ℕ → ℕ → ℕ → ℕ
late n m clocks a b slots =
    first (not_both m a b) 20
    (first (not (says_before (row_verdict n clocks a b))) 22
    (first (ltb slots (chain_slots n)) 21
    0))

-- From the work buffers w' on, the chain ends with r, w'' and out' as the whole call does, whatever the checks were and whatever was lent.
pub record Links (t : Terms) (list : List ℕ) (w' : Work) (a b : ℕ) (out : List ℕ) (r : Outcome ℕ) (w'' : Work) (out' : List ℕ) : Type 0 where
  pub ends : (c : Checks) (w : Work) → Past c t list w w' → ((r, w''), out') ≡ linking c t list w a b out
