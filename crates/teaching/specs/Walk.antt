-- What the walk of the chain goes by: the clocks of an accepted list, and the bytes of its events.
use Rattle.std.specs.Prelude.{ℕ, ◌+◌, ◌*◌, ◌≤◌, ◌<◌, Bool, ◌&&◌, List, ◌⊎◌, ◌≡◌, eqb, leb, get_or}
use Rattle.clock.specs.Event.{kind_at, process_at, message_at}
use Rattle.course.specs.Said.{work}
use Rattle.paper.specs.Buffers.{Work}
use Rattle.paper.specs.Chain.{chain}
use Rattle.paper.specs.Event.{send, how_many}
use Rattle.paper.specs.Machine.{accepted_of}
use Rattle.paper.specs.Order.{Before}
use Rattle.paper.specs.Stands.{Stands}
use Rattle.paper.specs.Terms.{Terms}

-- The events of an accepted list stand in work buffers whose clocks are these.
pub record Standing (t : Terms) (list clocks : List ℕ) : Type 0 where
  pub old : Work
  pub masks : List ℕ
  pub values : List ℕ
  pub stands : Stands t list old (work clocks masks values)

-- The event at a is that at b, or before it.
pub record Reaches (t : Terms) (list : List ℕ) (a b : ℕ) : Type 0 where
  pub from : a < how_many list
  pub to : b < how_many list
  pub leads : (a ≡ b) ⊎ Before (accepted_of t list) a b

-- The positions of the chain's sends, in causal order.
abbrev pub path : Terms → List ℕ → ℕ → ℕ → List ℕ
path t list a b = chain (accepted_of t list) a b

-- Whether the event at c is on that process, and its component p is at least that own number.
abbrev pub knows : ℕ → List ℕ → List ℕ → ℕ → ℕ → ℕ → ℕ → Bool
knows n list clocks c process p own = eqb (process_at list c) process && leb own (get_or clocks (n * c + p) 0)

-- Whether the event at c is a send of that number.
abbrev pub is_send_of : List ℕ → ℕ → ℕ → Bool
is_send_of list c message = eqb (kind_at list c) send && eqb (message_at list c) message

-- The event at s is a send of that number.
pub record Sent (list : List ℕ) (message s : ℕ) : Type 0 where
  pub brief : how_many list ≤ 512
  pub inside : s < how_many list
  pub kind : kind_at list s ≡ send
  pub number : message_at list s ≡ message
