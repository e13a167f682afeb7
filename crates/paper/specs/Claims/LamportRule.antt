-- LC1 and LC2 over the positions of a run (request 1; theorem `lamport_rule`).
use Rattle.std.specs.Prelude.{ℕ, ◌+◌, max, ◌<◌, ◌≡◌, ◌≢◌, List, get_or}
use Rattle.paper.specs.Event.{receive}
use Rattle.paper.specs.Lamport.{lamports}
use Rattle.paper.specs.Machine.{Clocked}
use Rattle.paper.specs.Order.{event_of, Crosses}

-- The Lamport number of the accepted event at a.
abbrev pub number_at : List Clocked → ℕ → ℕ
number_at cs a = get_or (lamports cs) a 0

-- What the process p had before position b: the number of its latest event there, or 0 if there was none.
pub data Had (cs : List Clocked) (p b : ℕ) : ℕ → Type 0 where
  never : ((a : ℕ) → a < b → (event_of cs a).process ≢ p) → Had cs p b 0
  latest : (a : ℕ) → a < b → (event_of cs a).process ≡ p → ((c : ℕ) → a < c → c < b → (event_of cs c).process ≢ p) → Had cs p b (number_at cs a)

-- One up for each event, and for a receive one more than the larger of its process's previous number and its send's.
pub record LamportRule (cs : List Clocked) (b : ℕ) : Type 0 where
  pub had : (x : ℕ) × Had cs (event_of cs b).process b x
  pub one_up : (x : ℕ) → Had cs (event_of cs b).process b x → (event_of cs b).kind ≢ receive → number_at cs b ≡ x + 1
  pub larger : (x : ℕ) → Had cs (event_of cs b).process b x → (a : ℕ) → Crosses cs a b → number_at cs b ≡ max x (number_at cs a) + 1
