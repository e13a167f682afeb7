-- What the checks up to 9 ask for, and what then stands in the work buffers of a list (the paper, "Refusal numbers", last paragraph).
use Rattle.std.specs.Prelude.{ℕ, ◌*◌, ◌≤◌, List, [], ◌∷◌, ◌≡◌, length, take, drop}
use Rattle.paper.specs.Buffers.{Work, filled}
use Rattle.paper.specs.Clock.{most_processes, most_events}
use Rattle.paper.specs.Event.{how_many}
use Rattle.paper.specs.Machine.{accepted_of, AllAccepted}
use Rattle.paper.specs.Terms.{Terms}

-- The size of whole records, at most 512.
abbrev pub Records : ℕ → Type 0
Records size = (m : ℕ) × (m ≤ most_events) × (size ≡ 8 * m)

-- 3, 4 and 8 of a list lent directly.
pub record Listed (t : Terms) (list : List ℕ) : Type 0 where
  pub version : t.version ≡ 1
  pub processes : (1 ≤ t.processes) × (t.processes ≤ most_processes)
  pub whole_records : Records (length list)

-- 9: the work buffers for m events of n processes, and further ones of m slots each.
pub record Room (n m : ℕ) (w : Work) : Type 0 where
  pub clocks : n * m ≤ length w.clocks
  pub masks : m ≤ length w.masks
  pub values : n * m ≤ length w.values

pub data Roomy (m : ℕ) : List (List ℕ) → Type 0 where
  no_further : Roomy m []
  one_further : {slots : List ℕ} {more : List (List ℕ)} → m ≤ length slots → Roomy m more → Roomy m (slots ∷ more)

-- A list that writing and questions accept.
pub record Given (t : Terms) (list : List ℕ) : Type 0 where
  pub listed : Listed t list
  pub accepted : AllAccepted t list

-- The list passed the checks up to 9, and its accepted events stand in the work buffers w', which held w before.
pub record Held (t : Terms) (list : List ℕ) (w w' : Work) : Type 0 where
  pub listed : Listed t list
  pub room : Room t.processes (how_many list) w
  pub is : w' ≡ filled t (how_many list) (accepted_of t list) w

-- The same of a list all of whose events are accepted.
pub record Stands (t : Terms) (list : List ℕ) (w w' : Work) : Type 0 where
  pub held : Held t list w w'
  pub accepted : AllAccepted t list

-- The n slots of the event at a.
abbrev pub row : ℕ → List ℕ → ℕ → List ℕ
row n clocks a = take n (drop (n * a) clocks)
