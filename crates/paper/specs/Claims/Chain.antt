-- The teaching chain (the paper, "Before, after, neither") as a relation in the paper's words, and what else is claimed of it (theorems `teaching`, `one_teaching`,
-- `chain_right`, `no_process_twice`).
use Rattle.std.specs.Prelude.{ℕ, suc, ◌+◌, ◌≤◌, ◌<◌, ◌≡◌, ◌≢◌, ◌⊎◌, List, [], ◌∷◌, ◌++◌, length, get_or}
use Rattle.paper.specs.Chain.{own_number, learner, sender, walk, chain}
use Rattle.paper.specs.Clock.{part}
use Rattle.paper.specs.Event.{send}
use Rattle.paper.specs.Machine.{Clocked}
use Rattle.paper.specs.Order.{event_of, clock_of, Crosses, Before}

-- The event at b knows of the event at a: its component for a's process is at least a's own number.
abbrev pub Knows : List Clocked → ℕ → ℕ → Type 0
Knows es a b = own_number es a ≤ part (clock_of es b) (event_of es a).process

-- r is the first event on b's process whose component for a's process is at least a's own number.
pub record FirstToKnow (es : List Clocked) (a b r : ℕ) : Type 0 where
  pub there : r < length es
  pub on_its_process : (event_of es r).process ≡ (event_of es b).process
  pub knows : Knows es a r
  pub none_earlier : (c : ℕ) → c < r → (event_of es c).process ≡ (event_of es b).process → Knows es a c → ⊥

-- The teaching chain from a to b: if b is on a's process it is empty. Otherwise take that first event r; it is a receive; the walk goes on from its sending
-- event s in b's stead, and s is put at the end of what the rest of the walk gives.
pub data Teaching (es : List Clocked) (a : ℕ) : ℕ → List ℕ → Type 0 where
  same_process : {b : ℕ} → (event_of es b).process ≡ (event_of es a).process → Teaching es a b []
  crossed :
      {b r s : ℕ} {ss : List ℕ} → (event_of es b).process ≢ (event_of es a).process → FirstToKnow es a b r → Crosses es s r → Teaching es a s ss
      → Teaching es a b (ss ++ (s ∷ []))

-- An event and the same or a later one of its process.
abbrev pub Along : List Clocked → ℕ → ℕ → Type 0
Along es a b = ((event_of es a).process ≡ (event_of es b).process) × (a ≤ b)

-- From a to b by the messages whose sends are listed: along a's process to the first send, from each receive along its process to the next send,
-- and from the last receive along its process to b.
pub data Path (es : List Clocked) : ℕ → List ℕ → ℕ → Type 0 where
  stays : {a b : ℕ} → Along es a b → Path es a [] b
  goes : {a s r b : ℕ} {ss : List ℕ} → Along es a s → Crosses es s r → Path es r ss b → Path es a (s ∷ ss) b

-- What the paper says where b is not on a's process: the learner r is the first event on b's process that knows a's own number; it is a receive;
-- the walk goes on from its sending event s, which a reaches too, and s is put at the end.
pub record Crossed (es : List Clocked) (a b s r : ℕ) : Type 0 where
  pub knows : Knows es a r
  pub none_earlier : (c : ℕ) → c < r → (event_of es c).process ≡ (event_of es b).process → Knows es a c → ⊥
  pub crosses : Crosses es s r
  pub along : Along es r b
  pub onward : (a ≡ s) ⊎ Before es a s
  pub chain_is : chain es a b ≡ chain es a s ++ (s ∷ [])

pub record Right (es : List Clocked) (a b : ℕ) : Type 0 where
  pub path : Path es a (chain es a b) b
  -- each position is that of a send, which is before the next one, the last before b
  pub sends : (i : ℕ) → i < length (chain es a b) → (event_of es (get_or (chain es a b) i 0)).kind ≡ send
  pub leads : (i : ℕ) → i < length (chain es a b) → Before es (get_or (chain es a b) i 0) (get_or (chain es a b ++ (b ∷ [])) (suc i) 0)
  pub ascends : (i j : ℕ) → i < j → j < length (chain es a b) → get_or (chain es a b) i 0 < get_or (chain es a b) j 0
  pub few : a + length (chain es a b) ≤ b
  -- any number of rounds above b gives the same chain
  pub enough : (rounds : ℕ) → b < rounds → walk rounds es a b ≡ chain es a b
  pub same : (event_of es b).process ≡ (event_of es a).process → chain es a b ≡ []
  pub crossed : (event_of es b).process ≢ (event_of es a).process → Crossed es a b (sender es (learner es a b)) (learner es a b)

-- The process on which the chain's message i is sent.
abbrev pub sent_on : List Clocked → ℕ → ℕ → ℕ → ℕ
sent_on es a b i = (event_of es (get_or (chain es a b) i 0)).process

-- The sends of the teaching chain lie on different processes, none of them b's.
pub record NoneTwice (es : List Clocked) (a b : ℕ) : Type 0 where
  pub different : (i j : ℕ) → i < j → j < length (chain es a b) → sent_on es a b i ≢ sent_on es a b j
  pub none_on_b : (i : ℕ) → i < length (chain es a b) → sent_on es a b i ≢ (event_of es b).process
