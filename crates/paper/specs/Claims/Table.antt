-- What the plain machine reads off its lists of numbers for 14, 15 and 16, said of the accepted events (theorem `table`; of the answer itself, `Exactly`).
use Rattle.std.specs.Prelude.{ℕ, ◌<◌, ◌≡◌, ◌↔◌, true, false, List, length}
use Rattle.paper.specs.Channel.{Sent, OnItsWay, Older}
use Rattle.paper.specs.Event.{Event, receive}
use Rattle.paper.specs.Machine.{State, Clocked, waiting, member, in_queue, in_front}

-- What the three checks against the state say of the accepted events.
pub record Table (s : State) (cs : List Clocked) (e : Event) : Type 0 where
  -- the number is used by an accepted send
  pub fourteen : (member e.message s.used ≡ true) ↔ ((a : ℕ) × Sent cs e.message a)
  -- there is an accepted send of that number, by that sender, to that addressee, not yet received
  pub fifteen : e.kind ≡ receive → (in_queue e.message (waiting s e) ≡ true) ↔ ((a : ℕ) × (a < length cs) × OnItsWay cs e a)
  -- an older accepted send on the same channel is not yet received
  pub sixteen : (a : ℕ) → OnItsWay cs e a → (in_front e.message (waiting s e) ≡ false) ↔ ((c : ℕ) × Older cs a c)
