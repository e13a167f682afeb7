-- When a refusal number is given, in the words of the table (the paper, "Refusal numbers"); and which numbers a call gives at all.
use Rattle.std.specs.Prelude.{ℕ, ◌+◌, ◌*◌, ◌≤◌, ◌<◌, ◌≡◌, ◌≢◌, true, Float, length, get_or, take, drop}
use mathlib.Core.List.{List, [], ◌∷◌, ◌++◌, flatten}
use Rattle.paper.specs.Buffers.{Work}
use Rattle.paper.specs.Bytes.{two, four}
use Rattle.paper.specs.Channel.{Sent, OnItsWay, Older}
use Rattle.paper.specs.Class.{class, class_lamport}
use Rattle.paper.specs.Event.{Event, internal, send, receive, how_many}
use Rattle.paper.specs.Machine.{Clocked, member, accepted_of}
use Rattle.paper.specs.Marking.{marking}
use Rattle.paper.specs.Order.{event_of, Before}
use Rattle.paper.specs.Questions.{strict, strict_lamport, writing, comparing, chaining, comparing_sheet, chaining_sheet, ordering}
use Rattle.paper.specs.Reading.{reading, reading_lamport}
use Rattle.paper.specs.Refusals.{Refusal, Checks, refusal_of, Outcome, refused}
use Rattle.paper.specs.Savings.{tallying, savings, storing}
use Rattle.paper.specs.Sheet.{stamps_in, pieces}
use Rattle.paper.specs.Stamp.{Stamp, stamps, no_stamp}
use Rattle.paper.specs.Terms.{Terms}

-- Not 10, and not 11.
abbrev pub RightKind : Event → Type 0
RightKind e = e.kind ≤ 2

abbrev pub RightProcess : Terms → Event → Type 0
RightProcess t e = e.process < t.processes

-- Not 12: the peer of a send or receive is below n and not the process; that of an internal event is 0.
pub record RightPeer (t : Terms) (e : Event) : Type 0 where
  pub of_internal : e.kind ≡ internal → e.peer ≡ 0
  pub of_other : e.kind ≢ internal → (e.peer < t.processes) × (e.peer ≢ e.process)

-- Not 13: the spare bytes are 0, and the message number is 0 on an internal event and on no other.
pub record RightNumber (e : Event) : Type 0 where
  pub spare : (e.spare₃ ≡ 0) × (e.spare₆ ≡ 0) × (e.spare₇ ≡ 0)
  pub of_internal : e.kind ≡ internal → e.message ≡ 0
  pub of_other : e.kind ≢ internal → e.message ≢ 0

-- None of 10 to 13.
pub record RightShape (t : Terms) (e : Event) : Type 0 where
  pub kind : RightKind e
  pub process : RightProcess t e
  pub peer : RightPeer t e
  pub number : RightNumber e

-- 14, send: number used by an earlier accepted send.
pub record Fourteen (t : Terms) (cs : List Clocked) (e : Event) : Type 0 where
  pub shape : RightShape t e
  pub sends : e.kind ≡ send
  pub used : (a : ℕ) × Sent cs e.message a

-- 15, receive: no accepted send of that number, already received, or sender or addressee differs.
pub record Fifteen (t : Terms) (cs : List Clocked) (e : Event) : Type 0 where
  pub shape : RightShape t e
  pub receives : e.kind ≡ receive
  pub none : (a : ℕ) → a < length cs → OnItsWay cs e a → ⊥

-- 16, receive: an older accepted send on the same channel is not yet received.
pub record Sixteen (t : Terms) (cs : List Clocked) (e : Event) : Type 0 where
  pub shape : RightShape t e
  pub receives : e.kind ≡ receive
  pub sent_at : ℕ
  pub sent : (sent_at < length cs) × OnItsWay cs e sent_at
  pub older : (c : ℕ) × Older cs sent_at c

-- A recorded stamp stands at the front of bytes: they do not end early, and differ neither in mask nor in a value.
pub record Recorded (bytes : List ℕ) (t : Stamp) : Type 0 where
  pub long : 4 + 2 * length t.values ≤ length bytes
  pub mask : four bytes 0 ≡ t.mask
  pub values : (i : ℕ) → i < length t.values → two bytes (4 + 2 * i) ≡ get_or t.values i 0

-- 18 at i: the stamps before that of the send at i stand in the sheet b, and its own does not.
pub record Eighteen (b : List ℕ) (cs : List Clocked) (i : ℕ) : Type 0 where
  pub there : i < length cs
  pub sends : (event_of cs i).kind ≡ send
  pub earlier : take (length (flatten (take i (pieces cs)))) (stamps_in b) ≡ flatten (take i (pieces cs))
  pub wrong : Recorded (drop (length (flatten (take i (pieces cs)))) (stamps_in b)) (get_or (stamps cs) i no_stamp) → ⊥

-- 20: the checks so far pass, and an asked position is not below the event count.
pub record Twenty (c : Checks) (list : List ℕ) (a b : ℕ) : Type 0 where
  pub passed : (refusal_of c).number ≡ 0
  pub not_there : (a < how_many list) × (b < how_many list) → ⊥

-- 22: the checks so far pass, both events are there, and the first is not before the second.
pub record TwentyTwo (c : Checks) (t : Terms) (list : List ℕ) (a b : ℕ) : Type 0 where
  pub passed : (refusal_of c).number ≡ 0
  pub there : (a < how_many list) × (b < how_many list)
  pub not_before : Before (accepted_of t list) a b → ⊥

-- What can be given: to an offer, to a sheet, to a list lent directly.
abbrev pub of_offer : List ℕ
of_offer = 10 ∷ 11 ∷ 12 ∷ 13 ∷ 14 ∷ 15 ∷ 16 ∷ []

abbrev pub of_sheet : List ℕ
of_sheet = (1 ∷ 2 ∷ 3 ∷ 4 ∷ 5 ∷ 6 ∷ 7 ∷ 9 ∷ []) ++ (of_offer ++ (18 ∷ 19 ∷ []))

abbrev pub of_list : List ℕ
of_list = (3 ∷ 4 ∷ 8 ∷ 9 ∷ []) ++ of_offer

-- P of the outcome of each call, with the numbers that the call can give.
pub record OfEachCall (P : (A : Type 0) → List ℕ → Outcome A → Type 0) : Type 0 where
  pub classed : (t : Terms) (list : List ℕ) (w : Work) (answered : List ℕ) → P _ (3 ∷ 4 ∷ 8 ∷ 9 ∷ []) (class t list w answered).0.0
  pub classed_lamport :
      (t : Terms) (list : List ℕ) (w : Work) (answered numbers : List ℕ) → P _ (3 ∷ 4 ∷ 8 ∷ 9 ∷ []) (class_lamport t list w answered numbers).0.0
  pub judged : (t : Terms) (list : List ℕ) (w : Work) → P _ of_list (strict t list w).0
  pub judged_lamport : (t : Terms) (list : List ℕ) (w : Work) (numbers : List ℕ) → P _ of_list (strict_lamport t list w numbers).0.0
  pub written : (t : Terms) (list : List ℕ) (w : Work) (out : List ℕ) → P _ (of_list ++ (21 ∷ [])) (writing t list w out).0.0
  pub compared : (t : Terms) (list : List ℕ) (w : Work) (a b : ℕ) → P _ (of_list ++ (20 ∷ [])) (comparing t list w a b).0
  pub chained : (t : Terms) (list : List ℕ) (w : Work) (a b : ℕ) (out : List ℕ) → P _ (of_list ++ (20 ∷ 21 ∷ 22 ∷ [])) (chaining t list w a b out).0.0
  pub read : (b : List ℕ) (w : Work) → P _ of_sheet (reading b w).0
  pub read_lamport : (b : List ℕ) (w : Work) (numbers : List ℕ) → P _ of_sheet (reading_lamport b w numbers).0.0
  pub compared_sheet : (b : List ℕ) (w : Work) (i j : ℕ) → P _ (of_sheet ++ (20 ∷ [])) (comparing_sheet b w i j).0
  pub chained_sheet : (b : List ℕ) (w : Work) (i j : ℕ) (out : List ℕ) → P _ (of_sheet ++ (20 ∷ 21 ∷ 22 ∷ [])) (chaining_sheet b w i j out).0.0
  pub marked : (b lines : List ℕ) (w : Work) (out : List ℕ) → P _ (of_sheet ++ (21 ∷ 30 ∷ [])) (marking b lines w out).0.0
  pub tallied : (b : List ℕ) (w : Work) → P _ of_sheet (tallying b w).0
  pub saved : (b : List ℕ) (w : Work) → P _ of_sheet (savings b w).0
  pub stored : (b : List ℕ) (w : Work) (out : List Float) → P _ (of_sheet ++ (21 ∷ [])) (storing b w out).0.0
  pub ordered : (v w : List ℕ) → P _ (4 ∷ []) (ordering v w)

-- The number of a refusal is one of these; and it is never r.
abbrev pub Among : {A : Type 0} → List ℕ → Outcome A → Type 0
Among ns o = (r : Refusal) → o ≡ refused r → member r.number ns ≡ true

abbrev pub NumbersGiven : Type 0
NumbersGiven = OfEachCall (λ A ns o. Among ns o)

abbrev pub Never : ℕ → Type 0
Never x = OfEachCall (λ A ns o. (r : Refusal) → o ≡ refused r → r.number ≢ x)
