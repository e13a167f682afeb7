-- Sends counted event by event in the bytes of a list, and that these are the sends of its accepted events.
use Prim.Native.Nat.{ℕ, ◌+◌, ◌≤◌}
use mir.Val.{bool_byte}
use native.Mathlib.Numerals.{add-one}
use native.Mathlib.Omega.{arith}
use mathlib.Core.Path.{◌≡◌, refl, sym, ap, ◌∙◌}
use mathlib.Core.Bool.{Bool, true, false, cond}
use mathlib.Core.List.{List}
use Rattle.paper.specs.Event.{is_send, event_at, how_many}
use Rattle.paper.specs.Order.{event_of}
use Rattle.paper.specs.Savings.{sends}
use Rattle.paper.specs.Stamp.{count}
use Rattle.paper.proofs.Laws.Masks.{count_same}
use Rattle.paper.specs.Buffers.{Work}
use Rattle.paper.specs.Machine.{accepted_of}
use Rattle.paper.specs.Stands.{Stands}
use Rattle.paper.specs.Terms.{Terms}
use Rattle.paper.proofs.Stands.{all, event_there}
use Rattle.percentage.specs.Slots.{is_send_at, slot_sends}

pub none_sent : (list : List ℕ) → 0 ≡ slot_sends list 0
unfolding count
none_sent list = refl

pub one_at_most : (b : Bool) → bool_byte b ≤ 1
one_at_most true = omega arith
one_at_most false = omega arith

pub sent_more : (list : List ℕ) (i k x : ℕ) → k ≡ slot_sends list i → x ≡ bool_byte (is_send_at list i) → k + x ≡ slot_sends list (i + 1)
unfolding count
sent_more list i k x e f = rw (add-one, e, f) (go (is_send_at list i))
  where
    go : (b : Bool) → slot_sends list i + bool_byte b ≡ cond b (slot_sends list i + 1) (slot_sends list i)
    go true = refl
    go false = omega arith

-- Each event of an accepted list stands where its bytes do.
pub sends_stand : {t : Terms} {list : List ℕ} {w w' : Work} → Stands t list w w' → slot_sends list (how_many list) ≡ sends (accepted_of t list)
unfolding sends event_at
sends_stand {t} {list} s =
    count_same (is_send_at list) (λ a. is_send (event_of (accepted_of t list) a)) (how_many list)
    (λ a h. sym (ap is_send (event_there s a h))) ∙ ap (count (λ a. is_send (event_of (accepted_of t list) a))) (sym (all s))
