-- The search for a send by its number: it does not pass the send that is there.
use Prim.Native.Nat.{ℕ, ◌+◌, ◌≤◌, ◌<◌}
use native.Mathlib.Nat.{eq-or-lt_of_le}
use native.Mathlib.Omega.{arith}
use mathlib.Core.Path.{◌≡◌, sym, ap, ◌∙◌}
use mathlib.Core.Logic.{◌⊎◌, inl, inr}
use mathlib.Core.Bool.{Bool, true, false, false≢true}
use mathlib.Core.List.{List}
use lib.Dec.{eqb}
use borrow.Author.Tests.{eqb-true, eq-eqb}
use Rattle.clock.specs.Event.{kind_at, message_at}
use Rattle.paper.specs.Event.{send}
use Rattle.paper.proofs.Laws.Tests.{and_both, and_true}
use Rattle.teaching.specs.Walk.{is_send_of, Sent}

-- The send sought stands at c or later.
pub record Seeking (list : List ℕ) (message c : ℕ) : Type 0 where
  pub place : ℕ
  pub ahead : c ≤ place
  pub sent : Sent list message place

module _ {list : List ℕ} {message c : ℕ} (k : Seeking list message c) where
  pub seek_more : (t : Bool) → t ≡ is_send_of list c message → t ≡ false → Seeking list message (c + 1)
  seek_more t is h = record { place = k.place; ahead = go (eq-or-lt_of_le k.ahead); sent = k.sent }
    where
      go : (c ≡ k.place) ⊎ (c < k.place) → c + 1 ≤ k.place
      go (inl e) =
          let there : is_send_of list k.place message ≡ true =
          and_true _ _ (eq-eqb (kind_at list k.place) send k.sent.kind) (eq-eqb (message_at list k.place) message k.sent.number) in
          absurd (false≢true (sym h ∙ is ∙ ap (λ (x : ℕ). is_send_of list x message) e ∙ there))
      go (inr l) = omega arith

  pub seek_found : (t : Bool) → t ≡ is_send_of list c message → t ≡ true → Sent list message c
  seek_found t is h =
      let (x, y) = and_both (eqb (kind_at list c) send) (eqb (message_at list c) message) (sym is ∙ h) in
      let s = k.sent in
      record {
        brief = s.brief;
        inside = omega (arith, k.ahead, s.inside);
        kind = eqb-true (kind_at list c) send x;
        number = eqb-true (message_at list c) message y;
      }
