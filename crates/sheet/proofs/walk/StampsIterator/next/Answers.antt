-- The first event's piece, and the rest as the slices then stand.
use Prim.Native.Nat.{ℕ, ◌-◌}
use mathlib.Core.List.{List, ◌∷◌}
use lib.Count.{ones}
use lib.ListN.{get_or}
use Rattle.std.proofs.Common.{◌≡◌, length, take, drop, ap, arith, rules, refl}
use Rattle.std.proofs.lemmas.Slice.{between_to_end}
use borrow.Author.Tests.{eq-eqb, ne_eqb}
use Rattle.clock.specs.Event.{kind_at}
use Rattle.sheet.specs.Slots.{slot_stamp, kind_piece, slot_pieces, Slots}
use Rattle.sheet.proofs.Shifted.{none_left, first_there, rest_masks, rest_values, left_more}
use Rattle.sheet.proofs.walk.StampsIterator.next.Goals as goal
use Rattle.sheet.proofs.walk.StampsIterator.next.Goals.{Else-self-lt8, After-split_at}

slots : (c : Else-self-lt8) → let s = c.args.self.now in Slots s.list.now s.masks.now s.values.now
slots c = let s = c.args.self.now in record { each_mask = s.each_mask; all_values = s.all_values }

rest : {A : Type 0} (xs : List A) (n : ℕ) → take (length xs - n) (drop n xs) ≡ drop n xs
rest xs n = between_to_end xs n (length xs) (omega arith)

behind : (c : After-split_at) → let s = c.args.self.now in c.split_at.result.1.now ≡ drop (ones (get_or s.masks.now 0 0)) s.values.now
behind c = rw c.ones_in.ensures.0 at c.split_at.ensures.back

step :
    (c : After-split_at) {piece : List ℕ} → let s = c.args.self.now in let l = s.list.now in let m = s.masks.now in
    piece ≡ kind_piece (kind_at l 0) (get_or m 0 0) s.values.now 0
    → slot_pieces l m s.values.now ≡ piece ∷ slot_pieces (take (length l - 8) (drop 8 l)) (take (length m - 1) (drop 1 m)) c.split_at.result.1.now
step c = let s = c.args.self.now in left_more (record { each_mask = s.each_mask; all_values = s.all_values }) c.if-self-lt8.false (rest s.list.now 8) (rest s.masks.now 1) (behind c)

pub returns-then-self-lt8-clause-steps : goal.returns-then-self-lt8-clause-steps
returns-then-self-lt8-clause-steps c =
    let e = none_left _ c.args.self.now.masks.now c.args.self.now.values.now c.if-self-lt8.true in (e, e)

pub split_at-requires : goal.split_at-requires
split_at-requires c =
    omega (arith, c.ones_in.ensures.0, first_there (slots (goal.at.split_at-requires c).Else-self-lt8) c.if-self-lt8.false)

pub invariant_of-self-clause-each_mask : goal.invariant_of-self-clause-each_mask
invariant_of-self-clause-each_mask c =
    let s = c.args.self.now in
    rest_masks (slots (goal.at.invariant_of-self-clause-each_mask c).Else-self-lt8) c.if-self-lt8.false (rest s.list.now 8) (rest s.masks.now 1)
    (behind (goal.at.invariant_of-self-clause-each_mask c).After-split_at)

pub invariant_of-self-clause-all_values : goal.invariant_of-self-clause-all_values
invariant_of-self-clause-all_values c =
    let s = c.args.self.now in
    rest_values (slots (goal.at.invariant_of-self-clause-all_values c).Else-self-lt8) c.if-self-lt8.false (rest s.list.now 8) (rest s.masks.now 1)
    (behind (goal.at.invariant_of-self-clause-all_values c).After-split_at)

pub returns-then-kind-ne-SEND-clause-steps : goal.returns-then-kind-ne-SEND-clause-steps
returns-then-kind-ne-SEND-clause-steps c =
    step (goal.at.returns-then-kind-ne-SEND-clause-steps c).After-split_at (simp (ne_eqb _ _ c.if-kind-ne-SEND.true))

pub returns-then-kind-ne-SEND-clause-goes : goal.returns-then-kind-ne-SEND-clause-goes
returns-then-kind-ne-SEND-clause-goes c =
    let shorter = ap length (step (goal.at.returns-then-kind-ne-SEND-clause-goes c).After-split_at refl) in
    search rules

pub returns-clause-steps : goal.returns-clause-steps
unfolding slot_stamp
returns-clause-steps c =
    step (goal.at.returns-clause-steps c).After-split_at
    (simp (eq-eqb _ _ c.if-kind-ne-SEND.false) (rw (c.split_at.ensures.front, c.ones_in.ensures.0)))

pub returns-clause-goes : goal.returns-clause-goes
returns-clause-goes c =
    let shorter = ap length (step (goal.at.returns-clause-goes c).After-split_at refl) in
    search rules
