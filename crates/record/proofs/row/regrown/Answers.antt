-- One bit looked at anew: it is set, and comes off again where its component is none of those that grew.
use borrow.Author.Tests.{lt-ltb, le-ltb}
use Prim.Native.Nat.{ℕ, ◌+◌, ◌*◌, ◌%◌, ◌^◌}
use mathlib.Core.Bool.{Bool, true}
use mathlib.Core.Path.{◌≡◌, sym, ap, ◌∙◌}
use native.Mathlib.Omega.{arith}
use lib.Bits.{bit_or}
use Rattle.paper.specs.Stamp.{mask}
use Rattle.paper.specs.Table.{at}
use Rattle.paper.proofs.Laws.Tables.{at_same, at_other}
use Rattle.record.specs.View.{newer}
use Rattle.record.proofs.Bits.{one_shl, bit_anew, bit_off}
use Rattle.record.proofs.row.regrown.Goals as goal
use Rattle.record.proofs.row.regrown.Goals.{Else-last-updated, Start}

abbrev word : ℕ → ℕ
word i = (1 * 2 ^ i) % 2 ^ 32

-- The mask with bit i set, for each function that says so.
marked : (c : goal.Start) (q : ℕ → Bool) → ((k : ℕ) → (k ≡ c.args.i → ⊥) → c.requires.1.bits k ≡ q k) → q c.args.i ≡ true
    → bit_or c.args.earlier (word c.args.i) ≡ mask q 32
marked c q others own =
    let a = c.args in
    let w = c.requires.1 in
    ap (bit_or a.earlier) (one_shl a.i c.requires.0) ∙ ap (λ (x : ℕ). bit_or x (2 ^ a.i)) w.is
    ∙ bit_anew w.bits q a.i 32 c.requires.0 others own

-- Where the own component is none of those that grew, its bit comes off again.
unmarked : (c : goal.Else-last-updated) → bit_or c.args.earlier (word c.args.i) ≡ mask (newer c.args.updated.now c.args.last) 32 + word c.args.i
unmarked c =
    let a = c.args in
    let w = c.requires.1 in
    let p = newer a.updated.now a.last in
    let q = at w.bits a.i true in
    marked (goal.at.Else-last-updated c).Start q (λ k d. sym (at_other w.bits a.i true k d)) (at_same w.bits a.i true)
    ∙ bit_off q p a.i 32 c.requires.0 (λ k d. at_other w.bits a.i true k d ∙ w.others k d) (at_same w.bits a.i true) (le-ltb _ _ c.if-last-updated.false)
    ∙ ap (◌+◌ (mask p 32)) (sym (one_shl a.i c.requires.0))

pub returns-then-last-updated : goal.returns-then-last-updated
returns-then-last-updated c = marked (goal.at.returns-then-last-updated c).Start (newer c.args.updated.now c.args.last) c.requires.1.others (lt-ltb _ _ c.if-last-updated.true)

pub returns : goal.returns
returns c = omega (arith, unmarked (goal.at.returns c).Else-last-updated)

pub overflow_sub-result : goal.overflow_sub-result
overflow_sub-result c = omega (arith, unmarked (goal.at.overflow_sub-result c).Else-last-updated)
