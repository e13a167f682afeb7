-- The mask of the components below n is what is left of the mask of all by 2 to the n, and its values are those that `pick` stores.
use Prim.Native.Nat.{ℕ, ◌*◌, ◌%◌, ◌^◌}
use mathlib.Core.Bool.{Bool}
use mathlib.Core.Path.{◌≡◌, ap, ◌∙◌}
use native.Mathlib.Omega.{arith}
use lib.Pow.{shl_exact}
use lib.Seq.{sets}
use Rattle.paper.specs.Stamp.{mask, bit, values}
use Rattle.paper.proofs.Laws.Masks.{count_le}
use Rattle.record.proofs.Bits.{mask_low, values_kept, count_kept}
use Rattle.record.proofs.row.gather.Goals as goal
use Rattle.record.proofs.row.gather.Goals.{Start}

divisor : (c : goal.Start) → (1 * 2 ^ c.args.n) % 2 ^ 64 ≡ 2 ^ c.args.n
divisor c = let h = c.requires.1 in shl_exact {a = 1} 1 c.args.n 64 (omega arith) (omega arith) ∙ omega arith

-- What is kept of the mask of all components is the mask of those below n.
kept : (c : goal.Start) (p : ℕ → Bool) → c.args.all ≡ mask p 32 → c.args.all % ((1 * 2 ^ c.args.n) % 2 ^ 64) ≡ mask p c.args.n
kept c p e = rw (divisor c, e) (mask_low p c.args.n c.requires.1)

pub pick-requires : goal.pick-requires
pick-requires c =
    let w = c.requires.2 in
    rw (c.from.ensures, kept (goal.at.pick-requires c).Start w.bits w.is, count_kept w.bits c.args.n c.requires.1) (omega (arith, c.requires.0, count_le w.bits c.args.n))

pub returns : goal.returns
returns c p e =
    let a = c.args in
    let k = kept (goal.at.returns c).Start p e in
    rw c.from.ensures (k, rw c.from.ensures at c.pick.ensures ∙ ap (λ (x : ℕ). sets a.out.now a.at (values (bit x) a.clock.now 32)) k ∙ ap (sets a.out.now a.at) (values_kept p a.clock.now a.n c.requires.1))
