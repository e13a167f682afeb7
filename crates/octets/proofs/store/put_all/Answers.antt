-- The first i bytes are stored; what the slice has no room for would not be stored anyway.
use borrow.Author.Rules.{rules}
use mathlib.Core.Path.{◌≡◌, ap, ◌∙◌}
use native.Mathlib.Omega.{arith}
use lib.ListN.{length}
use lib.Seq.{length-sets}
use Rattle.octets.proofs.Appended.{sets_cut, one_more}
use Rattle.octets.proofs.store.put_all.Goals as goal

pub bounds-out-at : goal.bounds-out-at
bounds-out-at c = omega (arith, simp length-sets at (ap length c.loop-i.invariant))

pub loop-i-preserved : goal.loop-i-preserved
loop-i-preserved c = one_more _ _ _ _ _ c.loop-i.invariant (omega arith)

pub returns : goal.returns
returns c =
    let e : c.loop-i.i ≡ c.within-count.result = omega arith in
    record {
      lent = omega arith;
      place = search rules;
      bytes = c.loop-i.invariant ∙ sets_cut _ _ _ _ (e ∙ c.within-count.ensures);
    }
