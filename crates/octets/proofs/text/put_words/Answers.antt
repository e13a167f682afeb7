-- The numbers before this one are stored, each in at most 21 bytes.
use native.Mathlib.Omega.{arith}
use Rattle.paper.specs.Listing.{word, words}
use Rattle.octets.proofs.Written.{written_none, written_more, written_all}
use Rattle.octets.proofs.text.put_words.Goals as goal

pub loop-x-init : goal.loop-x-init
loop-x-init c = written_none word 21 _ _ _ (omega arith) (omega arith)

pub loop-x-preserved : goal.loop-x-preserved
loop-x-preserved c =
    let p = c.put_word-k.ensures in
    written_more word 21 c.loop-x.invariant c.loop-x-test.true (rw c.wide.ensures.0 at p.0) p.1

pub returns : goal.returns
unfolding words
returns c =
    let a = c.loop-x.invariant in
    (written_all word 21 a c.loop-x-test.false, omega (arith, a.short, a.within))
