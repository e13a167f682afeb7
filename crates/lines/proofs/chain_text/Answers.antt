use native.Mathlib.Omega.{arith}
use borrow.Author.Tests.{le-leb, lt-leb}
use lib.ListN.{length}
use Rattle.lines.specs.Programs.{chain_text}
use Rattle.lines.proofs.Laws.{printed, unprinted}
use Rattle.lines.proofs.chain_text.Goals as goal
use Rattle.lines.proofs.chain_text.Goals.{then-len-gt-EVENTS-via-then-len-gt-EVENTS, then-len-gt-EVENTS-via-else-len-gt-EVENTS+then-chain-len}

pub returns-then-len-gt-EVENTS : goal.returns-then-len-gt-EVENTS
unfolding chain_text
returns-then-len-gt-EVENTS c = elim c.then-len-gt-EVENTS.branch [
  | then-len-gt-EVENTS-via-then-len-gt-EVENTS w ↦ simp (lt-leb c.args.len 512 (omega arith)) (unprinted _)
  | then-len-gt-EVENTS-via-else-len-gt-EVENTS+then-chain-len w ↦
      simp (le-leb c.args.len 512 (omega arith), lt-leb c.args.len (length c.args.chain.now) (omega arith)) (unprinted _)
]

pub returns : goal.returns
unfolding chain_text
returns c =
    let a = c.put_chain.ensures in
    simp (le-leb _ _ c.if-len-gt-EVENTS.false, le-leb _ _ c.if-chain-len.false) (printed a.0 (omega (arith, a.1)))
