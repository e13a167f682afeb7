-- Clearing Lamport numbers: where m of them are lent the first m are zeroed.
use mathlib.Core.List.{[]}
use mathlib.Core.Path.{refl, ◌∙◌}
use native.Mathlib.Omega.{arith}
use lib.ListN.{length}
use borrow.Author.Tests.{le-leb}
use Rattle.course.proofs.Tidied.{zeroed_cleared}
use Rattle.course.proofs.clear_lamports.Goals as goal

pub returns-then-m-lamports : goal.returns-then-m-lamports
returns-then-m-lamports c =
    let a = c.args in
    rw (le-leb a.m (length a.lamports.now) c.if-m-lamports.true)
    (c.zero.ensures ∙ zeroed_cleared a.m [] a.lamports.now {k = 0} refl refl (omega arith) c.if-m-lamports.true)
