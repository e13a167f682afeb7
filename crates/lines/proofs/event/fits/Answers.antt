use native.Mathlib.Omega.{arith}
use borrow.Author.Tests.{le-leb, lt-leb}
use lib.ListN.{length}
use Rattle.lines.specs.Slots.{fitting}
use Rattle.lines.proofs.event.fits.Goals as goal
use Rattle.lines.proofs.event.fits.Goals.{then-n-gt-PROCESSES-via-then-n-gt-PROCESSES, then-n-gt-PROCESSES-via-else-n-gt-PROCESSES+then-list}

pub returns-then-n-gt-PROCESSES : goal.returns-then-n-gt-PROCESSES
unfolding fitting
returns-then-n-gt-PROCESSES c = elim c.then-n-gt-PROCESSES.branch [
  | then-n-gt-PROCESSES-via-then-n-gt-PROCESSES w ↦ simp (lt-leb c.args.n 32 (omega arith))
  | then-n-gt-PROCESSES-via-else-n-gt-PROCESSES+then-list w ↦ simp (le-leb c.args.n 32 (omega arith), lt-leb (length c.args.list.now) 4096 (omega arith))
]

pub returns : goal.returns
unfolding fitting
returns c = simp (le-leb c.args.n 32 (omega arith), le-leb (length c.args.list.now) 4096 (omega arith))
