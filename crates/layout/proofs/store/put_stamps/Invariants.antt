use Rattle.sheet.specs.Held.{left}
use Rattle.layout.proofs.Stored.{Putting}
use Rattle.layout.proofs.store.put_stamps.Given as goal

abbrev pub invariant-loop-stamp : goal.invariant-loop-stamp
invariant-loop-stamp l = Putting l.initial.out l.at (left l.fn.stamps) (left l.stamp-iterator) l.to l.out
