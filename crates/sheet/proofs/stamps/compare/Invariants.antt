use Rattle.std.proofs.Common.{◌≡◌}
use Rattle.std.specs.Iterator.Adapters.{enumerate_count, enumerate_source}
use Rattle.paper.specs.Reading.{stamps_refused}
use Rattle.sheet.specs.Held.{left}
use Rattle.sheet.proofs.stamps.compare.Given as goal

abbrev pub invariant-loop-i : goal.invariant-loop-i
invariant-loop-i l =
    stamps_refused 0 (left l.fn.stamps) l.fn.bytes ≡ stamps_refused (enumerate_count l.i-iterator) (left (enumerate_source l.i-iterator)) l.rest
