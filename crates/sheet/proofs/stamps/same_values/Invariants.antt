use Rattle.std.proofs.Common.{◌≡◌, ℕ, ◌*◌, ◌<◌, ◌↔◌, get_or}
use Rattle.std.specs.Prelude.{IsTrue}
use Rattle.paper.specs.Bytes.{two}
use Rattle.sheet.proofs.stamps.same_values.Given as goal

abbrev pub invariant-loop-j : goal.invariant-loop-j
invariant-loop-j l = IsTrue l.same ↔ ((k : ℕ) → k < l.j → two l.bytes (2 * k) ≡ get_or l.values k 0)
