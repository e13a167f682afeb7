-- A stamp's mask and values fit each other, p telling which components are carried (the paper, "Clocks and stamps"; theorem `ones`).
use Rattle.std.specs.Prelude.{ℕ, ◌≤◌, ◌<◌, ◌≡◌, Bool, false, length}
use Rattle.std.specs.Int.Count.{ones as ones_of}
use Rattle.paper.specs.Clock.{most_processes}
use Rattle.paper.specs.Stamp.{Stamp, bit}

pub record Ones (p : ℕ → Bool) (t : Stamp) : Type 0 where
  pub many : ones_of t.mask ≡ length t.values
  pub which : (k : ℕ) → k < most_processes → bit t.mask k ≡ p k
  pub no_other : (k : ℕ) → most_processes ≤ k → bit t.mask k ≡ false
