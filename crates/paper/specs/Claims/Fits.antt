-- A clock is thirty-two numbers, of which the first n are used and the rest stay 0 (the paper, "Clocks and stamps"; theorem `sizes`).
use Rattle.std.specs.Prelude.{ℕ, ◌≤◌, ◌≡◌, length}
use Rattle.paper.specs.Clock.{Clock, most_processes, part}

pub record Fits (n most : ℕ) (v : Clock) : Type 0 where
  pub thirty_two : length v ≡ most_processes
  pub spare : (k : ℕ) → n ≤ k → part v k ≡ 0
  pub bounded : (k : ℕ) → part v k ≤ most
