-- Lamport's clock by rules LC1 and LC2 (b): one more than the larger of the process's value and the message's, as far as 16 bits hold it.
use Rattle.std.specs.Prelude.{ℕ, ◌+◌, max, min}

abbrev pub one_up : ℕ → ℕ → ℕ
one_up own t = min 65535 (max own t + 1)
