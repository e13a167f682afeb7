-- What is claimed of the saving (request 5; theorems `nearest_right`, `saved_right`, `stored_right`).
use Rattle.std.specs.Prelude.{ℕ, ◌+◌, ◌-◌, ◌*◌, ◌^◌, ◌≤◌, ◌<◌, ◌≡◌, ◌↔◌, false, List, T, Float, length, get_or}
use Rattle.std.specs.Float.{binary64}
use Rattle.std.specs.Float.Ieee.{low, fits}
use Rattle.std.specs.Float.Ieee.Exact.{HasValue}
use Rattle.paper.specs.Buffers.{entries}
use Rattle.paper.specs.Event.{send}
use Rattle.paper.specs.Machine.{Clocked}
use Rattle.paper.specs.Marking.{NumberOf}
use Rattle.paper.specs.Order.{event_of}
use Rattle.paper.specs.Savings.{Counts, whole, nearest, Saving, no_messages, percent}

-- How far two numbers lie apart.
abbrev pub apart : ℕ → ℕ → ℕ
apart a b = (a - b) + (b - a)

-- Of p / q: the float x is a whole number of units of 2 ^ -1074, the smallest 64-bit float above 0, and so is every other that is not negative. Times q and
-- that power of two, no such float y is nearer.
pub record NearestTo (p q : ℕ) (x : Float) : Type 0 where
  pub held : T (fits binary64 x)
  pub units : ℕ
  pub is : HasValue x false units (2 ^ low binary64)
  pub none_nearer :
      (y : Float) (v : ℕ) → T (fits binary64 y) → HasValue y false v (2 ^ low binary64)
      → apart (units * q) (p * 2 ^ low binary64) ≤ apart (v * q) (p * 2 ^ low binary64)

-- The counts of a sheet that is not refused, as the code's numbers hold them.
pub record Bounds (c : Counts) : Type 0 where
  pub some : 1 ≤ c.processes
  pub few : c.processes ≤ 32
  pub brief : c.sends ≤ 512
  pub never : c.carried ≤ whole c

-- What is told of accepted events of n processes is right: of k sends, all that there are.
pub record RightlySaved (n : ℕ) (cs : List Clocked) (s : Saving) : Type 0 where
  pub empty : (s ≡ no_messages) ↔ ((a : ℕ) → a < length cs → (event_of cs a).kind ≡ send → ⊥)
  pub figure :
      (k : ℕ) → NumberOf (λ a. (event_of cs a).kind ≡ send) (length cs) k → 0 < k
      → let p = 100 * (n * k - entries cs) in
      (s ≡ percent (nearest p (n * k))) × NearestTo p (n * k) (nearest p (n * k))
  pub never_more : (k : ℕ) → NumberOf (λ a. (event_of cs a).kind ≡ send) (length cs) k → entries cs ≤ n * k

-- What stands in the lent slots afterwards: the percentage in the first one, and in the others what they held; all as they were where there are no messages.
pub record RightlyStored (s : Saving) (old new : List Float) : Type 0 where
  pub figure : (x : Float) → s ≡ percent x → (d : Float) → get_or new 0 d ≡ x
  pub others : (k : ℕ) → 1 ≤ k → (d : Float) → get_or new k d ≡ get_or old k d
  pub no_figure : s ≡ no_messages → new ≡ old
