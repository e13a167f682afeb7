-- What a list or a sheet is judged by (the paper, "The sheet"): its version, and how many processes there are.
use Rattle.std.specs.Prelude.{ℕ, Bool, not, ◌||◌, eqb, ltb}
use Rattle.paper.specs.Clock.{most_processes}

pub record Terms : Type 0 where
  pub version : ℕ
  pub processes : ℕ
  pub present : ℕ  -- of a sheet its byte 6, which is zero in version 1; no rule looks at it

-- The terms of a list lent directly, of n processes.
abbrev pub plain : ℕ → Terms
plain n = record { version = 1; processes = n; present = 0 }

-- 3: version is not 1.
abbrev pub wrong_version : Terms → Bool
wrong_version t = not (eqb t.version 1)

-- 4: process count not 1 to 32.
abbrev pub wrong_count : ℕ → Bool
wrong_count n = ltb n 1 || ltb most_processes n
