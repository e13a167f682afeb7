-- The slots that 9 names, and those of them that are left to clear.
use Rattle.std.specs.Prelude.{ℕ, ◌-◌, ◌*◌, ◌≤◌, Bool, ◌||◌, ◌&&◌, not, List, ltb, length, replicate}
use Rattle.std.proofs.lemmas.List.Edits.{sets}
use Rattle.paper.specs.Buffers.{Work}
use Rattle.paper.specs.Clock.{most_processes, most_events}

-- Whether the slots that 9 names for m events of n processes are lent.
abbrev pub named : ℕ → ℕ → ℕ → ℕ → ℕ → Bool
named n m clocks masks values =
    not (ltb most_processes n || ltb most_events m) && not (ltb clocks (n * m) || ltb masks m || ltb values (n * m))

-- Room for m offers of n processes, of which k are accepted and carry v values.
pub record Tail (n m k v : ℕ) (w : Work) : Type 0 where
  pub few : n ≤ 32
  pub short : m ≤ 512
  pub accepted : k ≤ m
  pub carried : v ≤ n * m
  pub clock : n * m ≤ length w.clocks
  pub mask : m ≤ length w.masks
  pub value : n * m ≤ length w.values

-- The slots from `from` up to `to` set to 0.
abbrev pub zeroed : ℕ → ℕ → List ℕ → List ℕ
zeroed from to old = sets old from (replicate (to - from) 0)

-- The named slots behind those of k accepted events and their v carried values set to 0.
abbrev pub swept : ℕ → ℕ → ℕ → ℕ → Work → Work
swept n m k v w =
    record {
      clocks = zeroed (n * k) (n * m) w.clocks;
      masks = zeroed k m w.masks;
      values = zeroed v (n * m) w.values;
    }
