-- With the slots that a program lends no call refuses for want of room (theorem `never_short`).
use Rattle.std.specs.Prelude.{ℕ, ◌≤◌, List, ◌≢◌, ◌≡◌, length}
use Rattle.paper.specs.Buffers.{ample}
use Rattle.paper.specs.Class.{class}
use Rattle.paper.specs.Marking.{marking}
use Rattle.paper.specs.Questions.{writing, comparing_sheet, chaining_sheet}
use Rattle.paper.specs.Reading.{reading, reading_lamport}
use Rattle.paper.specs.Refusals.{Refusal, refused}
use Rattle.paper.specs.Savings.{tallying}
use Rattle.paper.specs.Terms.{Terms}

-- A number that is not of a check for room.
abbrev pub Other : ℕ → Type 0
Other c = (c ≢ 9) × (c ≢ 21)

-- The outcomes that the programs print.
pub record NeverShort : Type 0 where
  pub classed :
      (t : Terms) (list answered : List ℕ) → 512 ≤ length answered → (r : Refusal) → (class t list ample answered).0.0 ≡ refused r → Other r.number
  pub written :
      (t : Terms) (list out : List ℕ) → 38936 ≤ length out → (r : Refusal) → (writing t list ample out).0.0 ≡ refused r → Other r.number
  pub read : (b : List ℕ) (r : Refusal) → (reading b ample).0 ≡ refused r → Other r.number
  pub numbered :
      (b numbers : List ℕ) → 512 ≤ length numbers → (r : Refusal) → (reading_lamport b ample numbers).0.0 ≡ refused r → Other r.number
  pub compared : (b : List ℕ) (i j : ℕ) (r : Refusal) → (comparing_sheet b ample i j).0 ≡ refused r → Other r.number
  pub chained :
      (b : List ℕ) (i j : ℕ) (out : List ℕ) → 31 ≤ length out → (r : Refusal) → (chaining_sheet b ample i j out).0.0 ≡ refused r → Other r.number
  pub marked :
      (b lines out : List ℕ) → 200 ≤ length out → (r : Refusal) → (marking b lines ample out).0.0 ≡ refused r → Other r.number
  pub tallied : (b : List ℕ) (r : Refusal) → (tallying b ample).0 ≡ refused r → Other r.number
