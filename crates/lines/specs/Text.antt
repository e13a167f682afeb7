-- Text in a lent buffer. A store behind the end of a list is no store, so a text that is too long is cut.
use Rattle.std.specs.Prelude.{ℕ, zero, suc, ◌≤◌, ◌≡◌, List, [], ◌++◌, length}
use Rattle.std.proofs.lemmas.List.Edits.{sets}

-- What a public function leaves: the text t from the list's start on, and r its length. Half a million bytes hold every text.
pub record Printed (l t : List ℕ) (r : ℕ) (m : List ℕ) : Type 0 where
  pub size : r ≡ length t
  pub bytes : m ≡ sets l 0 t
  pub short : r ≤ 500000

-- The texts of 0, 1, .. below k, one behind the other.
unfoldable pub each : (ℕ → List ℕ) → ℕ → List ℕ
each f zero = []
each f (suc k) = each f k ++ f k
