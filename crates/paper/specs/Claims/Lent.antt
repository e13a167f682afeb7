-- What a call leaves of the length of every lent slice (theorem `lent`).
use Rattle.std.specs.Prelude.{ℕ, ◌≡◌, List, Float, length}
use Rattle.paper.specs.Buffers.{Work}
use Rattle.paper.specs.Class.{class, class_lamport}
use Rattle.paper.specs.Marking.{marking}
use Rattle.paper.specs.Questions.{strict, strict_lamport, writing, comparing, comparing_sheet, chaining, chaining_sheet}
use Rattle.paper.specs.Reading.{reading, reading_lamport}
use Rattle.paper.specs.Savings.{tallying, savings, storing}
use Rattle.paper.specs.Terms.{Terms}

-- Work buffers v as long as w.
pub record SameLengths (v w : Work) : Type 0 where
  pub clocks : length v.clocks ≡ length w.clocks
  pub masks : length v.masks ≡ length w.masks
  pub values : length v.values ≡ length w.values

-- Of every input of every call that is lent slices to write in.
pub record Lent : Type 0 where
  pub read : (b : List ℕ) (w : Work) → SameLengths (reading b w).1 w
  pub read_lamport :
      (b : List ℕ) (w : Work) (numbers : List ℕ)
      → SameLengths (reading_lamport b w numbers).0.1 w × (length (reading_lamport b w numbers).1 ≡ length numbers)
  pub classed :
      (t : Terms) (list : List ℕ) (w : Work) (answered : List ℕ)
      → SameLengths (class t list w answered).0.1 w × (length (class t list w answered).1 ≡ length answered)
  pub classed_lamport :
      (t : Terms) (list : List ℕ) (w : Work) (answered numbers : List ℕ)
      → SameLengths (class_lamport t list w answered numbers).0.1 w
      × (length (class_lamport t list w answered numbers).1 ≡ length answered)
      × (length (class_lamport t list w answered numbers).2 ≡ length numbers)
  pub judged : (t : Terms) (list : List ℕ) (w : Work) → SameLengths (strict t list w).1 w
  pub judged_lamport :
      (t : Terms) (list : List ℕ) (w : Work) (numbers : List ℕ)
      → SameLengths (strict_lamport t list w numbers).0.1 w × (length (strict_lamport t list w numbers).1 ≡ length numbers)
  pub written :
      (t : Terms) (list : List ℕ) (w : Work) (out : List ℕ)
      → SameLengths (writing t list w out).0.1 w × (length (writing t list w out).1 ≡ length out)
  pub compared : (t : Terms) (list : List ℕ) (w : Work) (a b : ℕ) → SameLengths (comparing t list w a b).1 w
  pub chained :
      (t : Terms) (list : List ℕ) (w : Work) (a b : ℕ) (out : List ℕ)
      → SameLengths (chaining t list w a b out).0.1 w × (length (chaining t list w a b out).1 ≡ length out)
  pub compared_sheet : (b : List ℕ) (w : Work) (i j : ℕ) → SameLengths (comparing_sheet b w i j).1 w
  pub chained_sheet :
      (b : List ℕ) (w : Work) (i j : ℕ) (out : List ℕ)
      → SameLengths (chaining_sheet b w i j out).0.1 w × (length (chaining_sheet b w i j out).1 ≡ length out)
  pub marked :
      (b : List ℕ) (w : Work) (lines out : List ℕ)
      → SameLengths (marking b lines w out).0.1 w × (length (marking b lines w out).1 ≡ length out)
  pub tallied : (b : List ℕ) (w : Work) → SameLengths (tallying b w).1 w
  pub saved : (b : List ℕ) (w : Work) → SameLengths (savings b w).1 w
  pub stored : (b : List ℕ) (w : Work) (out : List Float) → SameLengths (storing b w out).0.1 w × (length (storing b w out).1 ≡ length out)
