-- What is said of a closure that answers an input, and of what is printed of its answer.
use Rattle.std.specs.Prelude.{◌≡◌, ℕ, ◌<◌, ◌≤◌, List, Option, length, take}
use Rattle.std.specs.Fn.{Once}
use Rattle.std.specs.Io.KnownBytes.{Appends, Keeps}
use denote.Ref.{Bor, MutBor}

-- The closures of type F that take what is read and a page, and give a T.
abbrev pub Answerer : Type 0 → Type 0 → Type 1
Answerer F T = Once F (Bor (List ℕ) × (MutBor (List ℕ) × Unit {0})) (T × (MutBor (List ℕ) × Unit {0}))

-- Lent what is read and a page, f may give r and leave page' there.
pub record AnswersAt {F T : Type 0} (g : Answerer F T) (f : F) (read page : List ℕ) (r : T) (page' : List ℕ) : Type 0 where
  pub lent : Bor (List ℕ)
  pub reads : lent.now ≡ read
  pub shown : MutBor (List ℕ)
  pub shows : shown.now ≡ page
  pub left : MutBor (List ℕ)
  pub met : g.post f (lent, (shown, tt)) (r, (left, tt))
  pub leaves : left.now ≡ page'

-- As many bytes as f says of what is read, at most a page, are printed of the page that f leaves.
pub record PrintsAnswer {F : Type 0} (g : Answerer F ℕ) (f : F) (read : List ℕ) (before after : Option (List ℕ)) : Type 0 where
  pub page : List ℕ
  pub page' : List ℕ
  pub size : ℕ
  pub answers : AnswersAt g f read page size page'
  pub whole : length page' ≡ 500000
  pub fits : size ≤ 500000 → Appends before after (take size page')
  pub longer : 500000 < size → Keeps before after
