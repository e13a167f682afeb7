-- `one_page`: two outcomes that the promise of `write_answer` allows are equal, answer and page.
use Prim.Native.Nat.{ℕ}
use mathlib.Core.List.{List}
use mathlib.Core.Path.{◌≡◌, sym, ap, ◌∙◌}
use Rattle.std.specs.Prelude.{Result, Ok, Err}
use Rattle.paper.specs.Refusals.{Outcome, refused, done}
use Rattle.write.specs.Said.{Stands}

pub one_page :
    (old : List ℕ) (o : Outcome (List ℕ)) (r s : Result ℕ ℕ) (new new' : List ℕ) → Stands old o r new → Stands old o s new'
    → (r ≡ s) × (new ≡ new')
one_page old (refused g) (Err k) (Err l) new new' p q = (ap Err (p.size ∙ sym q.size), p.bytes ∙ sym q.bytes)
one_page old (done b) (Ok k) (Ok l) new new' p q = (ap Ok (p.size ∙ sym q.size), p.bytes ∙ sym q.bytes)
one_page old (refused g) (Err k) (Ok l) new new' p q = absurd q
one_page old (refused g) (Ok k) s new new' p q = absurd p
one_page old (done b) (Ok k) (Err l) new new' p q = absurd q
one_page old (done b) (Err k) s new new' p q = absurd p
