-- What is printed of an input that is served.
use Rattle.std.specs.Prelude.{◌≡◌, ℕ, ◌<◌, ◌≤◌, List, Option, Some, None, Result, Ok, Err, IfSome, OnOk, length, take}
use Rattle.std.proofs.Common.{subst, ◌∙◌}
use Rattle.std.specs.Io.KnownBytes.{Appends, Keeps}
use denote.Ref.{Bor, MutBor}
use Rattle.lines.specs.Text.{Printed}
use Rattle.desk.specs.Serving.{Answerer, AnswersAt, PrintsAnswer}
use Rattle.desk.proofs.Printed.{printed_front}

-- What is said of each answer of the closure is said of that on what is read.
pub said_of : {F T : Type 0} (g : Answerer F T) (f : F)
    (P : List ℕ → List ℕ → T → List ℕ → Type 0) (read page page' : List ℕ) (r : T) → AnswersAt g f read page r page'
    → ((lent : Bor (List ℕ)) (shown left : MutBor (List ℕ)) (r : T) → g.post f (lent, (shown, tt)) (r, (left, tt)) → P lent.now shown.now r left.now)
    → P read page r page'
said_of g f P read page page' r a told =
    subst (λ l. P l page r page') a.reads
    (subst (λ l. P a.lent.now l r page') a.shows (subst (P a.lent.now a.shown.now r) a.leaves (told a.lent a.shown a.left r a.met)))

module _ {F : Type 0} (g : Answerer F ℕ) (f : F) (n : ℕ) where
  -- Where the closure answers and its page is printed, its answer is.
  pub prints_answer : {T E : Type 0} (input before after : Option (List ℕ)) (result : Result T E) (page page' : List ℕ) (r : ℕ)
      → IfSome input (λ all. AnswersAt g f (take n all) page r page') → length page' ≡ 500000
      → OnOk result (r ≤ 500000 → Appends before after (take r page')) → OnOk result (500000 < r → Keeps before after)
      → OnOk result (IfSome input (λ all. PrintsAnswer g f (take n all) before after))
  prints_answer input before after (Err e) page page' r answers whole fits longer = tt
  prints_answer None before after (Ok x) page page' r answers whole fits longer = tt
  prints_answer (Some all) before after (Ok x) page page' r answers whole fits longer =
      record { page = _; page' = _; size = _; answers = answers; whole = whole; fits = fits; longer = longer }

  -- Where the closure always prints the text t of what it is lent, and n bytes are enough for t, the t of the whole input is printed.
  pub served : {T E : Type 0} (t : List ℕ → List ℕ) (input before after : Option (List ℕ)) (result : Result T E)
      → ((all : List ℕ) → t (take n all) ≡ t all) → OnOk result (IfSome input (λ all. PrintsAnswer g f (take n all) before after))
      → ((lent : Bor (List ℕ)) (shown left : MutBor (List ℕ)) (r : ℕ) → g.post f (lent, (shown, tt)) (r, (left, tt)) → Printed shown.now (t lent.now) r left.now)
      → OnOk result (IfSome input (λ all. Appends before after (t all)))
  served t input before after (Err e) enough p told = tt
  served t None before after (Ok x) enough p told = tt
  served t (Some all) before after (Ok x) enough p told =
      let printed : Printed p.page (t (take n all)) p.size p.page' =
      said_of g f (λ read page r page'. Printed page (t read) r page') (take n all) p.page p.page' p.size p.answers told in
      subst (Appends before after) (printed_front printed p.whole ∙ enough all) (p.fits printed.short)
