-- What stands on the page is printed on the stream that it is for; the other stream keeps what it holds.
use Rattle.std.specs.Prelude.{◌≡◌, ℕ, ◌≤◌, List, Option, Some, None, Result, Ok, Err, IfSome, OnOk, length, take}
use Rattle.std.proofs.Common.{subst}
use Rattle.std.proofs.KnownBytes.{Keeps-refl}
use Rattle.std.specs.Io.KnownBytes.{Appends}
use Rattle.paper.specs.Refusals.{Outcome, refused, done}
use denote.Ref.{Bor, MutBor}
use Rattle.desk.specs.Serving.{Answerer, AnswersAt}
use Rattle.desk.proofs.Printed.{printed_front}
use Rattle.desk.proofs.Served.{said_of}
use Rattle.write.specs.Said.{Stands}
use Rattle.write.specs.Streams.{Prints}

sheet_out : (o : Outcome (List ℕ)) (out out' err : Option (List ℕ)) (l m : List ℕ) (r : ℕ)
    → Stands l o (Ok r) m → length m ≡ 500000 → (r ≤ 500000 → Appends out out' (take r m)) → Prints o out out' err err
sheet_out (refused x) out out' err l m r stands whole prints = absurd stands
sheet_out (done sheet) out out' err l m r stands whole prints =
    (subst (Appends out out') (printed_front stands whole) (prints stands.short), Keeps-refl err)

line_out : (o : Outcome (List ℕ)) (out err err' : Option (List ℕ)) (l m : List ℕ) (r : ℕ)
    → Stands l o (Err r) m → length m ≡ 500000 → (r ≤ 500000 → Appends err err' (take r m)) → Prints o out out err err'
line_out (refused x) out err err' l m r stands whole prints =
    (Keeps-refl out, subst (Appends err err') (printed_front stands whole) (prints stands.short))
line_out (done sheet) out err err' l m r stands whole prints = absurd stands

-- The closure leaves on the page what f gives of what it is lent, of which n bytes are enough: what f gives of the whole input is printed.
module _ {F : Type 0} (g : Answerer F (Result ℕ ℕ)) (closure : F)
    (f : List ℕ → Outcome (List ℕ)) (n : ℕ) (enough : (all : List ℕ) → f (take n all) ≡ f all) where
  abbrev Told : Type 0
  Told =
      (lent : Bor (List ℕ)) (shown left : MutBor (List ℕ)) (w : Result ℕ ℕ) → g.post closure (lent, (shown, tt)) (w, (left, tt))
      → Stands shown.now (f lent.now) w left.now

  stands : (all l m : List ℕ) (w r : Result ℕ ℕ) → AnswersAt g closure (take n all) l w m → Told → w ≡ r → Stands l (f all) r m
  stands all l m w r answers told is =
      subst (λ o. Stands l o r m) (enough all)
      (subst (λ w. Stands l (f (take n all)) w m) is (said_of g closure (λ read p w p'. Stands p (f read) w p') (take n all) l m w answers told))

  pub sheet_printed : {T E : Type 0} (input out out' err : Option (List ℕ)) (result : Result T E) (l m : List ℕ) (w : Result ℕ ℕ) (r : ℕ)
      → IfSome input (λ all. AnswersAt g closure (take n all) l w m) → w ≡ Ok r → length m ≡ 500000
      → OnOk result (r ≤ 500000 → Appends out out' (take r m)) → Told → OnOk result (IfSome input (λ all. Prints (f all) out out' err err))
  sheet_printed input out out' err (Err e) l m w r answers is whole prints told = tt
  sheet_printed None out out' err (Ok x) l m w r answers is whole prints told = tt
  sheet_printed (Some all) out out' err (Ok x) l m w r answers is whole prints told =
      sheet_out (f all) out out' err l m r (stands all l m w (Ok r) answers told is) whole prints

  pub line_printed : {T E : Type 0} (input out err err' : Option (List ℕ)) (result : Result T E) (l m : List ℕ) (w : Result ℕ ℕ) (r : ℕ)
      → IfSome input (λ all. AnswersAt g closure (take n all) l w m) → w ≡ Err r → length m ≡ 500000
      → OnOk result (r ≤ 500000 → Appends err err' (take r m)) → Told → OnOk result (IfSome input (λ all. Prints (f all) out out err err'))
  line_printed input out err err' (Err e) l m w r answers is whole prints told = tt
  line_printed None out err err' (Ok x) l m w r answers is whole prints told = tt
  line_printed (Some all) out err err' (Ok x) l m w r answers is whole prints told =
      line_out (f all) out err err' l m r (stands all l m w (Err r) answers told is) whole prints
