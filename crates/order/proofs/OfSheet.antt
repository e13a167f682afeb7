-- Comparing on a sheet: what refuses the sheet refuses the question, and on an accepted one it ends as on its list.
use Prim.Native.Nat.{ℕ}
use mathlib.Core.Path.{◌≡◌, sym, subst₂, ◌∙◌}
use mathlib.Core.List.{List, []}
use lib.ListN.{take, drop}
use Rattle.paper.specs.Buffers.{Work}
use Rattle.paper.specs.Questions.{comparing_sheet}
use Rattle.paper.specs.Reading.{read_of, reading_checks, reading}
use Rattle.paper.specs.Refusals.{Refusal, Outcome, refused}
use Rattle.paper.specs.Sheet.{terms_in, list_in}
use Rattle.paper.specs.Terms.{Terms}
use Rattle.sheet.proofs.Accepted.{Accepted}
use Rattle.order.specs.Rest.{Past, Compares}
use Rattle.order.proofs.Asked.{comparison_refused}

pub compare_refused :
    (b : List ℕ) (w : Work) (i j : ℕ) {given : Refusal} {w' : Work} → (refused given, w') ≡ reading b w → (refused given, w') ≡ comparing_sheet b w i j
unfolding reading comparing_sheet
compare_refused b w i j h = comparison_refused (reading_checks b w []) (read_of (terms_in b) (list_in b)) (terms_in b) (list_in b) w i j h

-- The list l is the one of the accepted sheet.
module _ {b : List ℕ} {w w' : Work} {t : Terms} {at size carried : ℕ} (s : Accepted b w w' t at size carried) where
  pub past : Past (reading_checks b w []) (terms_in b) (list_in b) w w'
  past = record { early = s.early; late = s.late; stands = s.stands }

  module _ {l : List ℕ} (e : l ≡ take size (drop at b)) where
    pub lent : list_in b ≡ l
    lent = s.list ∙ sym e

    pub compare_done : {i j : ℕ} {r : Outcome ℕ} {w'' : Work} → Compares t l w' i j r w'' → (r, w'') ≡ comparing_sheet b w i j
    unfolding comparing_sheet
    compare_done {i} {j} {r} {w''} h =
        (subst₂ (λ (t : Terms) (l : List ℕ). Compares t l w' i j r w'') (sym s.terms) (sym lent) h).ends (reading_checks b w []) w past
