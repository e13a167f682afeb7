-- The chain on a sheet: what refuses the sheet refuses it, and on an accepted one it ends as on its list.
use Prim.Native.Nat.{ℕ}
use mathlib.Core.Path.{◌≡◌, sym, subst₂}
use mathlib.Core.List.{List, []}
use lib.ListN.{take, drop}
use Rattle.paper.specs.Buffers.{Work}
use Rattle.paper.specs.Questions.{comparing_sheet, chaining_sheet}
use Rattle.paper.specs.Reading.{reading_checks, reading}
use Rattle.paper.specs.Refusals.{Refusal, Outcome, refused}
use Rattle.paper.specs.Sheet.{terms_in, list_in}
use Rattle.paper.specs.Stands.{Stands}
use Rattle.paper.specs.Terms.{Terms}
use Rattle.sheet.proofs.Accepted.{Accepted}
use Rattle.order.proofs.OfSheet.{lent, past, compare_refused}
use Rattle.teaching.specs.Rest.{Links}
use Rattle.teaching.proofs.Linked.{linking_refused}

pub chain_refused :
    (b : List ℕ) (w : Work) (i j : ℕ) {given : Refusal} {w' : Work} → (refused given, w') ≡ reading b w
    → (out : List ℕ) → ((refused given, w'), out) ≡ chaining_sheet b w i j out
unfolding chaining_sheet comparing_sheet
chain_refused b w i j h out = linking_refused (reading_checks b w []) (terms_in b) (list_in b) w i j out (compare_refused b w i j h)

-- The list l is the one of the accepted sheet.
module _ {b : List ℕ} {w w' : Work} {t : Terms} {at size carried : ℕ} (s : Accepted b w w' t at size carried)
    {l : List ℕ} (e : l ≡ take size (drop at b)) where
  pub some_stands : (v : Work) × Stands t l v w'
  some_stands = (w, subst₂ (λ (t : Terms) (l : List ℕ). Stands t l w w') s.terms (lent s e) s.stands)

  pub chain_done :
      {i j : ℕ} {r : Outcome ℕ} {w'' : Work} {out out' : List ℕ} → Links t l w' i j out r w'' out' → ((r, w''), out') ≡ chaining_sheet b w i j out
  unfolding chaining_sheet
  chain_done {i} {j} {r} {w''} {out} {out'} h =
      (subst₂ (λ (t : Terms) (l : List ℕ). Links t l w' i j out r w'' out') (sym s.terms) (sym (lent s e)) h).ends (reading_checks b w []) w (past s)
