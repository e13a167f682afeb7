-- The text that is printed for each case of the question's outcome is the text of that outcome.
use Prim.Native.Nat.{ℕ}
use native.Mathlib.Omega.{arith}
use mathlib.Core.List.{List, []}
use mathlib.Core.Path.{◌≡◌, sym, ap, ◌∙◌}
use lib.ListN.{length, replicate}
use Rattle.paper.specs.Buffers.{Work, laid, ample}
use Rattle.paper.specs.Chain.{chain}
use Rattle.paper.specs.Listing.{refusal_line}
use Rattle.paper.specs.Machine.{accepted_of}
use Rattle.paper.specs.Questions.{chained, chaining_sheet}
use Rattle.paper.specs.Reading.{reading_checks}
use Rattle.paper.specs.Refusals.{Refusal, Outcome, refused, done}
use Rattle.paper.specs.Sheet.{terms_in, list_in}
use Rattle.paper.proofs.Also.{call_done}
use Rattle.paper.proofs.Laws.Refused.{after_done}
use Rattle.paper.proofs.Lent.{lent}
use Rattle.lines.specs.Programs.{chain_line, chain_text}
use Rattle.lines.proofs.Faithful.{laid_enough, chain_after}
use Rattle.desk.specs.Answers.{text_of}
use Rattle.chain.specs.Answer.{chain_answer}

module _ (b : List ℕ) (i j : ℕ) where
  abbrev room : List ℕ
  room = replicate 31 0

  abbrev path : List ℕ
  path = chain (accepted_of (terms_in b) (list_in b)) i j

  abbrev Ends : Type 0
  Ends = (Outcome ℕ × Work) × List ℕ

  pub chain_refused :
      {after : Work} {slots : List ℕ} {r : Refusal} → ((refused r, after), slots) ≡ chaining_sheet b ample i j room → refusal_line r ≡ chain_answer b i j
  unfolding chain_answer
  chain_refused e = ap (λ (x : Ends). text_of (λ k. chain_line path) x.0.0) e

  -- The chain stands at the front of its slots.
  pub chain_done :
      {after : Work} {slots : List ℕ} {k : ℕ} → ((done k, after), slots) ≡ chaining_sheet b ample i j room
      → chain_text slots k ≡ chain_answer b i j
  unfolding chaining_sheet chain_answer
  chain_done {after} {slots} {k} e =
      let c = chained (reading_checks b ample []) (terms_in b) (list_in b) i j room in
      let ((early, late), same, rest) = call_done c (length path) k (terms_in b) (list_in b) ample after (ap (λ (x : Ends). x.0) e) in
      let stands : slots ≡ laid (length path) path room = ap (λ (x : Ends). x.1) e ∙ after_done c _ room room early late in
      let many : length slots ≡ 31 = ap (λ (x : Ends). length x.1) e ∙ (lent.chained_sheet b ample i j room).1 in
      (λ l. chain_text (stands l) (sym same l))
      ∙ chain_after path room (omega (arith, many, ap length stands, laid_enough (length path) path room))
      ∙ ap (λ (x : Ends). text_of (λ k. chain_line path) x.0.0) e
