-- The text that is printed for each case of class mode's outcome is the program's answer.
use Prim.Native.Nat.{ℕ}
use mathlib.Core.List.{List, [], ◌∷◌}
use mathlib.Core.Path.{◌≡◌, ap, sym, ◌∙◌}
use lib.ListN.{replicate}
use Rattle.paper.specs.Buffers.{Work, laid, ample}
use Rattle.paper.specs.Class.{Classed, classed_of, class_checks, class}
use Rattle.paper.specs.Event.{how_many}
use Rattle.paper.specs.Listing.{refusal_line}
use Rattle.paper.specs.Machine.{answers_of}
use Rattle.paper.specs.Refusals.{Refusal, Outcome, refused, done}
use Rattle.paper.specs.Terms.{Terms}
use Rattle.paper.proofs.Also.{call_done}
use Rattle.paper.proofs.Laws.Refused.{after_done}
use Rattle.paper.proofs.Stands.{class_held}
use Rattle.lines.specs.Programs.{class_text, class_listing}
use Rattle.lines.proofs.Faithful.{class_after}
use Rattle.desk.specs.Answers.{text_of}
use Rattle.class.specs.Answer.{class_answer}

module _ (t : Terms) (list : List ℕ) (after : Work) (answered : List ℕ) where
  abbrev lent : List ℕ
  lent = replicate 512 0

  abbrev Ends : Type 0
  Ends = (Outcome Classed × Work) × List ℕ

  -- A refusal's line.
  pub class_refused : (r : Refusal) → ((refused r, after), answered) ≡ class t list ample lent → refusal_line r ≡ class_answer t list
  unfolding class_answer
  class_refused r e = ap (λ (x : Ends). text_of (λ k. class_listing t list) x.0.0) e

  -- The text over the slots that the call leaves.
  pub class_done :
      (c : Classed) → ((done c, after), answered) ≡ class t list ample lent
      → class_text t.processes list answered after.clocks after.masks c.accepted c.carried ≡ class_answer t list
  unfolding class class_answer
  class_done c e =
      let checks = class_checks t list ample (lent ∷ []) in
      let left = ap (λ (x : Ends). x.0) e in
      let ((early, late), equal, rest) = call_done checks (classed_of t list) c t list ample after left in
      let (held, same) = class_held (lent ∷ []) (classed_of t list) c left in
      let told : answered ≡ laid (how_many list) (answers_of t list) lent = ap (λ (x : Ends). x.1) e ∙ after_done checks _ (laid (how_many list) [] lent) lent early late in
      (λ i. class_text t.processes list (told i) after.clocks after.masks (sym same i).accepted (sym same i).carried)
      ∙ class_after held lent
      ∙ ap (λ (x : Ends). text_of (λ k. class_listing t list) x.0.0) e
