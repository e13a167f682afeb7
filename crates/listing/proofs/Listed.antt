-- The text that is printed for each case of a reading is the text of its outcome.
use Prim.Native.Nat.{ℕ}
use Rattle.std.specs.Prelude.{Bool, true, false, cond}
use mathlib.Core.List.{List, [], ◌∷◌}
use mathlib.Core.Path.{◌≡◌, refl, sym, ap, ◌∙◌}
use native.Mathlib.Omega.{arith}
use lib.ListN.{take, drop, replicate, length-replicate}
use Rattle.paper.specs.Buffers.{Work, laid, ample}
use Rattle.paper.specs.Event.{how_many}
use Rattle.paper.specs.Lamport.{lamports}
use Rattle.paper.specs.Listing.{refusal_line}
use Rattle.paper.specs.Machine.{accepted_of}
use Rattle.paper.specs.Reading.{Read, read_of, reading_checks, reading, reading_lamport}
use Rattle.paper.specs.Refusals.{Refusal, Outcome, refused, done, refusal_of}
use Rattle.paper.specs.Sheet.{terms_in, list_in}
use Rattle.paper.specs.Terms.{Terms}
use Rattle.paper.proofs.Also.{call_done}
use Rattle.paper.proofs.Ample.{reading_unasked}
use Rattle.paper.proofs.Laws.Refused.{after_done}
use Rattle.paper.proofs.Sheets.Checks.{placed, is_done}
use Rattle.sheet.proofs.Accepted.{Accepted}
use Rattle.lines.specs.Slots.{listing_text, listing_lamport_text}
use Rattle.lines.proofs.Faithful.{listing_after, lamport_after}
use Rattle.desk.specs.Answers.{text_of}
use Rattle.listing.specs.Answer.{listed, lamport_listed, listing_answer, listing_lamport_answer}

-- The 512 slots for Lamport numbers are always enough: reading is as without them.
pub as_read :
    (b : List ℕ) {x : Outcome Read × Work} {told : List ℕ} → (x, told) ≡ reading_lamport b ample (replicate 512 0) → x ≡ reading b ample
as_read b e =
    ap (λ (y : (Outcome Read × Work) × List ℕ). y.0) e ∙ reading_unasked (replicate 512 0) (omega (arith, length-replicate {A = ℕ} 512 0)) b ample

as_asked : (f : Read → List ℕ) (b : List ℕ) → text_of f (reading b ample).0 ≡ text_of f (reading_lamport b ample (replicate 512 0)).0.0
as_asked f b = ap (λ (x : Outcome Read × Work). text_of f x.0) (sym (as_read b refl))

module _ (b : List ℕ) {after : Work} {r : Refusal} (e : (refused r, after) ≡ reading b ample) where
  line : (f : Read → List ℕ) → refusal_line r ≡ text_of f (reading b ample).0
  line f = ap (λ (x : Outcome Read × Work). text_of f x.0) e

  pub listing_refused : refusal_line r ≡ listing_answer b
  unfolding listing_answer
  listing_refused = line listed

  pub lamport_refused : refusal_line r ≡ listing_lamport_answer b
  unfolding listing_lamport_answer
  lamport_refused = line lamport_listed ∙ as_asked lamport_listed b

  pub either_refused : (lamport : Bool) → refusal_line r ≡ cond lamport (listing_lamport_answer b) (listing_answer b)
  either_refused lamport =
      elim lamport as (λ x. refusal_line r ≡ cond x (listing_lamport_answer b) (listing_answer b)) [ true ↦ lamport_refused | false ↦ listing_refused ]

module _ {b : List ℕ} {after : Work} {t : Terms} {at size carried : ℕ} (s : Accepted b ample after t at size carried) where
  -- What is read is the sheet's own list.
  read_so : (f : Read → List ℕ) → text_of f (reading b ample).0 ≡ f (read_of (terms_in b) (list_in b))
  unfolding reading
  read_so f =
      let c = reading_checks b ample [] in
      let read = read_of (terms_in b) (list_in b) in
      ap (text_of f) ((is_done (refusal_of c) read read).1 ((placed c).1 (s.early, s.late), refl))

  pub listing_done : {l : List ℕ} → l ≡ take size (drop at b) → listing_text t.processes l after.clocks after.masks carried ≡ listing_answer b
  unfolding listing_answer read_of
  listing_done {l} lent =
      let whole : list_in b ≡ l = s.list ∙ sym lent in
      sym (λ i. listing_text (s.terms i).processes (whole i) after.clocks after.masks (s.values i))
      ∙ listing_after s.stands
      ∙ sym (read_so listed)

  -- The numbers stand in their slots.
  pub lamport_done :
      {x : Read} {l numbers : List ℕ} → l ≡ take size (drop at b) → ((done x, after), numbers) ≡ reading_lamport b ample (replicate 512 0)
      → listing_lamport_text t.processes l after.clocks after.masks numbers carried ≡ listing_lamport_answer b
  unfolding reading_lamport listing_lamport_answer read_of
  lamport_done {x} {l} {numbers} lent e =
      let whole : list_in b ≡ l = s.list ∙ sym lent in
      let zeros : List ℕ = replicate 512 0 in
      let c = reading_checks b ample (zeros ∷ []) in
      let left = ap (λ (y : (Outcome Read × Work) × List ℕ). y.0) e in
      let ((early, late), same, rest) = call_done c (read_of (terms_in b) (list_in b)) x (terms_in b) (list_in b) ample after left in
      let told : numbers ≡ laid (how_many (list_in b)) (lamports (accepted_of (terms_in b) (list_in b))) zeros =
      ap (λ (y : (Outcome Read × Work) × List ℕ). y.1) e ∙ after_done c _ _ zeros early late in
      sym (λ i. listing_lamport_text (s.terms i).processes (whole i) after.clocks after.masks (sym told i) (s.values i))
      ∙ lamport_after s.stands zeros
      ∙ sym (read_so lamport_listed)
      ∙ as_asked lamport_listed b
