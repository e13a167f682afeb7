-- The list of an accepted sheet is as long as its header says, so the number of its events is told by its size.
use Prim.Native.Nat.{ℕ, ◌/◌}
use mathlib.Core.Path.{◌≡◌, refl, sym, ap, ◌∙◌}
use Rattle.std.specs.Prelude.{Result, Ok, Err}
use Rattle.clock.specs.Said.{told}
use Rattle.clock.specs.declared.Refusal.{Refusal}
use mathlib.Core.List.{List, [], ◌∷◌}
use lib.ListN.{take, drop}
use Rattle.paper.specs.Buffers.{Work}
use Rattle.paper.specs.Event.{how_many}
use Rattle.paper.specs.Reading.{Read, read_of, reading_checks, reading, reading_lamport}
use Rattle.paper.specs.Refusals.{refusal_of, Outcome, done}
use Rattle.paper.specs.Sheet.{terms_in, list_in}
use Rattle.paper.specs.Stands.{no_further}
use Rattle.paper.specs.Terms.{Terms}
use Rattle.paper.proofs.Also.{call_done}
use Rattle.paper.proofs.Laws.Refused.{after_done}
use Rattle.paper.proofs.ReadExactly.{early_says}
use Rattle.paper.proofs.Sheets.Checks.{placed, is_done}
use Rattle.sheet.specs.Said.{read_as, Where, Reads, Numbers}
use Rattle.sheet.specs.declared.Contents as declared
use Rattle.sheet.proofs.Accepted.{Accepted, accepted}
use Rattle.oboefinch.specs.Packed.{Fields, fields, read_fields}
use Rattle.oboefinch.proofs.Given.{Tells}

module _ {b : List ℕ} {w after : Work} {t : Terms} {at size carried : ℕ} (s : Accepted b w after t at size carried) where
  pub many : how_many (take size (drop at b)) ≡ size / 8
  many = ap how_many (sym s.list) ∙ s.many

-- A sheet that is accepted where Lamport numbers are asked for is accepted by reading.
pub plainly :
    (b : List ℕ) (w : Work) (numbers : List ℕ) {p : Outcome Read} {a : Read} {after : Work} {left : List ℕ} → p ≡ done a
    → ((p, after), left) ≡ reading_lamport b w numbers → (p, after) ≡ reading b w
unfolding reading reading_lamport
plainly b w numbers {p} {a} {after} case e =
    let c = reading_checks b w (numbers ∷ []) in
    let plain = reading_checks b w [] in
    let given = ap (λ (x : (Outcome Read × Work) × List ℕ). x.0) e in
    let ((early, late), same, is) =
    call_done c (read_of (terms_in b) (list_in b)) a (terms_in b) (list_in b) w after (ap (λ (o : Outcome Read). (o, after)) (sym case) ∙ given) in
    let (head, (room, more)) = (early_says b w (numbers ∷ [])).0 early in
    let first = (early_says b w []).1 (head, (room, no_further)) in
    let x = case ∙ sym ((is_done (refusal_of plain) (read_of (terms_in b) (list_in b)) a).1 ((placed plain).1 (first, late), same)) in
    let y = is ∙ sym (after_done plain _ _ w first late) in
    λ i. (x i, y i)

-- The fields that are told of what was read.
abbrev pub contents_fields : Result declared.Contents Refusal → Fields
contents_fields r = fields (λ (c : declared.Contents). record { number = 0; x = c.terms.processes; y = c.size / 8; z = c.carried }) (told (λ x. x) r)

module _ (b : List ℕ) (w : Work) {after : Work} where
  pub tells_read : (r : Result declared.Contents Refusal) → Reads b w r after × Where b r → Tells read_fields (contents_fields r) (read_as b r)
  tells_read (Err e) h = record { is = refl }
  tells_read (Ok c) h =
      record { is = ap (λ (y : ℕ). record { number = 0; x = c.terms.processes; y = y; z = c.carried }) (sym (many (accepted b w {c = c} refl h))) }

  pub tells_numbers :
      (numbers : List ℕ) {left : List ℕ} (r : Result declared.Contents Refusal) → Numbers b w numbers r after left × Where b r
      → Tells read_fields (contents_fields r) (read_as b r)
  tells_numbers numbers (Err e) h = record { is = refl }
  tells_numbers numbers (Ok c) (h, place) = tells_read (Ok c) (plainly b w numbers refl h, place)
