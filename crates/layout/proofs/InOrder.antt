-- The writer's checks in their order: the strict course's, then 21, and what is laid where none refuses.
use Prim.Native.Nat.{ℕ, ◌+◌}
use native.Mathlib.Omega.{arith}
use mathlib.Core.Path.{◌≡◌, refl, sym, ap, ◌∙◌}
use mathlib.Core.Bool.{Bool, true, false, cond}
use mathlib.Core.List.{List, []}
use lib.Dec.{ltb}
use lib.ListN.{length}
use lib.Seq.{sets}
use borrow.Author.Tests.{ltb-false}
use Rattle.paper.specs.Buffers.{Work, laid, entries}
use Rattle.paper.specs.Event.{how_many}
use Rattle.paper.specs.Machine.{accepted_of}
use Rattle.paper.specs.Questions.{strict_checks, strict, Written, writing}
use Rattle.paper.specs.Refusals.{first, Refusal, of_call, Checks, Outcome, refused, done}
use Rattle.paper.specs.Sheet.{written}
use Rattle.paper.specs.Stands.{no_further, Stands}
use Rattle.paper.specs.Terms.{Terms}
use Rattle.paper.proofs.Also.{also_refused, also_late, also_done}
use Rattle.paper.proofs.Laws.Stores.{laid_front}
use Rattle.paper.proofs.RoundTrip.{list_early}
use Rattle.paper.proofs.Sheets.Parts.{list_says}
use Rattle.paper.proofs.Stands.{list_stands}
use Rattle.course.specs.Said.{wiped}
use Rattle.course.proofs.Passed.{wiped_held}
use Rattle.layout.specs.Said.{laying}
use Rattle.layout.specs.Sizes.{slot_size, slot_written}
use Rattle.layout.proofs.Sizes.{written_there, size_there}

-- The strict course accepted the list.
pub accepted : {terms : Terms} {list : List ℕ} {w w' : Work} {v : ℕ} → (done v, w') ≡ strict terms list w → Stands terms list w w'
unfolding strict
accepted {terms} {list} {w} {w'} {v} h = (list_stands [] (entries (accepted_of terms list)) v h).0

-- What the writer leaves behind.
abbrev Ends : Type 0
Ends = (Outcome Written × Work) × List ℕ

module _ (terms : Terms) (list : List ℕ) (w w' : Work) (out : List ℕ) where
  abbrev c : Checks
  c = strict_checks terms list w []

  abbrev xs : List ℕ
  xs = written terms list

  abbrev scant : Refusal
  scant = of_call (first (ltb (length out) (length xs)) 21 0)

  abbrev answer : Written
  answer = record { events = how_many list; bytes = length xs }

  -- What refuses the list refuses the writing.
  pub write_refused : {given : Refusal} → (refused given, w') ≡ strict terms list w → ◌≡◌ {A = Ends} ((refused given, w'), out) (writing terms list w out)
  unfolding strict writing
  write_refused h = also_refused c scant (entries (accepted_of terms list)) answer terms list w (laid (length xs) xs out) out _ w' h

  module _ (s : Stands terms list w w') where
    early : c.early ≡ 0
    early = (list_early terms list w []).1 (s.held.listed, (s.held.room, no_further))

    late : c.late.number ≡ 0
    late = (list_says terms list).1 s.accepted

    -- 21, or the sheet.
    too_short : ltb (length out) (length xs) ≡ true → ◌≡◌ {A = Ends} ((refused (of_call 21), wiped terms.processes (how_many list) w'), out) (writing terms list w out)
    unfolding writing
    too_short e =
        let k : scant ≡ of_call 21 = ap (λ (b : Bool). of_call (first b 21 0)) e in
        let x = wiped_held s.held in
        (λ i. ((refused (sym k i), x i), out))
        ∙ sym (also_late c scant (entries (accepted_of terms list)) answer terms list w (laid (length xs) xs out) out early late (λ z. let q : ◌≡◌ {A = ℕ} 21 0 = ap (λ (r : Refusal). r.number) (sym k) ∙ z in omega arith))

    long_enough : ltb (length out) (length xs) ≡ false → ◌≡◌ {A = Ends} ((done answer, w'), sets out 0 xs) (writing terms list w out)
    unfolding writing
    long_enough e =
        let k : scant ≡ of_call 0 = ap (λ (b : Bool). of_call (first b 21 0)) e in
        let x = s.held.is in
        let y = laid_front xs out (ltb-false (length out) (length xs) e) in
        (λ i. ((done answer, x i), y i))
        ∙ sym (also_done c scant (entries (accepted_of terms list)) answer terms list w (laid (length xs) xs out) out early late (ap (λ (r : Refusal). r.number) k))

    -- After an accepted list.
    pub write_passed : laying terms list w' out ≡ writing terms list w out
    write_passed =
        let size : 24 + length list + slot_size list w'.masks ≡ length xs = size_there s in
        let bytes : slot_written terms list w'.masks w'.values ≡ xs = written_there s in
        rw (size, bytes) (go (ltb (length out) (length xs)) refl)
      where
        go :
            (b : Bool) → ltb (length out) (length xs) ≡ b
            → ◌≡◌ {A = Ends}
            (cond b ((refused (of_call 21), wiped terms.processes (how_many list) w'), out) ((done answer, w'), sets out 0 xs)) (writing terms list w out)
        go true e = too_short e
        go false e = long_enough e
