-- `read_back`: what `write` has written, `read` accepts, over any work buffers that are long enough, as the same terms and the same list.
-- By the two promises alone: the bytes are those of the paper's writer, and the paper's reader accepts them as `round_trip` says.
use Prim.Native.Nat.{ℕ}
use native.Mathlib.Omega.{arith}
use mathlib.Core.Bool.{false}
use mathlib.Core.List.{List}
use mathlib.Core.Path.{◌≡◌, sym, ap, ◌∙◌, subst}
use lib.ListN.{take, drop}
use Rattle.paper.specs.Buffers.{Work, short}
use Rattle.paper.specs.Event.{how_many}
use Rattle.paper.specs.Questions.{Written}
use Rattle.paper.specs.Reading.{Read, read_of, reading}
use Rattle.paper.specs.Refusals.{Outcome, done}
use Rattle.paper.specs.Sheet.{written}
use Rattle.paper.specs.Terms.{Terms}
use Rattle.clock.specs.Said.{stated}
use Rattle.paper.proofs.ReadExactly.{read_exactly}
use Rattle.paper.proofs.RoundTrip.{round_trip}
use Rattle.paper.proofs.Sheets.Checks.{room}
use Rattle.sheet.specs.Said.{read_as, Reads}
use Rattle.layout.specs.Said.{Writes}
use Rattle.std.specs.Prelude.{Result, Ok, Err}
use Rattle.clock.specs.declared.Refusal.{Refusal}
use Rattle.sheet.specs.declared.Contents.{Contents}

-- The answer r accepts the sheet b, and says these terms and this list.
abbrev pub Accepts : Terms → List ℕ → List ℕ → Result Contents Refusal → Type 0
Accepts terms list b (Err r) = ⊥
Accepts terms list b (Ok c) = (stated c.terms ≡ terms) × (take c.size (drop c.offset b) ≡ list)

accepts : (terms : Terms) (list b : List ℕ) (r : Result Contents Refusal) → read_as b r ≡ done (read_of terms list) → Accepts terms list b r
unfolding read_of
accepts terms list b (Err r) e = let z : ◌≡◌ {A = ℕ} 0 1 = cc in omega arith
accepts terms list b (Ok c) e =
    let same : ◌≡◌ {A = Read} (record { terms = stated c.terms; list = take c.size (drop c.offset b); carried = c.carried }) (read_of terms list) = cc in
    (ap (λ (x : Read). x.terms) same, ap (λ (x : Read). x.list) same)

module _ (terms : Terms) (list : List ℕ) (w : Work) (out : List ℕ) {w' : Work} {out' : List ℕ} {events bytes : ℕ} (none : terms.present ≡ 0)
    (h : Writes terms list w out (Ok (record { events = events; bytes = bytes })) w' out') where
  abbrev answer : Written
  answer = record { events = events; bytes = bytes }

  trip :
      (take bytes out' ≡ written terms list)
      × ((reading (written terms list) w).0 ≡ done (read_of terms list))
      × (events ≡ how_many list)
  trip =
      let (front, back, all, size) = round_trip terms list w out none answer (sym (ap (λ (x : (Outcome Written × Work) × List ℕ). x.0.0) h)) in
      (ap (λ (x : (Outcome Written × Work) × List ℕ). take bytes x.1) h ∙ front, back, all)

  pub read_back :
      (v : Work) {v' : Work} (r : Result Contents Refusal) → short terms.processes (how_many list) v ≡ false → Reads (take bytes out') v r v'
      → Accepts terms list (take bytes out') r × (events ≡ how_many list)
  read_back v r enough g =
      let (front, back, all) = trip in
      let sheet = ((read_exactly (written terms list) w terms list).0 back).0 in
      let again : (reading (take bytes out') v).0 ≡ done (read_of terms list) =
      subst (λ (b : List ℕ). (reading b v).0 ≡ done (read_of terms list)) (sym front)
      ((read_exactly (written terms list) v terms list).1 (sheet, (room terms.processes (how_many list) v).0 enough)) in
      (accepts terms list (take bytes out') r (ap (λ (x : Outcome Read × Work). x.0) g ∙ again), all)
