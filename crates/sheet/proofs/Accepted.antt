-- For callers that go on from what was read: an accepted sheet's checks are passed, its events stand in the slots, and its list lies inside the sheet.
use Prim.Native.Nat.{ℕ, ◌+◌, ◌/◌, ◌≤◌}
use native.Mathlib.Omega.{arith}
use mathlib.Core.List.{List, []}
use mathlib.Core.Path.{◌≡◌, ap, subst}
use Rattle.std.specs.Prelude.{Result, Ok, Err}
use lib.ListN.{length, take, drop, length-take, length-drop}
use Rattle.clock.specs.Said.{refusal, stated}
use Rattle.clock.specs.declared.Refusal as declared_refusal
use Rattle.paper.specs.Buffers.{Work, entries}
use Rattle.paper.specs.Event.{how_many}
use Rattle.paper.specs.Machine.{accepted_of}
use Rattle.paper.specs.Reading.{Read, read_of, reading_checks, reading}
use Rattle.paper.specs.Refusals.{refused, done}
use Rattle.paper.specs.Sheet.{terms_in, list_offset, list_size, list_in}
use Rattle.paper.specs.Stands.{Stands}
use Rattle.paper.specs.Terms.{Terms}
use Rattle.paper.proofs.Also.{call_done}
use Rattle.paper.proofs.ReadExactly.{reading_number}
use Rattle.paper.proofs.Sheets.Checks.{placed}
use Rattle.paper.proofs.Stands.{sheet_stands}
use Rattle.sheet.specs.Said.{Where, Reads}
use Rattle.sheet.specs.declared.Contents as declared_contents

-- The sheet b is accepted with these terms, its list `size` bytes from `at` on, and so many values; its events stand in w', which held w before.
pub record Accepted (b : List ℕ) (w w' : Work) (t : Terms) (at size carried : ℕ) : Type 0 where
  pub early : (reading_checks b w []).early ≡ 0
  pub late : (reading_checks b w []).late.number ≡ 0
  pub stands : Stands (terms_in b) (list_in b) w w'
  pub terms : terms_in b ≡ t
  pub list : list_in b ≡ take size (drop at b)
  pub values : entries (accepted_of (terms_in b) (list_in b)) ≡ carried
  pub many : how_many (list_in b) ≡ size / 8
  pub inside : at + size ≤ length b
  pub few : size ≤ 4096
  pub short : length b ≤ 40960

module _ {b : List ℕ} {w w' : Work} {t : Terms} {at size carried : ℕ} where
  read_done :
      (done (record { terms = t; list = take size (drop at b); carried = carried }), w') ≡ reading b w → (at ≡ list_offset b) × (size ≡ list_size b)
      → Accepted b w w' t at size carried
  unfolding reading read_of
  read_done h (from, long) =
      let x : Read = record { terms = t; list = take size (drop at b); carried = carried } in
      let c = reading_checks b w [] in
      let zeros = (call_done c (read_of (terms_in b) (list_in b)) x (terms_in b) (list_in b) w w' h).0 in
      let (stands, same) = sheet_stands b [] (read_of (terms_in b) (list_in b)) x h in
      let (sheet, room) = (reading_number b w []).0 ((placed c).1 zeros) in
      let (m, brief, e) = sheet.whole_records in
      let lies = sheet.events_there in
      let l : length (list_in b) ≡ size = omega (arith, length-take (list_size b) (drop (list_offset b) b), length-drop (list_offset b) b, lies.inside) in
      record {
        early = zeros.0;
        late = zeros.1;
        stands = stands;
        terms = ap (λ (r : Read). r.terms) same;
        list = ap (λ (r : Read). r.list) same;
        values = ap (λ (r : Read). r.carried) same;
        many = ap (λ (k : ℕ). k / 8) l;
        inside = omega (arith, lies.inside, lies.behind);
        few = omega (arith, e, brief);
        short = sheet.size.1;
      }

-- By the case of what the reader answers.
module _ {r : Result declared_contents.Contents declared_refusal.Refusal} where
  pub accepted :
      (b : List ℕ) (w : Work) {w' : Work} {c : declared_contents.Contents} → r ≡ Ok c → Reads b w r w' × Where b r
      → Accepted b w w' (stated c.terms) c.offset c.size c.carried
  accepted b w {w'} e h = let (reads, lies) = subst (λ (x : Result declared_contents.Contents declared_refusal.Refusal). Reads b w x w' × Where b x) e h in read_done reads lies

  pub refuses :
      (b : List ℕ) (w : Work) {w' : Work} {given : declared_refusal.Refusal} → r ≡ Err given → Reads b w r w' × Where b r
      → (refused (refusal given), w') ≡ reading b w
  refuses b w {w'} e h = subst (λ (x : Result declared_contents.Contents declared_refusal.Refusal). Reads b w x w') e h.0
