-- Where the work buffers hold the stamps of an accepted list, the pieces by the slots are the paper's pieces, and the slots are all there.
use Prim.Native.Nat.{ℕ, suc, ◌+◌, ◌<◌}
use mathlib.Core.List.{List, [], ◌∷◌, zip_with}
use mathlib.Core.Path.{◌≡◌, refl, sym, ap, ap₂, ◌∙◌}
use native.Mathlib.Omega.{arith}
use lib.Count.{ones}
use lib.ListN.{length, get_or, take, drop}
use Rattle.clock.specs.Event.{kind_at}
use Rattle.paper.specs.Buffers.{Work, values_begin}
use Rattle.paper.specs.Event.{Event, event_at, how_many}
use Rattle.paper.specs.Machine.{Clocked, accepted_of}
use Rattle.paper.specs.Order.{nothing}
use Rattle.paper.specs.Sheet.{piece, pieces}
use Rattle.paper.specs.Stamp.{Stamp, no_stamp, never_sent, stamps}
use Rattle.paper.specs.Stands.{Stands}
use Rattle.paper.specs.Terms.{Terms}
use Rattle.paper.proofs.Laws.Slots.{length_stamps}
use Rattle.paper.proofs.Stands.{still, mask_there, values_there, all_values, values_room, all, event_there}
use Rattle.sheet.specs.Slots.{slot_stamp, kind_piece, pieces_from, slot_pieces, Slots}

-- The slots hold of the event at i the kind of c and the stamp u.
record Holds (list masks vs : List ℕ) (i : ℕ) (c : Clocked) (u : Stamp) : Type 0 where
  kind : kind_at list i ≡ c.event.kind
  mask : get_or masks i 0 ≡ u.mask
  values : take (ones u.mask) (drop (values_begin masks i) vs) ≡ u.values

module _ {list masks vs : List ℕ} where
  holds_piece :
      {i : ℕ} {c : Clocked} {u : Stamp} → Holds list masks vs i c u
      → kind_piece (kind_at list i) (get_or masks i 0) vs (values_begin masks i) ≡ piece c u
  unfolding slot_stamp
  holds_piece h = rw (h.kind, h.mask, h.values)

  holds_all :
      (cs : List Clocked) (us : List Stamp) (i : ℕ) → length us ≡ length cs
      → ((j : ℕ) → j < length cs → Holds list masks vs (i + j) (get_or cs j nothing) (get_or us j no_stamp))
      → pieces_from list masks vs (length cs) i ≡ zip_with piece cs us
  unfolding pieces_from zip_with
  holds_all [] [] i l h = refl
  holds_all [] (u ∷ us) i l h = absurd (omega arith)
  holds_all (c ∷ cs) [] i l h = absurd (omega arith)
  holds_all (c ∷ cs) (u ∷ us) i l h =
      let z : i + 0 ≡ i = omega arith in
      ap₂ (λ (x : List ℕ) (xs : List (List ℕ)). x ∷ xs)
      (holds_piece (rw z at (h 0 (omega arith))))
      (holds_all cs us (suc i) (omega arith)
      (λ j k. let e : i + suc j ≡ suc i + j = omega arith in rw e at (h (suc j) (omega arith))))

module _ {t : Terms} {list : List ℕ} {w w' : Work} (s : Stands t list w w') where
  abbrev cs : List Clocked
  cs = accepted_of t list

  pub slots_there : Slots list w'.masks w'.values
  slots_there =
      record {
        each_mask = (still s.held).masks;
        all_values = omega (arith, ap (values_begin w'.masks) (all s), all_values s.held, values_room s.held);
      }

  kind_there : (i : ℕ) → i < how_many list → kind_at list i ≡ (get_or cs i nothing).event.kind
  unfolding event_at
  kind_there i h = sym (ap (λ (e : Event). e.kind) (event_there s i h))

  pub pieces_there : slot_pieces list w'.masks w'.values ≡ pieces cs
  unfolding pieces
  pieces_there =
      ap (λ (k : ℕ). pieces_from list w'.masks w'.values k 0) (sym (all s))
      ∙ holds_all cs (stamps cs) 0 (length_stamps cs never_sent)
      (λ j l.
      let z : 0 + j ≡ j = omega arith in
      rw z (record { kind = kind_there j (omega (arith, all s)); mask = mask_there s.held j l; values = values_there s.held j l }))
