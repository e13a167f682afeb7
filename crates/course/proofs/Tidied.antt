-- What tidying makes of the slots that a course of offers left behind: those of the accepted events stand, and every other named one is 0.
use Prim.Native.Nat.{ℕ, ◌-◌, ◌*◌, ◌≤◌}
use native.Mathlib.Nat.{mul-le-mul, le_refl}
use native.Mathlib.Omega.{arith}
use mathlib.Core.Path.{◌≡◌, sym, ap, ap₂, ◌∙◌}
use mathlib.Core.Bool.{Bool}
use mathlib.Core.List.{List, [], flat_map}
use lib.ListN.{length, replicate}
use lib.Seq.{sets, length-sets}
use Rattle.std.specs.Prelude.{Ok}
use Rattle.paper.specs.Buffers.{laid, clock_slots, mask_slots, value_slots, filled, cleared}
use Rattle.paper.specs.Event.{first_events, how_many}
use Rattle.paper.specs.Lamport.{no_scalars, lamports}
use Rattle.paper.specs.Machine.{Clocked, start}
use Rattle.paper.specs.Stamp.{stamps, stamps_after}
use Rattle.paper.specs.Terms.{Terms}
use Rattle.paper.proofs.LamportBelow.Lists.{length_lamports}
use Rattle.paper.proofs.Laws.Runs.{clocked_few, length_events}
use Rattle.paper.proofs.Laws.Stores.{sets_laid, sets_cleared}
use Rattle.paper.proofs.Lent.Stamps.{SlotsFit, slots_fit}
use Rattle.offers.specs.Called.{Called}
use Rattle.offers.specs.Course.{Lent, Ran}
use Rattle.offers.specs.Slots.{Slots}
use Rattle.offers.specs.Turn.{accepted_at}
use Rattle.offers.specs.declared.Tried.{Tried}
use Rattle.offers.proofs.Early.{lent}
use Rattle.course.specs.Slots.{Tail, zeroed, swept}

-- Slots in which xs were stored from the first on: zeroed behind them, and zeroed whole.
pub zeroed_laid : (named : ℕ) (xs old : List ℕ) {k : ℕ} {slots : List ℕ} → slots ≡ sets old 0 xs → length xs ≡ k → k ≤ named → named ≤ length old
    → zeroed k named slots ≡ laid named xs old
zeroed_laid named xs old {k} is many few room =
    ap₂ (λ (s : List ℕ) (i : ℕ). zeroed i named s) is (sym many) ∙ sets_laid named xs old (omega (arith, many)) room

pub zeroed_cleared : (named : ℕ) (xs old : List ℕ) {k : ℕ} {slots : List ℕ} → slots ≡ sets old 0 xs → length xs ≡ k → k ≤ named → named ≤ length old
    → zeroed 0 named slots ≡ laid named [] old
zeroed_cleared named xs old is many few room =
    let o : named - 0 ≡ named = omega arith in
    rw o (ap (λ (s : List ℕ). sets s 0 (replicate named 0)) is ∙ sets_cleared named xs old (omega (arith, many)) room)

module _ {mode : Bool} {terms : Terms} {l : List ℕ} {w₀ w : Slots} {r : Tried} (call : Called mode terms l w₀ w (Ok r)) where
  abbrev m : ℕ
  m = how_many l

  -- Past the early checks, what is lent is enough.
  pub room : Lent terms m l w₀
  room = lent terms l w₀ (sym call.checked)

  ran : Ran mode terms m l w₀ w r
  ran = call.passed

  abbrev cs : List Clocked
  cs = accepted_at terms l r.tried

  abbrev k : ℕ
  k = r.accepted

  abbrev v : ℕ
  v = r.carried

  fit : SlotsFit terms.processes cs
  fit = slots_fit terms room.few (first_events r.tried l) (omega (arith, length_events r.tried l, ran.inside, room.short))

  few : k ≤ m
  few = omega (arith, ran.accepted_many, clocked_few terms (first_events r.tried l) (start terms), length_events r.tried l, ran.inside)

  used : terms.processes * k ≤ terms.processes * m
  used = mul-le-mul (le_refl terms.processes) few

  clocks_many : length (clock_slots terms.processes cs) ≡ terms.processes * k
  clocks_many = fit.clocks ∙ ap (◌*◌ terms.processes) (sym ran.accepted_many)

  masks_many : length (mask_slots (stamps cs)) ≡ k
  masks_many = fit.masks ∙ sym ran.accepted_many

  values_few : v ≤ terms.processes * m
  values_few = omega (arith, ran.carried_many, fit.values, ap (◌*◌ terms.processes) ran.accepted_many, used)

  lamports_many : length (lamports cs) ≡ k
  lamports_many = length_lamports cs no_scalars ∙ sym ran.accepted_many

  -- The slots behind what was stored can be cleared; and so can all named ones.
  pub tail : Tail terms.processes m k v w.page.work
  tail =
      record {
        few = room.few;
        short = room.short;
        accepted = few;
        carried = values_few;
        clock = rw (ran.clock, length-sets) room.clock;
        mask = rw (ran.mask, length-sets) room.mask;
        value = rw (ran.value, length-sets) room.value;
      }

  pub lamports_tail : (k ≤ m) × (m ≤ length w.lamports)
  lamports_tail = (few, rw (ran.lamport, length-sets) room.lamport)

  pub tidied : swept terms.processes m k v w.page.work ≡ filled terms m cs w₀.page.work
  unfolding filled
  tidied =
      let o = w₀.page.work in
      let x = zeroed_laid (terms.processes * m) (clock_slots terms.processes cs) o.clocks ran.clock clocks_many used room.clock in
      let y = zeroed_laid m (mask_slots (stamps cs)) o.masks ran.mask masks_many few room.mask in
      let u = zeroed_laid (terms.processes * m) (value_slots (stamps cs)) o.values ran.value (sym ran.carried_many) values_few room.value in
      λ i. record { clocks = x i; masks = y i; values = u i }

  pub emptied : swept terms.processes m 0 0 w.page.work ≡ cleared terms m w₀.page.work
  unfolding filled clock_slots value_slots flat_map stamps_after
  emptied =
      let o = w₀.page.work in
      let p : terms.processes * 0 ≡ 0 = omega arith in
      let x = zeroed_cleared (terms.processes * m) (clock_slots terms.processes cs) o.clocks ran.clock clocks_many used room.clock in
      let y = zeroed_cleared m (mask_slots (stamps cs)) o.masks ran.mask masks_many few room.mask in
      let u = zeroed_cleared (terms.processes * m) (value_slots (stamps cs)) o.values ran.value (sym ran.carried_many) values_few room.value in
      rw p (λ i. record { clocks = x i; masks = y i; values = u i })

  -- The same of the Lamport numbers.
  pub lamports_tidied : zeroed k m w.lamports ≡ laid m (lamports cs) w₀.lamports
  lamports_tidied = zeroed_laid m (lamports cs) w₀.lamports ran.lamport lamports_many few room.lamport

  pub lamports_emptied : zeroed 0 m w.lamports ≡ laid m [] w₀.lamports
  lamports_emptied = zeroed_cleared m (lamports cs) w₀.lamports ran.lamport lamports_many few room.lamport
