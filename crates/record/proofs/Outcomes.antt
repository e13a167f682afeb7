-- What the three moves answer and leave, by what counting does and whether there is room.
use Prim.Native.Nat.{ℕ, ◌≤◌, ◌<◌}
use mathlib.Core.Bool.{Bool, true, false, not, ◌||◌, true≢false}
use mathlib.Core.List.{List}
use mathlib.Core.Path.{◌≡◌, refl, sym, ap, ◌∙◌}
use borrow.Author.Tests.{leb-false, ltb-false, lt-ltb, le-leb}
use lib.Count.{ones}
use lib.Dec.{ltb, leb}
use lib.ListN.{length, get_or, set}
use lib.Seq.{sets}
use Rattle.std.specs.Prelude.{Option, Some, None, is_some}
use Rattle.paper.specs.Clock.{part, most_processes, most_events}
use Rattle.paper.specs.Running.{Running, counting, sending, receiving, news}
use Rattle.paper.specs.Stamp.{mask, values, unpacked}
use Rattle.paper.proofs.Laws.Masks.{ones_mask}
use Rattle.record.specs.Moves.{Counts, roomy, ticking, merging, stamping}
use Rattle.record.specs.View.{view, viewing, newer, Whole}
use Rattle.record.specs.declared.Record.{Record}
use Rattle.record.proofs.Views.{counted_record, sent_record}

pub ticked : (r r' : Record) (p : ℕ) (o : Option ℕ) → Whole r → Counts p r r' o → (is_some o, view r') ≡ ticking p (view r)
ticked r r' p (Some own) w c = rw (c.0, (counted_record r r' p own w c).1)
ticked r r' p None w c = rw (c.0, c.1)

pub merged : (r r' : Record) (p own m : ℕ) (vs : List ℕ) (at : ℕ) {v : Running} → Whole r → Counts p r r' (Some own) → roomy (length vs) at (ones m) ≡ true
    → ((q : ℕ) → own ≡ part r'.clock q → v ≡ receiving q (unpacked m vs at) (view r')) → (true, v) ≡ merging p m vs at (view r)
merged r r' p own m vs at {v} w c room f =
    let (own_is, is) = counted_record r r' p own w c in
    let e : v ≡ receiving p (unpacked m vs at) (counting p (view r)) = f p own_is ∙ ap (receiving p (unpacked m vs at)) is in
    rw (c.0, room, e)

-- Of three refusals, none.
none_of : (a b c : Bool) → ((a || b) || not c) ≡ false → (a ≡ false) × (b ≡ false) × (c ≡ true)
none_of false false true h = (refl, refl, refl)
none_of false false false h = absurd (true≢false h)
none_of false true c h = absurd (true≢false h)
none_of true b c h = absurd (true≢false h)

-- The record r' is that of the count, of which k is the mask of what is new to j.
pub sent : (r r' : Record) (i j n own k at : ℕ) (out : List ℕ) {out' : List ℕ} {o : ℕ} → o ≡ ones k → Whole r → Whole r' → Counts i r r' (Some own)
    → ((leb most_processes j || ltb most_processes n) || not (roomy (length out) at n)) ≡ false
    → let p = newer r'.updated (get_or r.sent j 0) in
    (k ≡ mask p n) × (out' ≡ sets out at (values p r'.clock n))
    → ((true, k, o), view (record { clock = r'.clock; updated = r'.updated; sent = set r'.sent j own }), out') ≡ stamping i j n out at (view r)
unfolding news
sent r r' i j n own k at out {out'} o_is w w' c limits g =
    let (a, b, room) = none_of (leb most_processes j) (ltb most_processes n) (roomy (length out) at n) limits in
    let hj : j < 32 = leb-false most_processes j a in
    let hn : n ≤ 32 = ltb-false most_processes n b in
    let (own_is, is) = counted_record r r' i own w c in
    let same : r'.sent ≡ r.sent = ap (λ (x : Record). x.sent) c.2 in
    let before : viewing r'.clock r'.updated r.sent ≡ counting i (view r) = (λ d. viewing r'.clock r'.updated (sym same d)) ∙ is in
    let e₁ = sent_record r' i j w' hj own_is ∙ ap (sending i j) is in
    let e₂ : k ≡ mask (news (counting i (view r)) j) n = g.0 ∙ ap (λ (x : Running). mask (news x j) n) before in
    let e₃ = o_is ∙ ap ones e₂ ∙ ones_mask (news (counting i (view r)) j) n in
    let e₄ = g.1 ∙ ap (λ (x : Running). sets out at (values (news x j) x.clock n)) before in
    rw (c.0, lt-ltb j most_processes hj, le-leb n most_processes hn, room) (λ d. ((true, e₂ d, e₃ d), e₁ d, e₄ d))

-- What a caller that keeps the limits has: the event is counted.
pub ticked_within : (p : ℕ) (r : Running) {r' : Running} {b : Bool} → p < 32 → part r.clock p < 512 → (b, r') ≡ ticking p r → r' ≡ counting p r
ticked_within p r {r'} {b} h l e =
    let q : ◌≡◌ {A = Bool × Running} (b, r') (true, counting p r) = rw (lt-ltb p most_processes h, lt-ltb (part r.clock p) most_events l) at e in
    ap (λ (t : Bool × Running). t.1) q
