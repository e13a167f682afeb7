-- The verdict on two rows of slots: where both are all there it is that on two lent clocks, and where accepted events stand in the slots it is theirs.
use Prim.Native.Nat.{ℕ, suc, ◌+◌, ◌*◌, ◌≤◌, ◌<◌}
use native.Mathlib.Nat.{le-div_iff_mul-le, mul-suc, mul_comm}
use native.Mathlib.Omega.{arith}
use mathlib.Core.Path.{◌≡◌, refl, ap, ◌∙◌}
use mathlib.Core.Bool.{true, false, not}
use mathlib.Core.List.{List}
use lib.Dec.{ltb}
use lib.ListN.{length, drop, length-drop}
use lib.Seq.{length-take-le}
use borrow.Author.Tests.{le-ltb, lt-ltb, eq-eqb}
use Rattle.paper.specs.Buffers.{Work}
use Rattle.paper.specs.Machine.{accepted_of}
use Rattle.paper.specs.Questions.{judged, ordering}
use Rattle.paper.specs.Refusals.{Refusal, of_call, Outcome, refused, done}
use Rattle.paper.specs.Stands.{Held, row}
use Rattle.paper.specs.Terms.{Terms, wrong_count}
use Rattle.paper.proofs.Sheets.Checks.{below, neither, right_count}
use Rattle.paper.proofs.Stands.{small, row_long, verdict_there}
use Rattle.order.specs.Judge.{rows, not_both, row_verdict}

-- A row is all there exactly where its position is below their count.
row_below : (n a : ℕ) (clocks : List ℕ) → 1 ≤ n → (a < rows n clocks → n * a + n ≤ length clocks) × (n * a + n ≤ length clocks → a < rows n clocks)
row_below n a clocks some =
    let (there, back) = le-div_iff_mul-le {k = n} {x = suc a} {y = length clocks} some in
    let e : suc a * n ≡ n * a + n = mul_comm (suc a) n ∙ mul-suc n a in
    (λ l. omega (arith, there l), λ l. back (omega arith))

module _ (n : ℕ) (clocks : List ℕ) (a b : ℕ) where
  pub judge_count : {given : Refusal} → wrong_count n ≡ true → given ≡ of_call 4 → refused given ≡ row_verdict n clocks a b
  unfolding row_verdict
  judge_count h g = rw h (ap refused g)

  module _ (right : wrong_count n ≡ false) where
    pub judge_none : {given : Refusal} → not_both (rows n clocks) a b ≡ true → given ≡ of_call 4 → refused given ≡ row_verdict n clocks a b
    unfolding row_verdict
    judge_none h g = rw (right, h) (ap refused g)

    module _ (h : not_both (rows n clocks) a b ≡ false) where
      pub rows_there : (n * a + n ≤ length clocks) × (n * b + n ≤ length clocks)
      rows_there =
          let some = ((right_count n).0 right).0 in
          let (l, k) = (neither (not (ltb a (rows n clocks))) (not (ltb b (rows n clocks))) (below a (rows n clocks)) (below b (rows n clocks))).0 h in
          ((row_below n a clocks some).0 l, (row_below n b clocks some).0 k)

      -- The two rows lent as clocks.
      pub judge_rows : {x : Outcome ℕ} {v u : List ℕ} → v ≡ row n clocks a → u ≡ row n clocks b → x ≡ ordering v u → x ≡ row_verdict n clocks a b
      unfolding ordering row_verdict
      judge_rows {x} {v} {u} p q e =
          let (l, k) = rows_there in
          let f : length (row n clocks a) ≡ n = length-take-le n (drop (n * a) clocks) (omega (arith, length-drop (n * a) clocks)) in
          let g : length (row n clocks b) ≡ n = length-take-le n (drop (n * b) clocks) (omega (arith, length-drop (n * b) clocks)) in
          e ∙ rw (p, q, f, g, right, eq-eqb n n refl, h)

-- On the slots of accepted events.
pub row_judged :
    {t : Terms} {list : List ℕ} {w w' : Work} → Held t list w w' → (a b : ℕ) → a < length (accepted_of t list) → b < length (accepted_of t list)
    → row_verdict t.processes w'.clocks a b ≡ done (judged t.processes (accepted_of t list) a b)
unfolding row_verdict
row_judged {t} {list} {w} {w'} h a b l k =
    let n = t.processes in
    let some = h.listed.processes.0 in
    let clocks = w'.clocks in
    rw (
      le-ltb n 1 some,
      le-ltb 32 n (small h),
      lt-ltb a (rows n clocks) ((row_below n a clocks some).1 (row_long h a l).0),
      lt-ltb b (rows n clocks) ((row_below n b clocks some).1 (row_long h b k).0),
    )
    (ap done (verdict_there h a b l k))
