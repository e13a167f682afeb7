-- A record is settled by what it is in the paper's terms: two whole ones with one view are equal, slot by slot.
use Prim.Native.Nat.{ℕ}
use mathlib.Core.Bool.{Bool, true≢false, false≢true}
use mathlib.Core.Path.{◌≡◌, sym, ap, ◌∙◌}
use mathlib.Core.List.{List}
use lib.ListN.{length, get_or}
use lib.Seq.{ext_get_or}
use Rattle.std.specs.Prelude.{Option, Some, None}
use Rattle.paper.specs.Running.{Running}
use Rattle.record.specs.Moves.{said}
use Rattle.record.specs.declared.Record.{Record}
use Rattle.record.specs.declared.Stamped.{Stamped}
use Rattle.record.specs.View.{view, Whole}

one_row : (xs ys : List ℕ) → length xs ≡ 32 → length ys ≡ 32 → ◌≡◌ {A = ℕ → ℕ} (λ k. get_or xs k 0) (λ k. get_or ys k 0) → xs ≡ ys
one_row xs ys l m e = ext_get_or 0 xs ys (l ∙ sym m) (λ i h. ap (λ (f : ℕ → ℕ). f i) e)

pub one_record : {r r' : Record} → Whole r → Whole r' → view r ≡ view r' → r ≡ r'
one_record {r} {r'} w w' e =
    let a = ap (λ (x : Running). x.clock) e in
    let b = one_row r.updated r'.updated w.updated w'.updated (ap (λ (x : Running). x.last_update) e) in
    let c = one_row r.sent r'.sent w.sent w'.sent (ap (λ (x : Running). x.last_sent) e) in
    λ i. record { clock = a i; updated = b i; sent = c i }

-- What a send answers is told by its three values.
pub one_said : (t u : Option Stamped) → said t ≡ said u → t ≡ u
one_said (Some t) (Some u) h = λ i. Some (record { mask = (h i).1; count = (h i).2 })
one_said None None h = λ i. None
one_said (Some t) None h = absurd (true≢false (ap (λ (x : Bool × ℕ × ℕ). x.0) h))
one_said None (Some t) h = absurd (false≢true (ap (λ (x : Bool × ℕ × ℕ). x.0) h))
