-- The stamps stored one behind another.
use Prim.Native.Nat.{ℕ, ◌+◌, ◌^◌, ◌<◌, ◌≤◌}
use mathlib.Core.List.{List, [], ◌∷◌, flatten, flat_map}
use mathlib.Core.Path.{◌≡◌, ap}
use native.Mathlib.Omega.{arith}
use lib.ListN.{length, get_or}
use Rattle.std.proofs.lemmas.List.{take_all}
use Rattle.octets.specs.Appended.{Appended}
use Rattle.octets.proofs.Appended.{none, long, join}
use Rattle.paper.specs.Bytes.{two_bytes, four_bytes}
use Rattle.paper.specs.Sheet.{stamp_bytes}
use Rattle.sheet.specs.Slots.{value_bytes}
use Rattle.sheet.proofs.Slots.{one_more}

-- One value more.
pub value_more :
    {l m n : List ℕ} {at to r : ℕ} (vs : List ℕ) (j x : ℕ) → j < length vs → x ≡ get_or vs j 0 → Appended l at (value_bytes vs 0 j) to m
    → Appended m to (two_bytes x) r n → Appended l at (value_bytes vs 0 (j + 1)) r n
value_more vs j x h e a b =
    let k : get_or vs (0 + j) 0 ≡ x = rw e (ap (λ i. get_or vs i 0) (omega arith)) in
    rw (one_more vs 0 j (omega arith), k) (join a b)

pub all_values : (vs : List ℕ) (j : ℕ) → length vs ≤ j → value_bytes vs 0 j ≡ flat_map two_bytes vs
all_values vs j h = ap (flat_map two_bytes) (take_all j vs h)

-- The mask, then the values.
pub stored_stamp :
    {l o n : List ℕ} {at to r : ℕ} (m v : ℕ) (vs : List ℕ) → v ≡ m → Appended l at (four_bytes v) to o → Appended o to (flat_map two_bytes vs) r n
    → Appended l at (stamp_bytes (record { mask = m; values = vs })) r n
unfolding stamp_bytes
stored_stamp m v vs e a b = join (rw e at a) b

-- At the head of the loop over all events: what is stored of the pieces ps that are left, from now on behind `to`, completes the stamps.
pub record Putting (l : List ℕ) (at : ℕ) (all ps : List (List ℕ)) (to : ℕ) (out : List ℕ) : Type 0 where
  pub lent : length out < 2 ^ 64
  pub reached : to < 2 ^ 64
  pub rest : (r : ℕ) (x : List ℕ) → Appended out to (flatten ps) r x → Appended l at (flatten all) r x

module _ {l : List ℕ} {at to : ℕ} {all ps : List (List ℕ)} {out : List ℕ} (w : Putting l at all ps to out) where
  pub put_more : {p : List ℕ} {qs : List (List ℕ)} {r : ℕ} {x : List ℕ} → ps ≡ p ∷ qs → Appended out to p r x → Putting l at all qs r x
  unfolding flatten
  put_more e a = record { lent = omega (arith, long a, w.lent); reached = omega (arith, a.place); rest = λ q y b. w.rest q y (rw e (join a b)) }

  pub put_nothing : {qs : List (List ℕ)} → ps ≡ [] ∷ qs → Putting l at all qs to out
  put_nothing e = put_more e (none out to w.lent w.reached)

  pub put_end : ps ≡ [] → Appended l at (flatten all) to out
  unfolding flatten
  put_end e = w.rest to out (rw e (none out to w.lent w.reached))
