-- A part of the slots that is filled with 0: what stands in the whole afterwards.
use Prim.Native.Nat.{ℕ, ◌+◌, ◌-◌, ◌≤◌}
use mathlib.Core.Path.{◌≡◌, sym, ap, ◌∙◌}
use mathlib.Core.List.{List, ◌++◌, append_assoc}
use native.Mathlib.Omega.{arith}
use lib.ListN.{length, take, drop, replicate, length-replicate}
use lib.Seq.{sets-eq}
use borrow.Rule.Slice.PartMut.{put_mid, mid_len, Post-is}
use Rattle.course.specs.Slots.{zeroed}

module _ (old mid : List ℕ) (from to : ℕ) (low : from ≤ to) (high : to ≤ length old) where
  pub filled : mid ≡ replicate (length (take (to - from) (drop from old))) 0 → put_mid from (to - from) old mid ≡ zeroed from to old
  filled is =
      let many : length (replicate {A = ℕ} (to - from) 0) ≡ to - from = length-replicate (to - from) 0 in
      let all : from + (to - from) ≡ to = omega arith in
      let zeros : mid ≡ replicate (to - from) 0 = is ∙ ap (λ (k : ℕ). replicate k 0) (mid_len from to old high) in
      let rest : drop (to - from) (drop from old) ≡ drop (from + length (replicate {A = ℕ} (to - from) 0)) old =
      Post-is from to old low ∙ ap (λ (k : ℕ). drop k old) (sym (ap (λ (k : ℕ). from + k) many ∙ all)) in
      ap (put_mid from (to - from) old) zeros ∙ ap (λ (r : List ℕ). take from old ++ (replicate (to - from) 0 ++ r)) rest
      ∙ sym (sets-eq (replicate (to - from) 0) old from (omega (arith, many)) ∙ append_assoc (take from old) _ _)
