-- Reads into a buffer, one behind the other.
use Rattle.std.proofs.Common.{◌≡◌, ℕ, ◌+◌, ◌≤◌, List, ◌++◌, length, take, sym, ap, ◌∙◌, length-take-le}
use Rattle.std.proofs.Math.Seq.{take-append-add}
use Rattle.std.proofs.lemmas.List.{take-append-le}
use borrow.Rule.Slice.PartMut.{put_mid, post_of}

-- The filled front grows by the n bytes that a read put behind it.
pub take-put_mid_more : (at k n : ℕ) (buf part : List ℕ)
    → at ≤ length buf → n ≤ length part → take (at + n) (put_mid at k buf part) ≡ take at buf ++ take n part
take-put_mid_more at k n buf part within fits =
    let front = take at buf in
    sym (ap (λ a. take (a + n) (put_mid at k buf part)) (length-take-le at buf within)) ∙ take-append-add front (part ++ post_of at k buf) n
    ∙ ap (λ l. front ++ l) (take-append-le n part (post_of at k buf) fits)
