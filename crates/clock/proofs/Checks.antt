-- The numbers of the checks are not 0, and differ.
use Prim.Native.Nat.{ℕ, ◌≤◌}
use mathlib.Core.Bool.{cond}
use mathlib.Core.Path.{◌≡◌, refl, sym, ap, ◌∙◌}
use native.Mathlib.Omega.{arith}
use lib.Dec.{eqb}
use Rattle.clock.specs.Check.{number_of}
use Rattle.clock.specs.declared.check.Check.{Check}
use Rattle.clock.specs.declared.check.Check.TheVariants as check

pub some_check : (c : Check) → 1 ≤ number_of c
some_check check.SheetLength = omega arith
some_check check.Letters = omega arith
some_check check.Version = omega arith
some_check check.Count = omega arith
some_check check.Zeros = omega arith
some_check check.List = omega arith
some_check check.Stamps = omega arith
some_check check.ListLength = omega arith
some_check check.Work = omega arith
some_check check.Kind = omega arith
some_check check.Process = omega arith
some_check check.Peer = omega arith
some_check check.Spare = omega arith
some_check check.UsedNumber = omega arith
some_check check.NotSent = omega arith
some_check check.NotInFront = omega arith
some_check check.Stamp = omega arith
some_check check.LeftOver = omega arith
some_check check.Position = omega arith
some_check check.Output = omega arith
some_check check.NotBefore = omega arith
some_check check.Lines = omega arith

-- The check of a number.
abbrev check_of : ℕ → Check
check_of n =
    (cond (eqb n 1) check.SheetLength
    (cond (eqb n 2) check.Letters
    (cond (eqb n 3) check.Version
    (cond (eqb n 4) check.Count
    (cond (eqb n 5) check.Zeros
    (cond (eqb n 6) check.List
    (cond (eqb n 7) check.Stamps
    (cond (eqb n 8) check.ListLength
    (cond (eqb n 9) check.Work
    (cond (eqb n 10) check.Kind
    (cond (eqb n 11) check.Process
    (cond (eqb n 12) check.Peer
    (cond (eqb n 13) check.Spare
    (cond (eqb n 14) check.UsedNumber
    (cond (eqb n 15) check.NotSent
    (cond (eqb n 16) check.NotInFront
    (cond (eqb n 18) check.Stamp
    (cond (eqb n 19) check.LeftOver
    (cond (eqb n 20) check.Position
    (cond (eqb n 21) check.Output
    (cond (eqb n 22) check.NotBefore
    check.Lines)))))))))))))))))))))

there_and_back : (c : Check) → check_of (number_of c) ≡ c
there_and_back check.SheetLength = refl
there_and_back check.Letters = refl
there_and_back check.Version = refl
there_and_back check.Count = refl
there_and_back check.Zeros = refl
there_and_back check.List = refl
there_and_back check.Stamps = refl
there_and_back check.ListLength = refl
there_and_back check.Work = refl
there_and_back check.Kind = refl
there_and_back check.Process = refl
there_and_back check.Peer = refl
there_and_back check.Spare = refl
there_and_back check.UsedNumber = refl
there_and_back check.NotSent = refl
there_and_back check.NotInFront = refl
there_and_back check.Stamp = refl
there_and_back check.LeftOver = refl
there_and_back check.Position = refl
there_and_back check.Output = refl
there_and_back check.NotBefore = refl
there_and_back check.Lines = refl

pub one_check : (c d : Check) → number_of c ≡ number_of d → c ≡ d
one_check c d h = sym (there_and_back c) ∙ ap check_of h ∙ there_and_back d
