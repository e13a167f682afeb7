-- The paper's numbers of the checks ("Refusal numbers").
use Rattle.std.specs.Prelude.{ℕ, Result, Ok, Err}
use Rattle.clock.specs.declared.check.Check.{Check}
use Rattle.clock.specs.declared.check.Check.TheVariants as check

abbrev pub number_of : Check → ℕ
number_of check.SheetLength = 1
number_of check.Letters = 2
number_of check.Version = 3
number_of check.Count = 4
number_of check.Zeros = 5
number_of check.List = 6
number_of check.Stamps = 7
number_of check.ListLength = 8
number_of check.Work = 9
number_of check.Kind = 10
number_of check.Process = 11
number_of check.Peer = 12
number_of check.Spare = 13
number_of check.UsedNumber = 14
number_of check.NotSent = 15
number_of check.NotInFront = 16
number_of check.Stamp = 18
number_of check.LeftOver = 19
number_of check.Position = 20
number_of check.Output = 21
number_of check.NotBefore = 22
number_of check.Lines = 30

-- The number of the check that refuses, or 0 where none does.
abbrev pub checked : {A : Type 0} → Result A Check → ℕ
checked (Ok a) = 0
checked (Err c) = number_of c
