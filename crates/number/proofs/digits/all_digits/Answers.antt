use borrow.Author.Rules.{rules}
use mathlib.Core.Path.{◌≡◌}
use mathlib.Core.Bool.{true, false}
use Rattle.std.proofs.lemmas.Iterator.{YieldsList-from_slice, cases_from_all}
use Rattle.number.specs.Digits.{is_digit}
use Rattle.number.proofs.Walks.{digits_found}
use Rattle.number.proofs.digits.all_digits.Goals as goal

pub returns : goal.returns
returns c =
    digits_found _ _
    (cases_from_all _ _ _ (λ b. is_digit b ≡ true) (λ b. is_digit b ≡ false) c.all.ensures.ran (YieldsList-from_slice c.args.s.now (cc)) (λ x q k. search rules)
    (λ x q k. search rules))
