-- A blank, and behind it the digits.
use native.Mathlib.Omega.{arith}
use Rattle.paper.specs.Bytes.{text}
use Rattle.paper.specs.Listing.{word}
use Rattle.octets.proofs.Appended.{join}
use Rattle.octets.proofs.text.put_word.Goals as goal

pub returns : goal.returns
unfolding word text
returns c = (join c.put-k.ensures c.put_decimal.ensures.0, omega (arith, c.put-k.ensures.place, c.put_decimal.ensures.1))
