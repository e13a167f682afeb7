-- The name, and behind it the number.
use native.Mathlib.Omega.{arith}
use Rattle.octets.proofs.Appended.{join}
use Rattle.octets.proofs.text.put_named.Goals as goal

pub returns : goal.returns
returns c = (join c.put_all-k.ensures c.put_word.ensures.0, omega (arith, c.put_all-k.ensures.place, c.put_word.ensures.1))
