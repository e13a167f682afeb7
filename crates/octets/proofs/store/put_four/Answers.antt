-- The lower two bytes, and behind them the upper two.
use Rattle.octets.proofs.Appended.{stored_four}
use Rattle.octets.proofs.store.put_four.Goals as goal

pub returns : goal.returns
returns c = stored_four c.args.x c.put_two-k.ensures c.put_two.ensures
