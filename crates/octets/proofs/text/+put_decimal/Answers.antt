-- All digits but the last, and behind them the last.
use Rattle.octets.proofs.Appended.{same, up_to, join}
use Rattle.octets.proofs.Decimal.{put_one, put_more, decimal_length}
use Rattle.octets.proofs.text.+put_decimal.Goals as goal

pub returns-then-x-lt10 : goal.returns-then-x-lt10
returns-then-x-lt10 t c =
    let is = same (put_one _ c.digit.ensures c.if-x-lt10.true) c.put.ensures in
    (is, up_to is (decimal_length _))

pub returns : goal.returns
returns t c =
    let more = put_more _ c.digit-2.ensures c.if-x-lt10.false c.ranges.x.fits in
    let is = same more (join c.put_decimal-k.ensures.0 c.put-2.ensures) in
    (is, up_to is (decimal_length _))
