-- The line is that of no messages, or of the hundredths.
use Rattle.percentage.specs.Said.{counts}
use Rattle.savings.proofs.Lined.{none_line, some_line}
use Rattle.desk.proofs.Printed.{printed_as}
use Rattle.savings.proofs.answer.counts_text.Goals as goal

pub returns-then-c-eq0 : goal.returns-then-c-eq0
returns-then-c-eq0 c = printed_as (none_line (counts c.args.c) c.if-c-eq0.true) c.no_messages_text.ensures

pub returns : goal.returns
returns c = printed_as (some_line (counts c.args.c) c.if-c-eq0.false) c.saved_text.ensures
