-- The kind, and behind it the three numbers, as they stand in the event's bytes.
use mathlib.Core.Path.{◌∙◌}
use native.Mathlib.Omega.{arith}
use Rattle.paper.specs.Bytes.{text}
use Rattle.octets.proofs.Appended.{join, same}
use Rattle.lines.proofs.Slots.{fields_are}
use Rattle.lines.proofs.event.put_fields.Goals as goal

pub returns : goal.returns
unfolding text
returns c =
    let i = c.put_decimal-at.ensures in
    let blank = c.put-at.ensures in
    let kind = rw c.letter.ensures at c.put-at-2.ensures in
    let process = c.put_word-at.ensures in
    let peer = c.put_word-at-2.ensures in
    let message = c.put_word.ensures in
    let are =
    fields_are _ _ c.kind_at.ensures (c.wide.ensures.0 ∙ c.process_at.ensures) (c.wide-2.ensures.0 ∙ c.peer_at.ensures)
    (c.wide-3.ensures.0 ∙ c.message_at.ensures) in (
      same are (join (join (join (join (join i.0 blank) kind) process.0) peer.0) message.0),
      omega (arith, i.1, blank.place, kind.place, process.1, peer.1, message.1),
    )
