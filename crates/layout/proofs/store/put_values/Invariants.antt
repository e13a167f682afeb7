use Rattle.octets.specs.Appended.{Appended}
use Rattle.sheet.specs.Slots.{value_bytes}
use Rattle.layout.proofs.store.put_values.Given as goal

abbrev pub invariant-loop-v : goal.invariant-loop-v
invariant-loop-v l = Appended l.initial.out l.at (value_bytes l.values 0 l.v-index) l.to l.out
