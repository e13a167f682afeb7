-- The answer of a C call: one number, in which four fields stand.
use Rattle.std.specs.Prelude.{ℕ, ◌+◌, ◌*◌, ◌<◌}
use Rattle.paper.specs.Buffers.{Work}
use Rattle.paper.specs.Class.{Classed}
use Rattle.paper.specs.Event.{how_many}
use Rattle.paper.specs.Marking.{Marked}
use Rattle.paper.specs.Questions.{Written}
use Rattle.paper.specs.Reading.{Read}
use Rattle.paper.specs.Refusals.{Refusal, Outcome, refused, done}
use Rattle.paper.specs.Savings.{Saving, no_messages, percent}

pub record Fields : Type 0 where
  pub number : ℕ
  pub x : ℕ
  pub y : ℕ
  pub z : ℕ

-- Fields that do not touch in the number.
pub record Small (f : Fields) : Type 0 where
  pub number : f.number < 256
  pub x : f.x < 256
  pub y : f.y < 65536
  pub z : f.z < 65536

abbrev pub packed : Fields → ℕ
packed f = f.number + 256 * f.x + 65536 * f.y + 4294967296 * f.z

-- Any call, refused: the refusal number, and the position.
abbrev pub refusal_fields : Refusal → Fields
refusal_fields r = record { number = r.number; x = 0; y = r.position; z = 0 }

-- Reading: process count, events, carried values.
abbrev pub read_fields : Read → Fields
read_fields a = record { number = 0; x = a.terms.processes; y = how_many a.list; z = a.carried }

-- Class mode: accepted events, carried values.
abbrev pub class_fields : Classed → Fields
class_fields a = record { number = 0; x = 0; y = a.accepted; z = a.carried }

-- Writing: events, bytes written.
abbrev pub write_fields : Written → Fields
write_fields a = record { number = 0; x = 0; y = a.events; z = a.bytes }

-- Comparing two events or two clocks: the verdict.
abbrev pub verdict_fields : ℕ → Fields
verdict_fields v = record { number = 0; x = v; y = 0; z = 0 }

-- The chain: its length.
abbrev pub chain_fields : ℕ → Fields
chain_fields k = record { number = 0; x = 0; y = 0; z = k }

-- Marking: the total, the lines.
abbrev pub mark_fields : Marked → Fields
mark_fields a = record { number = 0; x = 0; y = a.total; z = a.lines }

-- The saving: whether there is a percentage.
abbrev pub saving_fields : Saving → Fields
saving_fields no_messages = record { number = 0; x = 0; y = 0; z = 0 }
saving_fields (percent p) = record { number = 0; x = 1; y = 0; z = 0 }

-- The fields of what a call gives, where `told` has those of its answer.
abbrev pub fields : {A : Type 0} → (A → Fields) → Outcome A → Fields
fields told (refused r) = refusal_fields r
fields told (done a) = told a

-- The number of what a call gives; and of a call with lent slices, that number and what these hold afterwards.
abbrev pub answered : {A : Type 0} → (A → Fields) → Outcome A → ℕ
answered told o = packed (fields told o)

abbrev pub with_work : {A : Type 0} → (A → Fields) → Outcome A × Work → ℕ × Work
with_work told r = (answered told r.0, r.1)

-- The same with a further slice, and with two.
abbrev pub with_output : {A B : Type 0} → (A → Fields) → (Outcome A × Work) × B → (ℕ × Work) × B
with_output told r = (with_work told r.0, r.1)

abbrev pub with_two : {A B C : Type 0} → (A → Fields) → (Outcome A × Work) × B × C → (ℕ × Work) × B × C
with_two told r = (with_work told r.0, r.1, r.2)
