-- The fields of the event at i in the bytes of a list.
use Rattle.std.specs.Prelude.{ℕ, ◌+◌, ◌*◌, List}
use Rattle.paper.specs.Bytes.{byte, two}

abbrev pub kind_at : List ℕ → ℕ → ℕ
kind_at list i = byte list (8 * i)

abbrev pub process_at : List ℕ → ℕ → ℕ
process_at list i = byte list (8 * i + 1)

abbrev pub peer_at : List ℕ → ℕ → ℕ
peer_at list i = byte list (8 * i + 2)

abbrev pub message_at : List ℕ → ℕ → ℕ
message_at list i = two list (8 * i + 4)
