-- What `savings` prints, byte for byte.
use Rattle.std.specs.Prelude.{ℕ, ◌+◌, ◌/◌, ◌%◌, List, [], ◌∷◌, ◌++◌}
use Rattle.paper.specs.Bytes.{text}
use Rattle.paper.specs.Listing.{word}

-- A sheet without messages.
unfoldable pub no_messages_line : List ℕ
no_messages_line = text "no messages\n"

-- A percentage by its whole hundredths: `saved`, the whole part, a point and two decimals.
unfoldable pub saved_line : ℕ → List ℕ
saved_line h = text "saved" ++ word (h / 100) ++ text "." ++ ((48 + h / 10 % 10) ∷ []) ++ ((48 + h % 10) ∷ []) ++ text "\n"
