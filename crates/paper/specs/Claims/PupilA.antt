-- What is claimed of a pupil's list on sheet A, and of its refusals (theorem `pupil_A`).
use Rattle.std.specs.Prelude.{ℕ, ◌≡◌, List, [], ◌∷◌, ◌++◌, replicate}
use Rattle.paper.specs.Claims.Samples.{A, lent, cleared}
use Rattle.paper.specs.Marking.{marking}
use Rattle.paper.specs.Refusals.{of_call, refused, done}
use Rattle.paper.specs.Sheet.{written}
use Rattle.paper.specs.Terms.{plain}

-- The bytes of a line.
abbrev pub line_bytes : ℕ → ℕ → ℕ → List ℕ
line_bytes a b v = a ∷ 0 ∷ b ∷ 0 ∷ v ∷ 0 ∷ []

-- Four right lines; then a wrong verdict, a missing event, no known verdict, and 3 for an event and itself.
abbrev pub pupil : List ℕ
pupil =
    line_bytes 1 3 3 ++ (line_bytes 1 7 1 ++ (line_bytes 7 0 2 ++ (line_bytes 4 4 4
    ++ (line_bytes 1 7 3 ++ (line_bytes 1 8 1 ++ (line_bytes 1 7 0 ++ line_bytes 4 4 3))))))

pub record PupilA : Type 0 where
  pub answered : (marking (written (plain 3) A) pupil (lent 25 9) (replicate 9 9)).0.0 ≡ done (record { total = 4; lines = 8 })
  pub marked : (marking (written (plain 3) A) pupil (lent 25 9) (replicate 9 9)).1 ≡ 1 ∷ 1 ∷ 1 ∷ 1 ∷ 0 ∷ 0 ∷ 0 ∷ 0 ∷ 9 ∷ []
  pub few_slots : marking (written (plain 3) A) pupil (lent 25 9) (replicate 7 9) ≡ ((refused (of_call 21), cleared 24 8), replicate 7 9)
  pub not_whole : marking (written (plain 3) A) (1 ∷ []) (lent 25 9) (replicate 5 9) ≡ ((refused (of_call 30), lent 25 9), replicate 5 9)
