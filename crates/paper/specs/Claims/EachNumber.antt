-- What is claimed of each refusal number, in each call that gives it (theorem `Each-number`): its position, and what all lent slots hold afterwards. The
-- later damages are present too, so that the order of the checks is told as well.
use Rattle.std.specs.Prelude.{ℕ, ◌≡◌, false, List, [], ◌∷◌, ◌++◌, Float, pos, replicate}
use Rattle.std.specs.Float.{fin}
use Rattle.paper.specs.Buffers.{Work}
use Rattle.paper.specs.Bytes.{text}
use Rattle.paper.specs.Claims.Samples.{event_bytes, slots, lent, cleared}
use Rattle.paper.specs.Class.{class, class_lamport}
use Rattle.paper.specs.Listing.{decimal, listing, refusal_line}
use Rattle.paper.specs.Marking.{marking}
use Rattle.paper.specs.Questions.{strict, strict_lamport, writing, comparing, chaining, comparing_sheet, chaining_sheet, ordering}
use Rattle.paper.specs.Reading.{reading, reading_lamport}
use Rattle.paper.specs.Refusals.{of_call, Outcome, refused, done}
use Rattle.paper.specs.Savings.{hundredths, percent, tallying, savings, storing}
use Rattle.paper.specs.Terms.{Terms, plain}

-- Of two processes: message 1 is sent from 0 to 1 and received; and the same with a second event that 10, 11, 12 and 13 each refuse.
abbrev pub good : List ℕ
good = event_bytes 1 0 1 1 ++ event_bytes 2 1 0 1

abbrev pub bad : List ℕ
bad = event_bytes 1 0 1 1 ++ (3 ∷ 9 ∷ 9 ∷ 1 ∷ 0 ∷ 0 ∷ 0 ∷ 0 ∷ [])

-- The stamp of that send: component 0, with the value 1.
abbrev pub stamp : List ℕ
stamp = 1 ∷ 0 ∷ 0 ∷ 0 ∷ 1 ∷ 0 ∷ []

-- What the slots for two events of two processes hold once `good` is accepted, one slot more than is named being lent.
abbrev pub full : Work
full =
    record { clocks = 1 ∷ 0 ∷ 1 ∷ 1 ∷ 9 ∷ []; masks = 1 ∷ 0 ∷ 9 ∷ []; values = 1 ∷ 0 ∷ 0 ∷ 0 ∷ 9 ∷ [] }

-- Terms with another version than 1, and no process.
abbrev pub strange : Terms
strange = record { version = 2; processes = 0; present = 0 }

-- A refusal of the event at a position.
abbrev pub refused_at : {A : Type 0} → ℕ → ℕ → Outcome A
refused_at r i = refused (record { number = r; position = i })

-- No slot at all, and enough for two events of two processes with one more of each sort.
abbrev pub none : Work
none = lent 0 0

abbrev pub enough : Work
enough = lent 5 3

-- A sheet of two processes whose event list is said to stand at `events` for `size`, and its stamps at `stamps` for `stamped`.
abbrev pub sheet : ℕ → ℕ → ℕ → ℕ → List ℕ → List ℕ
sheet events size stamps stamped behind =
    67 ∷ 75 ∷ 84 ∷ 2 ∷ 1 ∷ 0 ∷ 0 ∷ 0 ∷ events ∷ 0 ∷ 0 ∷ 0 ∷ size ∷ 0 ∷ 0 ∷ 0 ∷ stamps ∷ 0 ∷ 0 ∷ 0 ∷ stamped ∷ 0 ∷ 0 ∷ 0 ∷ behind

abbrev pub right_sheet : List ℕ
right_sheet = sheet 24 16 40 6 (good ++ stamp)

-- The same of 513 events, 4,104 bytes, and stamps at 23.
abbrev pub sheet_of_513 : List ℕ → List ℕ
sheet_of_513 behind =
    67 ∷ 75 ∷ 84 ∷ 2 ∷ 1 ∷ 0 ∷ 0 ∷ 0 ∷ 24 ∷ 0 ∷ 0 ∷ 0 ∷ 8 ∷ 16 ∷ 0 ∷ 0 ∷ 23 ∷ 0 ∷ 0 ∷ 0 ∷ 0 ∷ 0 ∷ 0 ∷ 0 ∷ behind

-- Reading refuses with r, at position 0, and writes nothing.
abbrev pub ReadAs : ℕ → List ℕ → Work → Type 0
ReadAs r b w = reading b w ≡ (refused (of_call r), w)

-- 50 and 7 as 64-bit floats.
abbrev pub fifty : Float
fifty = fin false 25 (pos 1)

abbrev pub seven : Float
seven = fin false 7 (pos 0)

-- Offers to three processes: kind, process, peer, byte 3, the two bytes of the message number, byte 6, byte 7.
abbrev pub offer : ℕ → ℕ → ℕ → ℕ → ℕ → ℕ → ℕ → ℕ → List ℕ
offer kind process peer spare₃ low high spare₆ spare₇ = kind ∷ process ∷ peer ∷ spare₃ ∷ low ∷ high ∷ spare₆ ∷ spare₇ ∷ []

abbrev pub offers : List ℕ
offers =
    offer 1 0 1 0 1 0 0 0  -- accepted: 0 sends 1 to 1
    ++ (offer 3 3 3 1 1 0 0 0  -- 10, and 11, 12, 13
    ++ (offer 1 3 3 1 1 0 0 0  -- 11, and 12, 13, 14
    ++ (offer 1 0 3 1 1 0 0 0  -- 12, peer not below n, and 13, 14
    ++ (offer 1 0 0 1 1 0 0 0  -- 12, peer equal to the process
    ++ (offer 2 1 1 1 7 0 0 0  -- 12, the same of a receive, and 13, 15
    ++ (offer 0 0 1 1 1 0 0 0  -- 12, internal: peer not 0
    ++ (offer 1 0 1 1 1 0 0 0  -- 13, byte 3, and 14
    ++ (offer 1 0 1 0 1 0 1 0  -- 13, byte 6
    ++ (offer 1 0 1 0 1 0 0 1  -- 13, byte 7
    ++ (offer 1 0 1 0 0 0 0 0  -- 13, number 0 on a send
    ++ (offer 2 1 0 0 0 0 0 0  -- 13, number 0 on a receive, and 15
    ++ (offer 0 0 0 0 0 1 0 0  -- 13, number 256 on an internal event
    ++ (offer 1 2 1 0 1 0 0 0  -- 14: used by an earlier accepted send, of another process
    ++ (offer 2 1 0 0 2 0 0 0  -- 15: no accepted send of that number
    ++ (offer 2 1 2 0 1 0 0 0  -- 15: the sender differs
    ++ (offer 2 2 0 0 1 0 0 0  -- 15: the addressee differs
    ++ (offer 1 0 1 0 2 0 0 0  -- accepted: 0 sends 2 to 1
    ++ (offer 2 1 0 0 2 0 0 0  -- 16: message 1 is not yet received
    ++ (offer 2 1 0 0 1 0 0 0  -- accepted: 1 receives 1
    ++ (offer 2 1 0 0 1 0 0 0  -- 15: already received
    ++ offer 0 2 0 0 0 0 0 0))))))))))))))))))))  -- accepted: an internal event of 2

abbrev pub answered : List ℕ
answered =
    0 ∷ 10 ∷ 11 ∷ 12 ∷ 12 ∷ 12 ∷ 12 ∷ 13 ∷ 13 ∷ 13 ∷ 13 ∷ 13 ∷ 13 ∷ 14 ∷ 15 ∷ 15 ∷ 15 ∷ 0 ∷ 16 ∷ 0 ∷ 15 ∷ 0 ∷ 9 ∷ []

-- Class mode: 4, 8, 9, behind the version, which comes first; then an answer for each offer.
pub record ClassNumbers : Type 0 where
  pub three : class strange (1 ∷ []) none [] ≡ ((refused (of_call 3), none), [])
  pub four : class (plain 0) (1 ∷ []) none [] ≡ ((refused (of_call 4), none), [])
  pub four_many : class (plain 33) (1 ∷ []) none [] ≡ ((refused (of_call 4), none), [])
  pub eight : class (plain 2) (1 ∷ []) none [] ≡ ((refused (of_call 8), none), [])
  pub eight_many : class (plain 2) (replicate 4104 0) none [] ≡ ((refused (of_call 8), none), [])
  pub nine_clocks : class (plain 2) bad (slots 3 2 4) (9 ∷ 9 ∷ []) ≡ ((refused (of_call 9), slots 3 2 4), 9 ∷ 9 ∷ [])
  pub nine_masks : class (plain 2) bad (slots 4 1 4) (9 ∷ 9 ∷ []) ≡ ((refused (of_call 9), slots 4 1 4), 9 ∷ 9 ∷ [])
  pub nine_values : class (plain 2) bad (slots 4 2 3) (9 ∷ 9 ∷ []) ≡ ((refused (of_call 9), slots 4 2 3), 9 ∷ 9 ∷ [])
  pub nine_answers : class (plain 2) bad enough (9 ∷ []) ≡ ((refused (of_call 9), enough), 9 ∷ [])
  pub each_answer :
      class (plain 3) offers (lent 67 23) (replicate 23 9)
      ≡ (
        (
          done (record { accepted = 4; carried = 2 }),
          record {
            clocks = (1 ∷ 0 ∷ 0 ∷ 2 ∷ 0 ∷ 0 ∷ 1 ∷ 1 ∷ 0 ∷ 0 ∷ 0 ∷ 1 ∷ []) ++ (replicate 54 0 ++ (9 ∷ []));
            masks = (1 ∷ 1 ∷ 0 ∷ 0 ∷ []) ++ (replicate 18 0 ++ (9 ∷ []));
            values = (1 ∷ 2 ∷ []) ++ (replicate 64 0 ++ (9 ∷ []));
          },
        ),
        answered,
      )
  -- With Lamport numbers, for which 9 wants m slots too.
  pub nine_lamport : class_lamport (plain 2) bad enough (9 ∷ 9 ∷ []) (9 ∷ []) ≡ ((refused (of_call 9), enough), 9 ∷ 9 ∷ [], 9 ∷ [])
  pub nine_asked : class_lamport (plain 2) bad enough (9 ∷ []) (9 ∷ 9 ∷ []) ≡ ((refused (of_call 9), enough), 9 ∷ [], 9 ∷ 9 ∷ [])
  pub numbered :
      class_lamport (plain 2) (good ++ bad) (lent 9 5) (replicate 5 9) (replicate 5 9)
      ≡ (
        (
          done (record { accepted = 2; carried = 1 }),
          record {
            clocks = 1 ∷ 0 ∷ 1 ∷ 1 ∷ 0 ∷ 0 ∷ 0 ∷ 0 ∷ 9 ∷ [];
            masks = 1 ∷ 0 ∷ 0 ∷ 0 ∷ 9 ∷ [];
            values = 1 ∷ 0 ∷ 0 ∷ 0 ∷ 0 ∷ 0 ∷ 0 ∷ 0 ∷ 9 ∷ [];
          },
        ),
        0 ∷ 0 ∷ 14 ∷ 10 ∷ 9 ∷ [],
        1 ∷ 2 ∷ 0 ∷ 0 ∷ 9 ∷ [],
      )

-- A list lent directly to writing and to questions: 3, 4, 8, 9, events in order, then 20, 22, 21.
pub record ListNumbers : Type 0 where
  -- the strict course
  pub three : strict strange (1 ∷ []) none ≡ (refused (of_call 3), none)
  pub four : strict (plain 33) (1 ∷ []) none ≡ (refused (of_call 4), none)
  pub eight : strict (plain 2) (1 ∷ []) none ≡ (refused (of_call 8), none)
  pub nine : strict (plain 2) bad (slots 4 2 3) ≡ (refused (of_call 9), slots 4 2 3)
  pub ten : strict (plain 2) bad enough ≡ (refused_at 10 1, cleared 4 2)
  pub accepted : strict (plain 2) good enough ≡ (done 1, full)
  pub three_lamport : strict_lamport strange (1 ∷ []) none [] ≡ ((refused (of_call 3), none), [])
  pub nine_lamport : strict_lamport (plain 2) bad enough (9 ∷ []) ≡ ((refused (of_call 9), enough), 9 ∷ [])
  pub ten_lamport : strict_lamport (plain 2) bad enough (9 ∷ 9 ∷ 9 ∷ []) ≡ ((refused_at 10 1, cleared 4 2), 0 ∷ 0 ∷ 9 ∷ [])
  pub accepted_lamport : strict_lamport (plain 2) good enough (9 ∷ 9 ∷ 9 ∷ []) ≡ ((done 1, full), 1 ∷ 2 ∷ 9 ∷ [])
  -- writing
  pub three_written : writing strange (1 ∷ []) none (replicate 45 9) ≡ ((refused (of_call 3), none), replicate 45 9)
  pub four_written : writing (plain 0) (1 ∷ []) none (replicate 45 9) ≡ ((refused (of_call 4), none), replicate 45 9)
  pub eight_written : writing (plain 2) (1 ∷ []) none (replicate 45 9) ≡ ((refused (of_call 8), none), replicate 45 9)
  pub nine_written : writing (plain 2) bad none (replicate 45 9) ≡ ((refused (of_call 9), none), replicate 45 9)
  pub ten_written : writing (plain 2) bad enough (replicate 9 9) ≡ ((refused_at 10 1, cleared 4 2), replicate 9 9)
  pub twenty_one_written : writing (plain 2) good enough (replicate 45 9) ≡ ((refused (of_call 21), cleared 4 2), replicate 45 9)
  pub written_out : writing (plain 2) good enough (replicate 47 9) ≡ ((done (record { events = 2; bytes = 46 }), full), right_sheet ++ (9 ∷ []))
  -- comparing
  pub three_compared : comparing strange (1 ∷ []) none 9 9 ≡ (refused (of_call 3), none)
  pub four_compared : comparing (plain 0) (1 ∷ []) none 9 9 ≡ (refused (of_call 4), none)
  pub eight_compared : comparing (plain 2) (1 ∷ []) none 9 9 ≡ (refused (of_call 8), none)
  pub nine_compared : comparing (plain 2) bad none 9 9 ≡ (refused (of_call 9), none)
  pub ten_compared : comparing (plain 2) bad enough 9 9 ≡ (refused_at 10 1, cleared 4 2)
  pub twenty_one_side : comparing (plain 2) good enough 2 1 ≡ (refused (of_call 20), cleared 4 2)
  pub twenty_other_side : comparing (plain 2) good enough 1 2 ≡ (refused (of_call 20), cleared 4 2)
  pub compared : comparing (plain 2) good enough 0 1 ≡ (done 1, full)
  -- the chain
  pub three_chained : chaining strange (1 ∷ []) none 9 9 [] ≡ ((refused (of_call 3), none), [])
  pub four_chained : chaining (plain 0) (1 ∷ []) none 9 9 [] ≡ ((refused (of_call 4), none), [])
  pub eight_chained : chaining (plain 2) (1 ∷ []) none 9 9 [] ≡ ((refused (of_call 8), none), [])
  pub nine_chained : chaining (plain 2) bad none 9 9 [] ≡ ((refused (of_call 9), none), [])
  pub ten_chained : chaining (plain 2) bad enough 9 9 [] ≡ ((refused_at 10 1, cleared 4 2), [])
  pub twenty_chained : chaining (plain 2) good enough 0 2 [] ≡ ((refused (of_call 20), cleared 4 2), [])
  pub twenty_two_chained : chaining (plain 2) good enough 1 0 [] ≡ ((refused (of_call 22), cleared 4 2), [])
  pub twenty_one_chained : chaining (plain 2) good enough 0 1 [] ≡ ((refused (of_call 21), cleared 4 2), [])
  pub chained : chaining (plain 2) good enough 0 1 (9 ∷ 9 ∷ []) ≡ ((done 1, full), 0 ∷ 9 ∷ [])

-- Reading: 1 to 7, 9, events in order, then stamps.
pub record ReadingNumbers : Type 0 where
  pub one : ReadAs 1 (replicate 23 0) none
  pub one_many : ReadAs 1 (replicate 40961 0) none
  pub two_first : ReadAs 2 ((66 ∷ 75 ∷ 84 ∷ []) ++ replicate 21 1) none
  pub two_second : ReadAs 2 ((67 ∷ 74 ∷ 84 ∷ []) ++ replicate 21 1) none
  pub two_third : ReadAs 2 ((67 ∷ 75 ∷ 83 ∷ []) ++ replicate 21 1) none
  pub three : ReadAs 3 ((67 ∷ 75 ∷ 84 ∷ 0 ∷ 2 ∷ 0 ∷ []) ++ replicate 18 1) none
  pub three_high : ReadAs 3 ((67 ∷ 75 ∷ 84 ∷ 0 ∷ 1 ∷ 1 ∷ []) ++ replicate 18 1) none
  pub four : ReadAs 4 ((67 ∷ 75 ∷ 84 ∷ 0 ∷ 1 ∷ 0 ∷ []) ++ replicate 18 1) none
  pub four_many : ReadAs 4 ((67 ∷ 75 ∷ 84 ∷ 33 ∷ 1 ∷ 0 ∷ []) ++ replicate 18 1) none
  pub five : ReadAs 5 ((67 ∷ 75 ∷ 84 ∷ 2 ∷ 1 ∷ 0 ∷ 1 ∷ 0 ∷ []) ++ replicate 16 1) none
  pub five_other : ReadAs 5 ((67 ∷ 75 ∷ 84 ∷ 2 ∷ 1 ∷ 0 ∷ 0 ∷ 1 ∷ []) ++ replicate 16 1) none
  -- 6: offset under 24, past the sheet's length, size greater than what is left, not a multiple of 8, over 4,096; with 7 each time
  pub six_under : ReadAs 6 (sheet 23 16 23 6 (bad ++ stamp)) none
  pub six_past : ReadAs 6 (sheet 47 0 23 6 (bad ++ stamp)) none
  pub six_greater : ReadAs 6 (sheet 24 24 23 6 (bad ++ stamp)) none
  pub six_not_whole : ReadAs 6 (sheet 24 15 23 6 (bad ++ stamp)) none
  pub six_over : ReadAs 6 (sheet_of_513 (replicate 4104 0)) none
  -- 7: offset under 24, past the length, size greater than what is left, a byte shared; with 9 each time
  pub seven_under : ReadAs 7 (sheet 24 16 23 1 (bad ++ stamp)) none
  pub seven_past : ReadAs 7 (sheet 24 16 47 0 (bad ++ stamp)) none
  pub seven_greater : ReadAs 7 (sheet 24 16 40 7 (bad ++ stamp)) none
  pub seven_shared : ReadAs 7 (sheet 24 16 39 6 (bad ++ stamp)) none
  pub nine_clocks : ReadAs 9 (sheet 24 16 40 6 (bad ++ stamp)) (slots 3 2 4)
  pub nine_masks : ReadAs 9 (sheet 24 16 40 6 (bad ++ stamp)) (slots 4 1 4)
  pub nine_values : ReadAs 9 (sheet 24 16 40 6 (bad ++ stamp)) (slots 4 2 3)
  pub nine_lamport :
      reading_lamport (sheet 24 16 40 6 (bad ++ stamp)) enough (9 ∷ []) ≡ ((refused (of_call 9), enough), 9 ∷ [])
  pub ten : reading (sheet 24 16 40 7 (bad ++ (7 ∷ stamp))) enough ≡ (refused_at 10 1, cleared 4 2)
  pub ten_lamport :
      reading_lamport (sheet 24 16 40 7 (bad ++ (7 ∷ stamp))) enough (9 ∷ 9 ∷ 9 ∷ []) ≡ ((refused_at 10 1, cleared 4 2), 0 ∷ 0 ∷ 9 ∷ [])
  -- 18: another mask, another value, or it ends early; with 19 where it does not end early
  pub eighteen_mask : reading (sheet 24 16 40 7 (good ++ (3 ∷ 0 ∷ 0 ∷ 0 ∷ 1 ∷ 0 ∷ 0 ∷ []))) enough ≡ (refused_at 18 0, cleared 4 2)
  pub eighteen_value : reading (sheet 24 16 40 7 (good ++ (1 ∷ 0 ∷ 0 ∷ 0 ∷ 2 ∷ 0 ∷ 0 ∷ []))) enough ≡ (refused_at 18 0, cleared 4 2)
  pub eighteen_early : reading (sheet 24 16 40 5 (good ++ stamp)) enough ≡ (refused_at 18 0, cleared 4 2)
  pub nineteen : reading (sheet 24 16 40 7 (good ++ (stamp ++ (0 ∷ [])))) enough ≡ (refused (of_call 19), cleared 4 2)
  pub nineteen_lamport :
      reading_lamport (sheet 24 16 40 7 (good ++ (stamp ++ (0 ∷ [])))) enough (9 ∷ 9 ∷ 9 ∷ [])
      ≡ ((refused (of_call 19), cleared 4 2), 0 ∷ 0 ∷ 9 ∷ [])
  pub read : reading right_sheet enough ≡ (done (record { terms = plain 2; list = good; carried = 1 }), full)
  pub read_lamport :
      reading_lamport right_sheet enough (9 ∷ 9 ∷ 9 ∷ [])
      ≡ ((done (record { terms = plain 2; list = good; carried = 1 }), full), 1 ∷ 2 ∷ 9 ∷ [])

-- The other calls on a sheet: refused as in reading, then as they apply; of marking 30 before all.
pub record SheetNumbers : Type 0 where
  -- comparing
  pub one_compared : comparing_sheet (1 ∷ []) none 9 9 ≡ (refused (of_call 1), none)
  pub nine_compared : comparing_sheet (sheet 24 16 40 6 (bad ++ stamp)) none 9 9 ≡ (refused (of_call 9), none)
  pub ten_compared : comparing_sheet (sheet 24 16 40 6 (bad ++ stamp)) enough 9 9 ≡ (refused_at 10 1, cleared 4 2)
  pub eighteen_compared : comparing_sheet (sheet 24 16 40 5 (good ++ stamp)) enough 9 9 ≡ (refused_at 18 0, cleared 4 2)
  pub twenty_one_side : comparing_sheet right_sheet enough 2 1 ≡ (refused (of_call 20), cleared 4 2)
  pub twenty_other_side : comparing_sheet right_sheet enough 1 2 ≡ (refused (of_call 20), cleared 4 2)
  pub compared : comparing_sheet right_sheet enough 1 0 ≡ (done 2, full)
  -- the chain
  pub one_chained : chaining_sheet (1 ∷ []) none 9 9 [] ≡ ((refused (of_call 1), none), [])
  pub nine_chained : chaining_sheet (sheet 24 16 40 6 (bad ++ stamp)) none 9 9 [] ≡ ((refused (of_call 9), none), [])
  pub ten_chained : chaining_sheet (sheet 24 16 40 6 (bad ++ stamp)) enough 9 9 [] ≡ ((refused_at 10 1, cleared 4 2), [])
  pub eighteen_chained : chaining_sheet (sheet 24 16 40 5 (good ++ stamp)) enough 9 9 [] ≡ ((refused_at 18 0, cleared 4 2), [])
  pub twenty_chained : chaining_sheet right_sheet enough 0 2 [] ≡ ((refused (of_call 20), cleared 4 2), [])
  pub twenty_two_chained : chaining_sheet right_sheet enough 1 0 [] ≡ ((refused (of_call 22), cleared 4 2), [])
  pub twenty_one_chained : chaining_sheet right_sheet enough 0 1 [] ≡ ((refused (of_call 21), cleared 4 2), [])
  pub chained : chaining_sheet right_sheet enough 0 1 (9 ∷ 9 ∷ []) ≡ ((done 1, full), 0 ∷ 9 ∷ [])
  -- marking: 30, not whole lines, and more than 200
  pub thirty : marking (1 ∷ []) (0 ∷ []) none [] ≡ ((refused (of_call 30), none), [])
  pub thirty_many : marking right_sheet (replicate 1206 0) enough (replicate 201 9) ≡ ((refused (of_call 30), enough), replicate 201 9)
  pub one_marked : marking (1 ∷ []) (1 ∷ 0 ∷ 0 ∷ 0 ∷ 2 ∷ 0 ∷ []) none [] ≡ ((refused (of_call 1), none), [])
  pub nine_marked : marking (sheet 24 16 40 6 (bad ++ stamp)) (1 ∷ 0 ∷ 0 ∷ 0 ∷ 2 ∷ 0 ∷ []) none [] ≡ ((refused (of_call 9), none), [])
  pub ten_marked :
      marking (sheet 24 16 40 6 (bad ++ stamp)) (1 ∷ 0 ∷ 0 ∷ 0 ∷ 2 ∷ 0 ∷ []) enough [] ≡ ((refused_at 10 1, cleared 4 2), [])
  pub eighteen_marked :
      marking (sheet 24 16 40 5 (good ++ stamp)) (1 ∷ 0 ∷ 0 ∷ 0 ∷ 2 ∷ 0 ∷ []) enough [] ≡ ((refused_at 18 0, cleared 4 2), [])
  pub twenty_one_marked : marking right_sheet (1 ∷ 0 ∷ 0 ∷ 0 ∷ 2 ∷ 0 ∷ []) enough [] ≡ ((refused (of_call 21), cleared 4 2), [])
  pub marked :
      marking right_sheet (1 ∷ 0 ∷ 0 ∷ 0 ∷ 2 ∷ 0 ∷ []) enough (9 ∷ 9 ∷ []) ≡ ((done (record { total = 1; lines = 1 }), full), 1 ∷ 9 ∷ [])
  -- what was saved
  pub one_tallied : tallying (1 ∷ []) none ≡ (refused (of_call 1), none)
  pub nine_tallied : tallying (sheet 24 16 40 6 (bad ++ stamp)) none ≡ (refused (of_call 9), none)
  pub ten_tallied : tallying (sheet 24 16 40 6 (bad ++ stamp)) enough ≡ (refused_at 10 1, cleared 4 2)
  pub eighteen_tallied : tallying (sheet 24 16 40 5 (good ++ stamp)) enough ≡ (refused_at 18 0, cleared 4 2)
  pub tallied : tallying right_sheet enough ≡ (done (record { processes = 2; events = 2; sends = 1; carried = 1 }), full)
  pub one_saved : savings (1 ∷ []) none ≡ (refused (of_call 1), none)
  pub eighteen_saved : savings (sheet 24 16 40 5 (good ++ stamp)) enough ≡ (refused_at 18 0, cleared 4 2)
  pub saved : savings right_sheet enough ≡ (done (percent fifty), full)
  pub one_stored : storing (1 ∷ []) none [] ≡ ((refused (of_call 1), none), [])
  pub nine_stored : storing (sheet 24 16 40 6 (bad ++ stamp)) none [] ≡ ((refused (of_call 9), none), [])
  pub ten_stored : storing (sheet 24 16 40 6 (bad ++ stamp)) enough [] ≡ ((refused_at 10 1, cleared 4 2), [])
  pub eighteen_stored : storing (sheet 24 16 40 5 (good ++ stamp)) enough [] ≡ ((refused_at 18 0, cleared 4 2), [])
  pub twenty_one_stored : storing right_sheet enough [] ≡ ((refused (of_call 21), cleared 4 2), [])
  pub stored_first : storing right_sheet enough (seven ∷ seven ∷ []) ≡ ((done (percent fifty), full), fifty ∷ seven ∷ [])

-- Comparing two lent clocks: 4 only.
pub record ClockNumbers : Type 0 where
  pub four_none : ordering [] [] ≡ refused (of_call 4)
  pub four_many : ordering (replicate 33 1) (replicate 33 1) ≡ refused (of_call 4)
  pub four_longer : ordering (1 ∷ 1 ∷ []) (1 ∷ []) ≡ refused (of_call 4)
  pub four_shorter : ordering (1 ∷ []) (1 ∷ 1 ∷ []) ≡ refused (of_call 4)
  pub below : ordering (1 ∷ 0 ∷ []) (1 ∷ 1 ∷ []) ≡ done 1
  pub above : ordering (1 ∷ 1 ∷ []) (1 ∷ 0 ∷ []) ≡ done 2
  pub neither : ordering (1 ∷ 0 ∷ []) (0 ∷ 1 ∷ []) ≡ done 3
  pub equal : ordering (1 ∷ 0 ∷ []) (1 ∷ 0 ∷ []) ≡ done 4

-- What is printed: digits, an internal event's line, a refusal's line; and hundredths, which are cut.
pub record PrintedNumbers : Type 0 where
  pub nought : decimal 0 ≡ text "0"
  pub ten : decimal 10 ≡ text "10"
  pub largest_mask : decimal 4294967295 ≡ text "4294967295"
  pub internal : listing (plain 1) (event_bytes 0 0 0 0) ≡ text "events 1 processes 1 entries 0\n0 I 0 0 0 0 1\n"
  pub refusal : refusal_line (record { number = 16; position = 511 }) ≡ text "refused 16 at 511\n"
  pub two_thirds : hundredths (record { processes = 3; events = 1; sends = 1; carried = 1 }) ≡ 6666
  pub all : hundredths (record { processes = 3; events = 1; sends = 1; carried = 0 }) ≡ 10000

-- Each number, in each call that gives it.
pub record EachNumber : Type 0 where
  pub in_class : ClassNumbers
  pub on_a_list : ListNumbers
  pub in_reading : ReadingNumbers
  pub on_a_sheet : SheetNumbers
  pub on_clocks : ClockNumbers
  pub in_print : PrintedNumbers
