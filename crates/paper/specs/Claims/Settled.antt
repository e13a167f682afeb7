-- What is claimed of the settled examples (1) to (12) of the paper, of the chain's room, and of sheet A entire, with its Lamport numbers (theorem `settled`).
use Rattle.std.specs.Prelude.{ℕ, ◌≡◌, List, [], ◌∷◌, ◌++◌, length, take, drop, replicate}
use Rattle.paper.specs.Bytes.{text}
use Rattle.paper.specs.Claims.Samples.{event_bytes, A, B, lent, cleared}
use Rattle.paper.specs.Class.{class}
use Rattle.paper.specs.Listing.{listing, lamport_listing}
use Rattle.paper.specs.Questions.{comparing, chaining}
use Rattle.paper.specs.Reading.{reading, reading_lamport}
use Rattle.paper.specs.Refusals.{of_call, refused, done}
use Rattle.paper.specs.Sheet.{stamps_part, header, written}
use Rattle.paper.specs.Terms.{plain}

-- Messages 1, 2 sent from 0 to 1, then 2 received first.
abbrev pub overtaking : List ℕ
overtaking = event_bytes 1 0 1 1 ++ (event_bytes 1 0 1 2 ++ event_bytes 2 1 0 2)

-- The header of example 11, and 92 further bytes.
abbrev pub wrapping : List ℕ
wrapping =
    (67 ∷ 75 ∷ 84 ∷ 3 ∷ 1 ∷ 0 ∷ 0 ∷ 0 ∷ 24 ∷ 0 ∷ 0 ∷ 255 ∷ 64 ∷ 0 ∷ 0 ∷ 1 ∷ 88 ∷ 0 ∷ 0 ∷ 0 ∷ 28 ∷ 0 ∷ 0 ∷ 0 ∷ []) ++ replicate 92 0

pub record Settled : Type 0 where
  -- (1) the clocks of A, and (2) its masks, with the carried values, as reading A leaves them
  pub clocks_of_A :
      (reading (written (plain 3) A) (lent 25 9)).1.clocks
      ≡ (1 ∷ 0 ∷ 0 ∷ []) ++ ((0 ∷ 0 ∷ 1 ∷ []) ++ ((1 ∷ 1 ∷ 0 ∷ []) ++ ((1 ∷ 2 ∷ 0 ∷ []) ++ ((1 ∷ 3 ∷ 1 ∷ []) ++ ((1 ∷ 4 ∷ 1 ∷ []) ++ ((2 ∷ 2 ∷ 0 ∷ []) ++ ((3 ∷ 4 ∷ 1 ∷ []) ++ (9 ∷ []))))))))
  pub masks_of_A : (reading (written (plain 3) A) (lent 25 9)).1.masks ≡ 1 ∷ 4 ∷ 0 ∷ 3 ∷ 0 ∷ 6 ∷ 0 ∷ 0 ∷ 9 ∷ []
  pub values_of_A : (reading (written (plain 3) A) (lent 25 9)).1.values ≡ (1 ∷ 1 ∷ 1 ∷ 2 ∷ 4 ∷ 1 ∷ []) ++ (replicate 18 0 ++ (9 ∷ []))
  -- (3) event 1 and event 3 give 3; (4) 1 and 7 give 1; (5) 7 and 0 give 2; and an event and itself 4 (request 3)
  pub neither : (comparing (plain 3) A (lent 24 8) 1 3).0 ≡ done 3
  pub before : (comparing (plain 3) A (lent 24 8) 1 7).0 ≡ done 1
  pub after : (comparing (plain 3) A (lent 24 8) 7 0).0 ≡ done 2
  pub itself : (comparing (plain 3) A (lent 24 8) 4 4).0 ≡ done 4
  -- (6) the chain from 1 to 7 is 1, 5
  pub chain_of_A : (chaining (plain 3) A (lent 24 8) 1 7 (9 ∷ 9 ∷ 9 ∷ [])).1 ≡ 1 ∷ 5 ∷ 9 ∷ []
  -- its room (request 6): two slots for three processes, one is too few; 22 comes before 21; with one process no slot is needed
  pub room_of_A : (chaining (plain 3) A (lent 24 8) 1 7 (9 ∷ 9 ∷ [])).1 ≡ 1 ∷ 5 ∷ []
  pub scant_for_A : chaining (plain 3) A (lent 25 9) 1 7 (9 ∷ []) ≡ ((refused (of_call 21), cleared 24 8), 9 ∷ [])
  pub not_before_first : (chaining (plain 3) A (lent 24 8) 7 0 []).0.0 ≡ refused (of_call 22)
  pub no_room_for_one : (chaining (plain 1) (event_bytes 0 0 0 0 ++ event_bytes 0 0 0 0) (lent 2 2) 0 1 []).0.0 ≡ done 0
  -- (7) the empty list has no clocks: no slot is named, and each is left as it was
  pub empty : class (plain 3) [] (lent 0 0) [] ≡ ((done (record { accepted = 0; carried = 0 }), lent 0 0), [])
  pub empty_with_slots : class (plain 3) [] (lent 3 1) (9 ∷ []) ≡ ((done (record { accepted = 0; carried = 0 }), lent 3 1), 9 ∷ [])
  -- (8) messages 1, 2 sent from 0 to 1, then 2 received first: 16
  pub overtaken : (class (plain 2) overtaking (lent 6 3) (9 ∷ 9 ∷ 9 ∷ [])).1 ≡ 0 ∷ 0 ∷ 16 ∷ []
  pub overtaken_at : comparing (plain 2) overtaking (lent 7 4) 0 1 ≡ (refused (record { number = 16; position = 2 }), cleared 6 3)
  -- (9) message 1 received twice: 15
  pub twice : (class (plain 2) (event_bytes 1 0 1 1 ++ (event_bytes 2 1 0 1 ++ event_bytes 2 1 0 1)) (lent 6 3) (9 ∷ 9 ∷ 9 ∷ [])).1 ≡ 0 ∷ 0 ∷ 15 ∷ []
  -- (10) one process, a send to 0: 12
  pub to_itself : (class (plain 1) (event_bytes 1 0 0 1) (lent 1 1) (9 ∷ [])).1 ≡ 12 ∷ []
  -- (11) event offset 4,278,190,104 and size 16,777,280, whose 32-bit sum is 88: 6
  pub wraps : reading wrapping (lent 24 8) ≡ (refused (of_call 6), lent 24 8)
  -- (12) list B: the clocks of the last two, and their masks
  pub clocks_of_B : drop 12 (class (plain 2) B (lent 16 8) (replicate 8 9)).0.1.clocks ≡ 5 ∷ 2 ∷ 5 ∷ 3 ∷ []
  pub masks_of_B : drop 6 (class (plain 2) B (lent 16 8) (replicate 8 9)).0.1.masks ≡ 3 ∷ 2 ∷ []
  -- sheet A as written is 116 bytes: events at 24 for 64, stamps at 88 for 28; and its listing
  pub sheet_A :
      written (plain 3) A
      ≡ (67 ∷ 75 ∷ 84 ∷ 3 ∷ 1 ∷ 0 ∷ 0 ∷ 0 ∷ 24 ∷ 0 ∷ 0 ∷ 0 ∷ 64 ∷ 0 ∷ 0 ∷ 0 ∷ 88 ∷ 0 ∷ 0 ∷ 0 ∷ 28 ∷ 0 ∷ 0 ∷ 0 ∷ [])
      ++ (A ++ (1 ∷ 0 ∷ 0 ∷ 0 ∷ 1 ∷ 0 ∷ 4 ∷ 0 ∷ 0 ∷ 0 ∷ 1 ∷ 0 ∷ 3 ∷ 0 ∷ 0 ∷ 0 ∷ 1 ∷ 0 ∷ 2 ∷ 0 ∷ 6 ∷ 0 ∷ 0 ∷ 0 ∷ 4 ∷ 0 ∷ 1 ∷ 0 ∷ []))
  pub bytes_of_A : length (written (plain 3) A) ≡ 116
  pub read_A : (reading (written (plain 3) A) (lent 24 8)).0 ≡ done (record { terms = plain 3; list = A; carried = 6 })
  -- its Lamport numbers by LC1 and LC2, as reading A leaves them; with one slot too few for them: 9
  pub lamports_of_A : (reading_lamport (written (plain 3) A) (lent 25 9) (replicate 9 9)).1 ≡ 1 ∷ 1 ∷ 2 ∷ 3 ∷ 4 ∷ 5 ∷ 4 ∷ 6 ∷ 9 ∷ []
  pub lamports_short : reading_lamport (written (plain 3) A) (lent 24 8) (replicate 7 9) ≡ ((refused (of_call 9), lent 24 8), replicate 7 9)
  -- its last stamp cut short: 18 at its event; a byte more behind its stamps: 19
  pub ends_early :
      reading (header (plain 3) 64 26 ++ (A ++ take 26 (stamps_part (plain 3) A))) (lent 25 9) ≡ (refused (record { number = 18; position = 5 }), cleared 24 8)
  pub left_over : reading (header (plain 3) 64 29 ++ (A ++ (stamps_part (plain 3) A ++ (0 ∷ [])))) (lent 25 9) ≡ (refused (of_call 19), cleared 24 8)
  pub listing_of_A :
      listing (plain 3) A
      ≡ text "events 8 processes 3 entries 6\n0 S 0 1 1 1 1 0 0\n1 S 2 1 2 4 0 0 1\n2 R 1 0 1 0 1 1 0\n3 S 1 0 3 3 1 2 0\n4 R 1 2 2 0 1 3 1\n5 S 1 0 4 6 1 4 1\n6 R 0 1 3 0 2 2 0\n7 R 0 1 4 0 3 4 1\n"
  pub lamport_listing_of_A :
      lamport_listing (plain 3) A
      ≡ text "events 8 processes 3 entries 6\n0 S 0 1 1 1 1 0 0 1\n1 S 2 1 2 4 0 0 1 1\n2 R 1 0 1 0 1 1 0 2\n3 S 1 0 3 3 1 2 0 3\n4 R 1 2 2 0 1 3 1 4\n5 S 1 0 4 6 1 4 1 5\n6 R 0 1 3 0 2 2 0 4\n7 R 0 1 4 0 3 4 1 6\n"
