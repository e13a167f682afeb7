-- What a header says, and the paper's outcome for each case of the answer.
use Rattle.std.specs.Prelude.{ℕ, ◌+◌, ◌%◌, ◌<◌, ◌^◌, Bool, ◌||◌, not, List, ◌≡◌, Result, Ok, Err, eqb, ltb, length}
use Rattle.clock.specs.Check.{number_of}
use Rattle.clock.specs.declared.check.Check.{Check}
use Rattle.paper.specs.Bytes.{byte, four}
use Rattle.paper.specs.Reading.{outside, shared}
use Rattle.paper.specs.Refusals.{first, Outcome, of_call, refused, done}
use Rattle.paper.specs.Sheet.{processes_in, version_in, list_offset, list_size, stamps_offset, stamps_size}
use Rattle.sheet.specs.declared.header.Part.{Part}
use Rattle.sheet.specs.declared.header.Parts.{Parts}

-- The single checks 1, 2, 3, 5, 6 and 7 of the paper's `header_checks`; 4 is the paper's `wrong_count`.
abbrev pub wrong_length : List ℕ → Bool
wrong_length b = ltb (length b) 24 || ltb 40960 (length b)

abbrev pub wrong_letters : List ℕ → Bool
wrong_letters b = not (eqb (byte b 0) 67) || not (eqb (byte b 1) 75) || not (eqb (byte b 2) 84)

abbrev pub wrong_version : List ℕ → Bool
wrong_version b = not (eqb (version_in b) 1)

abbrev pub wrong_zeros : List ℕ → Bool
wrong_zeros b = not (eqb (byte b 6) 0) || not (eqb (byte b 7) 0)

abbrev pub wrong_list : ℕ → Part → Bool
wrong_list len p = outside len p.offset p.size || not (eqb (p.size % 8) 0) || ltb 4096 p.size

abbrev pub wrong_stamps : ℕ → Part → Part → Bool
wrong_stamps len p q = outside len q.offset q.size || shared p.offset p.size q.offset q.size

-- The number of the first check that holds, 1 to 7, or else what k gives.
abbrev pub in_turn : Bool → Bool → Bool → Bool → Bool → Bool → Bool → ℕ → ℕ
in_turn b1 b2 b3 b4 b5 b6 b7 k = first b1 1 (first b2 2 (first b3 3 (first b4 4 (first b5 5 (first b6 6 (first b7 7 k))))))

-- The terms of a sheet, and where its two parts lie.
abbrev pub parts_in : List ℕ → Parts
parts_in b =
    record {
      terms = record { version = version_in b; processes = processes_in b; present = byte b 6 };
      list = record { offset = list_offset b; size = list_size b };
      stamps = record { offset = stamps_offset b; size = stamps_size b };
    }

-- The check that refuses, or the parts.
abbrev pub headed : Result Parts Check → Outcome Parts
headed (Err c) = refused (of_call (number_of c))
headed (Ok p) = done p

-- The offset and the size that stand at k, each of four bytes.
pub record Placed (b : List ℕ) (k : ℕ) (p : Part) : Type 0 where
  pub offset : p.offset ≡ four b k
  pub size : p.size ≡ four b (k + 4)
  pub low : p.offset < 2 ^ 32
  pub short : p.size < 2 ^ 32

-- The parts of the sheet b lie as p says.
pub record Lies (b : List ℕ) (p : Parts) : Type 0 where
  pub version : p.terms.version ≡ version_in b
  pub processes : p.terms.processes ≡ processes_in b
  pub present : p.terms.present ≡ byte b 6
  pub list : Placed b 8 p.list
  pub stamps : Placed b 16 p.stamps
