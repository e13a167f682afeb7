-- What a course is lent, as one: the slots that each offer writes, and those of the Lamport numbers.
use Rattle.std.specs.Prelude.{List, ℕ, length}
use Rattle.paper.specs.Buffers.{Work}
use Rattle.offers.specs.declared.Lengths.{Lengths}

-- What an offer writes: the work buffers of every call that judges events, and an answer for each offer.
pub record Page : Type 0 where
  pub work : Work
  pub answers : List ℕ

pub record Slots : Type 0 where
  pub page : Page
  pub lamports : List ℕ

abbrev pub work : List ℕ → List ℕ → List ℕ → Work
work c m v = record { clocks = c; masks = m; values = v }

abbrev pub page : List ℕ → List ℕ → List ℕ → List ℕ → Page
page c m v a = record { work = work c m v; answers = a }

abbrev pub slots : List ℕ → List ℕ → List ℕ → List ℕ → List ℕ → Slots
slots c m v a l = record { page = page c m v a; lamports = l }

abbrev pub lengths : Slots → Lengths
lengths w =
    record {
      clocks = length w.page.work.clocks;
      masks = length w.page.work.masks;
      values = length w.page.work.values;
      answers = length w.page.answers;
      lamports = length w.lamports;
    }
