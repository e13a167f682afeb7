-- Leaving a refused offer out changes no other answer, clock or stamp (theorems `left_out` and `left_out_list`).
use Rattle.std.specs.Prelude.{ℕ, suc, ◌*◌, ◌≡◌, List, ◌∷◌, ◌++◌, length, take, drop}
use Rattle.paper.specs.Event.{Event}
use Rattle.paper.specs.Lamport.{lamports}
use Rattle.paper.specs.Machine.{start, answers, clocked, answers_of, accepted_of}
use Rattle.paper.specs.Running.{fresh_records, record_stamps}
use Rattle.paper.specs.Stamp.{stamps}
use Rattle.paper.specs.Terms.{Terms}

-- A list without its element k, and a list of records without the record at k.
abbrev pub without : ℕ → List ℕ → List ℕ
without k xs = take k xs ++ drop (suc k) xs

abbrev pub without_record : ℕ → List ℕ → List ℕ
without_record k list = take (8 * k) list ++ drop (8 * suc k) list

-- The offer e, refused between the offers os and ps.
pub record LeftOut (t : Terms) (os : List Event) (e : Event) (ps : List Event) : Type 0 where
  pub same_answers : without (length os) (answers t (start t) (os ++ e ∷ ps)) ≡ answers t (start t) (os ++ ps)
  pub same_clocks : clocked t (start t) (os ++ e ∷ ps) ≡ clocked t (start t) (os ++ ps)
  pub same_lamports : lamports (clocked t (start t) (os ++ e ∷ ps)) ≡ lamports (clocked t (start t) (os ++ ps))
  pub same_stamps : stamps (clocked t (start t) (os ++ e ∷ ps)) ≡ stamps (clocked t (start t) (os ++ ps))
  pub same_record_stamps : record_stamps t (start t) fresh_records (os ++ e ∷ ps) ≡ record_stamps t (start t) fresh_records (os ++ ps)

-- The refused offer at position k of the bytes of a list.
pub record LeftOutList (t : Terms) (list : List ℕ) (k : ℕ) : Type 0 where
  pub same_answers : without k (answers_of t list) ≡ answers_of t (without_record k list)
  pub same_accepted : accepted_of t list ≡ accepted_of t (without_record k list)
