-- `unpacked`: from the number of every call, whatever is lent, each field of its outcome can be read back.
use Prim.Native.Nat.{ℕ}
use mathlib.Core.List.{List}
use lib.Ieee.{Float}
use Rattle.paper.specs.Buffers.{Work}
use Rattle.paper.specs.Class.{class, class_lamport}
use Rattle.paper.specs.Marking.{marking}
use Rattle.paper.specs.Questions.{ordering, comparing, chaining, writing}
use Rattle.paper.specs.Reading.{reading, reading_lamport}
use Rattle.paper.specs.Savings.{storing}
use Rattle.paper.specs.Terms.{Terms}
use Rattle.oboefinch.specs.Packed.{read_fields, class_fields, write_fields, verdict_fields, chain_fields, mark_fields, saving_fields, fields}
use Rattle.oboefinch.proofs.Calls.{reading_small, reading_lamport_small, class_small, class_lamport_small, writing_small, comparing_small, chaining_small, marking_small, storing_small, ordering_small}
use Rattle.oboefinch.proofs.Small.{ReadBack, read_back}

pub record Unpacked : Type 0 where
  pub read : (b : List ℕ) (w : Work) → ReadBack (fields read_fields (reading b w).0)
  pub classed : (t : Terms) (list : List ℕ) (w : Work) (told : List ℕ) → ReadBack (fields class_fields (class t list w told).0.0)
  pub read_lamport : (b : List ℕ) (w : Work) (numbers : List ℕ) → ReadBack (fields read_fields (reading_lamport b w numbers).0.0)
  pub classed_lamport :
      (t : Terms) (list : List ℕ) (w : Work) (told numbers : List ℕ) → ReadBack (fields class_fields (class_lamport t list w told numbers).0.0)
  pub written : (t : Terms) (list : List ℕ) (w : Work) (out : List ℕ) → ReadBack (fields write_fields (writing t list w out).0.0)
  pub compared : (t : Terms) (list : List ℕ) (w : Work) (a b : ℕ) → ReadBack (fields verdict_fields (comparing t list w a b).0)
  pub chained : (t : Terms) (list : List ℕ) (w : Work) (a b : ℕ) (out : List ℕ) → ReadBack (fields chain_fields (chaining t list w a b out).0.0)
  pub marked : (b lines : List ℕ) (w : Work) (out : List ℕ) → ReadBack (fields mark_fields (marking b lines w out).0.0)
  pub saved : (b : List ℕ) (w : Work) (out : List Float) → ReadBack (fields saving_fields (storing b w out).0.0)
  pub ordered : (v w : List ℕ) → ReadBack (fields verdict_fields (ordering v w))

pub unpacked : Unpacked
unpacked =
    record {
      read = λ b w. read_back _ (reading_small b w);
      classed = λ t list w told. read_back _ (class_small t list w told);
      read_lamport = λ b w numbers. read_back _ (reading_lamport_small b w numbers);
      classed_lamport = λ t list w told numbers. read_back _ (class_lamport_small t list w told numbers);
      written = λ t list w out. read_back _ (writing_small t list w out);
      compared = λ t list w a b. read_back _ (comparing_small t list w a b);
      chained = λ t list w a b out. read_back _ (chaining_small t list w a b out);
      marked = λ b lines w out. read_back _ (marking_small b w lines out);
      saved = λ b w out. read_back _ (storing_small b w out);
      ordered = λ v w. read_back _ (ordering_small v w);
    }
