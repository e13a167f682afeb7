-- What a call on a list gives by equal terms.
use Prim.Native.Nat.{ℕ}
use mathlib.Core.Path.{◌≡◌, ap, ◌∙◌}
use mathlib.Core.List.{List}
use Rattle.course.specs.declared.Classed as declared
use Rattle.layout.specs.declared.Written as declared_written
use Rattle.paper.specs.Buffers.{Work}
use Rattle.paper.specs.Class as paper
use Rattle.paper.specs.Class.{Classed}
use Rattle.paper.specs.Questions.{Written, writing, comparing, chaining}
use Rattle.paper.specs.Refusals.{Outcome}
use Rattle.paper.specs.Terms.{Terms}

-- The paper's words for what class mode and writing answer.
abbrev pub class_as : declared.Classed → Classed
class_as c = record { accepted = c.accepted; carried = c.carried }

abbrev pub written_as : declared_written.Written → Written
written_as w = record { events = w.events; bytes = w.bytes }

module _ {t u : Terms} (same : t ≡ u) (list : List ℕ) (w : Work) where
  pub class : (answered : List ℕ) {x : (Outcome Classed × Work) × List ℕ} → x ≡ paper.class t list w answered → x ≡ paper.class u list w answered
  class answered e = e ∙ ap (λ (v : Terms). paper.class v list w answered) same

  pub class_lamport :
      (answered numbers : List ℕ) {x : (Outcome Classed × Work) × List ℕ × List ℕ} → x ≡ paper.class_lamport t list w answered numbers
      → x ≡ paper.class_lamport u list w answered numbers
  class_lamport answered numbers e = e ∙ ap (λ (v : Terms). paper.class_lamport v list w answered numbers) same

  pub write : (out : List ℕ) {x : (Outcome Written × Work) × List ℕ} → x ≡ writing t list w out → x ≡ writing u list w out
  write out e = e ∙ ap (λ (v : Terms). writing v list w out) same

  pub compare : (a b : ℕ) {x : Outcome ℕ × Work} → x ≡ comparing t list w a b → x ≡ comparing u list w a b
  compare a b e = e ∙ ap (λ (v : Terms). comparing v list w a b) same

  pub chain : (a b : ℕ) (out : List ℕ) {x : (Outcome ℕ × Work) × List ℕ} → x ≡ chaining t list w a b out → x ≡ chaining u list w a b out
  chain a b out e = e ∙ ap (λ (v : Terms). chaining v list w a b out) same
