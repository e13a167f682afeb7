-- The paper's numbers and outcomes for each case of what is answered here.
use Rattle.std.specs.Prelude.{ℕ, Result, Ok, Err}
use Rattle.clock.specs.declared.Refusal as declared
use Rattle.clock.specs.declared.Terms as declared_terms
use Rattle.clock.specs.declared.Verdict.{Verdict}
use Rattle.clock.specs.declared.Verdict.TheVariants.{Before, After, Neither, Same}
use Rattle.paper.specs.Refusals.{Refusal, Outcome, refused, done}
use Rattle.paper.specs.Terms.{Terms}

abbrev pub stated : declared_terms.Terms → Terms
stated t = record { version = t.version; processes = t.processes; present = t.present }

abbrev pub refusal : declared.Refusal → Refusal
refusal r = record { number = r.number; position = r.position.0 }

-- The refusal of the event at a position.
abbrev pub of_event : ℕ → ℕ → Refusal
of_event number position = record { number = number; position = position }

-- 1 the first is below, 2 the second is below, 4 they are the same, 3 none of these.
abbrev pub number : Verdict → ℕ
number Before = 1
number After = 2
number Neither = 3
number Same = 4

-- What a call answers: its refusal, or its good case as the paper has it.
abbrev pub told : {A B : Type 0} → (A → B) → Result A declared.Refusal → Outcome B
told f (Ok a) = done (f a)
told f (Err r) = refused (refusal r)

abbrev pub ordered : Result Verdict declared.Refusal → Outcome ℕ
ordered r = told number r
