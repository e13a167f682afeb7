-- Programs read one byte more than the longest sheet or list: one that is longer is refused by its first bytes, whatever follows them.
use Rattle.std.specs.Prelude.{◌≡◌, ℕ, suc, ◌<◌, true, false, not, ◌%◌, List, eqb, length, take}
use Rattle.std.proofs.Common.{refl, sym, ap, ◌∙◌, arith, inl, inr, length-take, take_all}
use Rattle.std.proofs.Math.Bool.{or-true}
use Rattle.std.proofs.lemmas.Bool.{cases_lt, lt-ltb}
use borrow.Author.Tests.{le-ltb}
use Rattle.paper.specs.Class.{list_checks}
use Rattle.paper.specs.Listing.{refusal_line}
use Rattle.paper.specs.Reading.{header_checks}
use Rattle.paper.specs.Refusals.{first, of_call, Checks, refusal_of, refused, outcome}
use Rattle.paper.specs.Terms.{Terms, wrong_version, wrong_count}
use Rattle.desk.specs.Answers.{text_of}

-- A sheet of more than 40,960 bytes is refused with 1.
pub sheet_longer : (b : List ℕ) (k : ℕ) → 40960 < length b → header_checks b k ≡ 1
unfolding header_checks
sheet_longer b k long = rw (le-ltb (length b) 24 (omega arith), lt-ltb 40960 (length b) long) refl

-- A list of more than 4,096 bytes is refused with 3 or 4, or else with 8.
abbrev pub list_refused : Terms → ℕ
list_refused t = first (wrong_version t) 3 (first (wrong_count t.processes) 4 8)

pub list_longer : (t : Terms) (list : List ℕ) (k : ℕ) → 4096 < length list → list_checks t list k ≡ list_refused t
list_longer t list k long =
    rw (lt-ltb 4096 (length list) long, or-true (not (eqb (length list % 8) 0))) refl

pub list_refused_some : (t : Terms) → eqb (list_refused t) 0 ≡ false
list_refused_some t =
    elim (wrong_version t) as (λ x. eqb (first x 3 (first (wrong_count t.processes) 4 8)) 0 ≡ false) [
      | true ↦ refl
      | false ↦ elim (wrong_count t.processes) as (λ y. eqb (first y 4 8) 0 ≡ false) [ true ↦ refl | false ↦ refl ]
    ]

-- What a call gives whose early checks refuse; and what is printed of it.
pub call_refused : {A : Type 0} (a : A) (c : Checks) (r : ℕ) → c.early ≡ r → eqb r 0 ≡ false → outcome (refusal_of c) a ≡ refused (of_call r)
call_refused a c r early some = rw (early, some, some) refl

pub only_refused : {A : Type 0} (f : A → List ℕ) (a : A) (c : Checks) (r : ℕ)
    → c.early ≡ r → eqb r 0 ≡ false → text_of f (outcome (refusal_of c) a) ≡ refusal_line (of_call r)
only_refused f a c r early some = ap (text_of f) (call_refused a c r early some)

-- Where f is the same for all that is longer than n, the first n + 1 bytes have the f of the whole.
pub cut_short : {A : Type 0} (f : List ℕ → A) (n : ℕ) (t : A)
    → ((b : List ℕ) → n < length b → f b ≡ t) → (b : List ℕ) → f (take (suc n) b) ≡ f b
cut_short f n t same b = elim (cases_lt (suc n) (length b)) [
  | inl long ↦ same (take (suc n) b) (omega (arith, length-take (suc n) b)) ∙ sym (same b (omega arith))
  | inr fits ↦ ap f (take_all (suc n) b fits)
]
