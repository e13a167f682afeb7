-- What the line of an event says from its parts as the code puts them, and what it says that the slots fit.
use Prim.Native.Nat.{ℕ, ◌+◌, ◌*◌, ◌≤◌, ◌<◌}
use mathlib.Core.Path.{◌≡◌, refl}
use mathlib.Core.Bool.{Bool, true, false, cond}
use mathlib.Core.List.{List, [], ◌∷◌, ◌++◌, append_assoc, flat_map}
use native.Mathlib.Nat.{mul-suc, mul-le-mul_left}
use native.Mathlib.Omega.{arith}
use borrow.Author.Tests.{leb-true, le-leb, lt-ltb, le-ltb}
use lib.Dec.{eqb}
use lib.ListN.{length, get_or, take, drop}
use Rattle.clock.specs.Event.{kind_at, process_at, peer_at, message_at}
use Rattle.paper.specs.Bytes.{text}
use Rattle.paper.specs.Event.{Event, event_at, how_many}
use Rattle.paper.specs.Listing.{decimal, word, words, letter, event_words}
use Rattle.paper.proofs.Laws.Tests.{and_both}
use Rattle.lines.specs.Slots.{kind_letter, event_fields, slot_words, last_field, fitting}

letter_is : (e : Event) → kind_letter e.kind ∷ [] ≡ letter e
unfolding kind_letter text
letter_is e = go (eqb e.kind 0) (eqb e.kind 1)
  where
    go : (a b : Bool) → ◌≡◌ {A = List ℕ} (cond a 73 (cond b 83 82) ∷ []) (cond a (73 ∷ []) (cond b (83 ∷ []) (82 ∷ [])))
    go true b = refl
    go false true = refl
    go false false = refl

pub fields_are :
    (list : List ℕ) (i : ℕ) {kind process peer message : ℕ}
    → kind ≡ kind_at list i → process ≡ process_at list i → peer ≡ peer_at list i → message ≡ message_at list i
    → decimal i ++ text " " ++ (kind_letter kind ∷ []) ++ word process ++ word peer ++ word message ≡ event_fields i (event_at list (8 * i))
unfolding event_fields event_at
fields_are list i k p q m = rw (k, p, q, m, letter_is (event_at list (8 * i)))

pub words_are :
    (n : ℕ) (list clocks masks : List ℕ) (i a : ℕ) {mask many : ℕ} → mask ≡ get_or masks a 0 → many ≡ n
    → event_fields i (event_at list (8 * i)) ++ (word mask ++ words (take many (drop (n * a) clocks))) ≡ slot_words n list clocks masks i a
unfolding event_fields slot_words event_words words flat_map
words_are n list clocks masks i a e f = rw (e, f) (simp append_assoc)

-- The last field, where number a is lent and where it is not.
pub number_there : (numbers : List ℕ) (a : ℕ) {x : ℕ} → a < length numbers → x ≡ get_or numbers a 0 → word x ≡ last_field numbers a
unfolding last_field
number_there numbers a h e = rw (lt-ltb a (length numbers) h, e)

pub number_none : (numbers : List ℕ) (a : ℕ) → length numbers ≤ a → [] ≡ last_field numbers a
unfolding last_field
number_none numbers a h = rw (le-ltb a (length numbers) h)

-- The slots of clock a end before those of clock m begin.
pub slots_end : (n a m : ℕ) → a < m → n * a + n ≤ n * m
slots_end n a m h = rw (← mul-suc) (mul-le-mul_left n h)

pub record Fitting (n : ℕ) (list clocks masks : List ℕ) : Type 0 where
  pub few : n ≤ 32
  pub short : length list ≤ 4096
  pub clocked : n * how_many list ≤ length clocks
  pub masked : how_many list ≤ length masks

pub fits : (n : ℕ) (list clocks masks : List ℕ) → fitting n list clocks masks ≡ true → Fitting n list clocks masks
unfolding fitting
fits n list clocks masks h =
    let x = and_both _ _ h in
    let y = and_both _ _ x.0 in
    let z = and_both _ _ y.0 in
    record { few = leb-true _ _ z.0; short = leb-true _ _ z.1; clocked = leb-true _ _ y.1; masked = leb-true _ _ x.1 }

pub fitted : {n : ℕ} {list clocks masks : List ℕ} → Fitting n list clocks masks → fitting n list clocks masks ≡ true
unfolding fitting
fitted f = simp (le-leb _ _ f.few, le-leb _ _ f.short, le-leb _ _ f.clocked, le-leb _ _ f.masked)

-- What is read of the slots as number a.
pub record Row (n : ℕ) (clocks masks : List ℕ) (a : ℕ) : Type 0 where
  pub few : n ≤ 32
  pub small : n * a ≤ 16384
  pub clock : n * a + n ≤ length clocks
  pub mask : a < length masks

pub row : (n a : ℕ) (list clocks masks : List ℕ) → fitting n list clocks masks ≡ true → a < how_many list → Row n clocks masks a
row n a list clocks masks h l =
    let f = fits n list clocks masks h in
    let low : a ≤ 512 = omega (arith, f.short) in
    record {
      few = f.few;
      small = omega (arith, f.few, mul-le-mul_left n low);
      clock = omega (arith, f.clocked, slots_end n a (how_many list) l);
      mask = omega (arith, f.masked);
    }
