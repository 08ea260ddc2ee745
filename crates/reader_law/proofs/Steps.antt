-- Steps of the reader, the numbers of free bits, and wires by their names.
use Rattle.std.proofs.Common.{◌≡◌, ◌≢◌, Bool, ℕ, zero, suc, ◌+◌, ◌<◌, ◌≤◌, true, false, not, List, [], ◌∷◌, ◌++◌, length, Some, refl, sym, ap, ◌∙◌, subst, arith, bytes_eq}
use Rattle.std.specs.Prelude.{codes, nat_lt, reverse, slice_get, All}
use Rattle.std.specs.List.{AllByRecursion, IsDistinct, prefix_len, range_with_len, sum_by}
use Rattle.std.proofs.lemmas.Bool.Decides.{nat_tests}
use Rattle.std.proofs.lemmas.Slice.Eq.{bytes_eq-Decides}
use Rattle.std.proofs.lemmas.Option.{slice_get_within, get_or_from_slice_get}
use Rattle.std.proofs.lemmas.List.Sums.{sum_by-cons}
use Rattle.rtlil_constant.specs.Constants.{Word, constant_of}
use Rattle.design_core.specs.Shape.{WireOf, wire_bits}
use Rattle.design_signals.specs.Parts.{wire_row}
use Rattle.design_signals.specs.declared.sig_bit.SigBit.{SigBit}
use Rattle.design_reader.specs.Parts.{DraftOf}
use Rattle.design_reader.specs.Grammar.{Outcome, ◌⊳◌, goes_on, most_bits, wire_names, name_place, is_ignored_target, constant_part, signal_word, signal_name, part_word, part_name, word_step, name_step, step, steps}
use Rattle.reader_law.specs.Printed.{IsIdentifier}
use Rattle.design_reader.specs.declared.spot.Target.{Target}
use Rattle.design_reader.specs.declared.spot.Target.TheVariants.{Left, Right}
use Rattle.design_reader.specs.declared.spot.Spot.{Spot}
use Rattle.design_reader.specs.declared.spot.Spot.TheVariants.{Signal, Part}
use Rattle.reader_law.proofs.PrintedWords.{IsPlain}

abbrev pub Bits : Type 0
Bits = List SigBit

-- ---- numbers of free bits

-- the draft with this many free bits
abbrev pub free_at : DraftOf → ℕ → DraftOf
free_at d m = record d { design = record d.design { free = m } }

-- the numbers from n up to m
abbrev pub Next : ℕ → List ℕ → ℕ → Type 0
Next n [] m = n ≡ m
Next n (k ∷ ks) m = (k ≡ n) × Next (n + 1) ks m

pub next_rises : (n m : ℕ) (ks : List ℕ) → Next n ks m → n ≤ m
next_rises n m [] h = omega arith
next_rises n m (k ∷ ks) h = omega (arith, next_rises (n + 1) m ks h.1)

pub next_split : (n m : ℕ) (xs ys : List ℕ) → Next n (xs ++ ys) m → (k : ℕ) × Next n xs k × Next k ys m
next_split n m [] ys h = (n, refl, h)
next_split n m (x ∷ xs) ys h = let r = next_split (n + 1) m xs ys h.1 in (r.0, (h.0, r.1), r.2)

pub next_range : (n len m : ℕ) → n + len ≡ m → Next n (range_with_len n len) m
next_range n zero m h = omega arith
next_range n (suc len) m h = (refl, next_range (n + 1) len m (omega arith))

-- ---- what holds of each element

pub all_parts : {X : Type 0} (P : X → Type 0) (xs ys : List X) → AllByRecursion P (xs ++ ys) → AllByRecursion P xs × AllByRecursion P ys
all_parts P [] ys h = (tt, h)
all_parts P (x ∷ xs) ys h = let r = all_parts P xs ys h.1 in ((h.0, r.0), r.1)

pub all_join : {X : Type 0} (P : X → Type 0) (xs ys : List X) → AllByRecursion P xs → AllByRecursion P ys → AllByRecursion P (xs ++ ys)
all_join P [] ys h k = k
all_join P (x ∷ xs) ys h k = (h.0, all_join P xs ys h.1 k)

-- ---- steps

pub step_named : (d : DraftOf) (s : Spot) (w : Word) → IsIdentifier w → step d s w ≡ name_step d s w
step_named d s w i = let a = i.begins in let b = i.utf8 in rw (a, b) refl

-- one word
pub one : (d e : DraftOf) (s q : Spot) (w : Word) (ws : List Word) → step d s w ≡ goes_on e q → steps d s (w ∷ ws) ≡ steps e q ws
one d e s q w ws h = rw h refl

-- ---- wires by their names

-- each wire has an identifier of its own, and the widths are within the limit
pub record AreNamed (wires : List WireOf) : Type 0 where
  pub names : (w : ℕ) (x : WireOf) → slice_get wires w ≡ Some x → IsIdentifier x.name
  pub distinct : IsDistinct bytes_eq (wire_names wires)
  pub widths : (w : ℕ) (x : WireOf) → slice_get wires w ≡ Some x → x.width ≤ most_bits

all_at : {X : Type 0} (P : X → Type 0) (xs : List X) (i : ℕ) (x : X) → AllByRecursion P xs → slice_get xs i ≡ Some x → P x
all_at P [] i x h e = absurd cc
all_at P (y ∷ ys) zero x h e = let same : y ≡ x = cc in subst P same h.0
all_at P (y ∷ ys) (suc i) x h e = all_at P ys i x h.1 e

bytes_same : (w : Word) → bytes_eq w w ≡ true
bytes_same w = (bytes_eq-Decides w w).1 refl

pub bytes_apart : (w name : Word) → w ≢ name → bytes_eq w name ≡ false
bytes_apart w name h =
    elim (bytes_eq w name) as (λ (v : Bool). bytes_eq w name ≡ v → v ≡ false) [
      | true ↦ λ e. absurd (h ((bytes_eq-Decides w name).0 e))
      | false ↦ λ e. refl
    ] refl

prefix_at : (names : List Word) (i : ℕ) (name : Word) → slice_get names i ≡ Some name → IsDistinct bytes_eq names → prefix_len (λ n. not (bytes_eq n name)) names ≡ i
unfolding IsDistinct
prefix_at [] i name h u = absurd cc
prefix_at (n ∷ names) zero name h u = let same : n ≡ name = cc in rw (same, bytes_same name) refl
prefix_at (n ∷ names) (suc i) name h u =
    let other : bytes_eq n name ≡ false = all_at (λ m. bytes_eq n m ≡ false) names i name u.0 h in
    let r = prefix_at names i name h u.1 in
    rw (other, r) (omega arith)

place_at : (names : List Word) (i : ℕ) (name : Word) → slice_get names i ≡ Some name → IsDistinct bytes_eq names → name_place names name ≡ Some i
place_at names i name h u =
    let p = prefix_at names i name h u in
    let inside : i < length names = slice_get_within names i name h in
    let t : nat_lt i (length names) ≡ true = grind (arith, nat_tests) in
    rw (p, t) refl

name_of : (wires : List WireOf) (w : ℕ) (x : WireOf) → slice_get wires w ≡ Some x → slice_get (wire_names wires) w ≡ Some x.name
name_of [] w x h = absurd cc
name_of (y ∷ wires) zero x h = let same : y ≡ x = cc in rw same refl
name_of (y ∷ wires) (suc w) x h = name_of wires w x h

at_place : {X : Type 0} (P : X → Type 0) (xs : List X) (i : ℕ) (x : X) → All P xs → slice_get xs i ≡ Some x → P x
at_place P xs i x all h = subst P (get_or_from_slice_get xs i x x h) (all i x (slice_get_within xs i x h))

width_below : (ws : List WireOf) (i : ℕ) (x : WireOf) → slice_get ws i ≡ Some x → x.width ≤ sum_by (λ w. w.width) ws
width_below [] i x h = absurd cc
width_below (w ∷ ws) zero x h = let same : w ≡ x = cc in omega (arith, ap (λ (y : WireOf). y.width) same, sum_by-cons (λ (y : WireOf). y.width) w ws)
width_below (w ∷ ws) (suc i) x h = omega (arith, width_below ws i x h, sum_by-cons (λ (y : WireOf). y.width) w ws)

pub are_named : (wires : List WireOf) → All (λ w. IsIdentifier w.name) wires → IsDistinct bytes_eq (wire_names wires) → sum_by (λ w. w.width) wires ≤ most_bits → AreNamed wires
are_named wires names distinct few = record {
  names = λ w x at. at_place (λ (y : WireOf). IsIdentifier y.name) wires w x names at;
  distinct = distinct;
  widths = λ w x at. omega (arith, few, width_below wires w x at);
}

pub named_step : (d : DraftOf) (t : Target) (rows : List Bits) (w : ℕ) (x : WireOf) → AreNamed d.design.wires → slice_get d.design.wires w ≡ Some x → step d (Signal t rows) x.name ≡ goes_on d (Part t (wire_row w x.width ∷ rows))
unfolding name_step signal_name
named_step d t rows w x n at =
    let p = place_at (wire_names d.design.wires) w x.name (name_of d.design.wires w x at) n.distinct in
    step_named d (Signal t rows) x.name (n.names w x at) ∙ rw (p, at) refl

-- ---- a constant

pub constant_step : (d : DraftOf) (t : Target) (rows : List Bits) (digits : List ℕ) (w : Word) → IsPlain w → constant_of 1 w ≡ Some digits → step d (Signal t rows) w ≡ constant_part d t rows digits
unfolding word_step signal_word
constant_step d t rows digits w p e = let a = p.name in let b = p.opening in rw (a, b, e) refl

-- ---- a signal

-- what is true where a signal is read, whose free bits are numbered up to m; in an ignored cell none is numbered
pub record IsHere (d : DraftOf) (t : Target) (m : ℕ) : Type 0 where
  pub named : AreNamed d.design.wires
  pub kept : is_ignored_target t ≡ true → d.design.free ≡ m
  pub room : wire_bits d.design + m ≤ most_bits

-- ---- the next part goes below

pub joined_name : (d : DraftOf) (t : Target) (row above : Bits) (rows : List Bits) (w : Word) → IsIdentifier w → step d (Part t (row ∷ above ∷ rows)) w ≡ step d (Signal t ((above ++ row) ∷ rows)) w
unfolding name_step part_name
joined_name d t row above rows w i = step_named d (Part t (row ∷ above ∷ rows)) w i ∙ sym (step_named d (Signal t ((above ++ row) ∷ rows)) w i)

pub joined_constant : (d : DraftOf) (t : Target) (row above : Bits) (rows : List Bits) (w : Word) → IsPlain w → step d (Part t (row ∷ above ∷ rows)) w ≡ step d (Signal t ((above ++ row) ∷ rows)) w
unfolding word_step part_word
joined_constant d t row above rows w p = let a = p.name in let b = p.slice in let c = p.closing in rw (a, b, c) refl

-- ---- the right side of a connect

pub right_name : (d : DraftOf) (row : Bits) (w : Word) → IsIdentifier w → step d (Part Left (row ∷ [])) w ≡ step d (Signal (Right (reverse row)) []) w
unfolding name_step part_name
right_name d row w i = step_named d (Part Left (row ∷ [])) w i ∙ sym (step_named d (Signal (Right (reverse row)) []) w i)

pub right_constant : (d : DraftOf) (row : Bits) (w : Word) → IsPlain w → step d (Part Left (row ∷ [])) w ≡ step d (Signal (Right (reverse row)) []) w
unfolding word_step part_word
right_constant d row w p = let a = p.name in let b = p.slice in rw (a, b) refl

pub right_opened : (d : DraftOf) (row : Bits) → step d (Part Left (row ∷ [])) (codes "{") ≡ step d (Signal (Right (reverse row)) []) (codes "{")
unfolding word_step part_word
right_opened d row = refl

-- ---- the same words from another spot

pub same_step : (d e : DraftOf) (s q : Spot) (w : Word) (ws : List Word) → step d s w ≡ step e q w → steps d s (w ∷ ws) ≡ steps e q (w ∷ ws)
same_step d e s q w ws h = ap (λ (o : Outcome). o ⊳ λ x. steps x.0 x.1 ws) h
