-- The lines of a trace show what the wires have.
use Rattle.std.proofs.Common.{◌≡◌, ◌∙◌, ◌+◌, ◌<◌, ◌≤◌, ℕ, Bool, false, zero, suc, List, [], ◌∷◌, ◌++◌, Some, length, take, drop, refl, sym, ap, ap₂, subst, arith}
use Rattle.std.specs.Prelude.{slice_get, slice_index_or}
use Rattle.std.specs.List.{concat, flat_map, sum_by}
use Rattle.std.proofs.lemmas.List.{get_or-drop, get_or-take, length-drop, length-take}
use Rattle.std.proofs.lemmas.List.Elements.{All-head, All-tail}
use Rattle.std.proofs.lemmas.List.Sums.{sum_by-cons}
use Rattle.std.proofs.lemmas.Option.{slice_get_read}
use Rattle.sby_bits.specs.Rows.{Row}
use Rattle.design_core.specs.Places.{offset}
use Rattle.design_meaning.specs.Meaning.{Valuation}
use Rattle.design_meaning.specs.Runs.{CycleOf, IsCycleOf, IsRunOf, shown_of, valuation_of, valuations}
use Rattle.design_core.specs.Shape.{DesignOf, WireOf}
use Rattle.design_trace.specs.Changes.{change_line, change_lines, time_line, vcd, vcd_cycles_from, vcd_head}
use Rattle.design_trace.specs.Printed.{AreChangeLines, AreCycleLines, IsValue, Prints, PrintsChanges}
use Rattle.design_trace.specs.Trace.{cycle_line, cycles_from, trace, wire_line, wire_lines}
use Rattle.design_trace.proofs.Lines.{shown_length, width_of}

-- the line of a wire by its number and bits
abbrev LineOf : Type 0
LineOf = ℕ → WireOf → Row → List ℕ

-- the lines of the wires from wire n on, one by one
abbrev lines_each : LineOf → ℕ → List WireOf → Row → List (List ℕ)
lines_each f n [] row = []
lines_each f n (w ∷ ws) row = f n w (take w.width row) ∷ lines_each f (n + 1) ws (drop w.width row)

each_length : (f : LineOf) (n : ℕ) (ws : List WireOf) (row : Row) → length (lines_each f n ws row) ≡ length ws
each_length f n [] row = refl
each_length f n (w ∷ ws) row = ap suc (each_length f (n + 1) ws (drop w.width row))

abbrev text_line : LineOf
text_line n = wire_line

text_whole : (n : ℕ) (ws : List WireOf) (row : Row) → wire_lines ws row ≡ concat (lines_each text_line n ws row)
text_whole n [] row = refl
text_whole n (w ∷ ws) row = ap (λ t. wire_line w (take w.width row) ++ t) (text_whole (n + 1) ws (drop w.width row))

change_whole : (n : ℕ) (ws : List WireOf) (row : Row) → change_lines n ws row ≡ concat (lines_each change_line n ws row)
change_whole n [] row = refl
change_whole n (w ∷ ws) row = ap (λ t. change_line n w (take w.width row) ++ t) (change_whole (n + 1) ws (drop w.width row))

-- the wires from wire n on, of which the row has the bits after `at`, have the bits that the whole row has
record Cut (whole row : Row) (at : ℕ) : Type 0 where
  long : length whole ≡ at + length row
  same : (i : ℕ) (d : Bool) → slice_index_or row i d ≡ slice_index_or whole (at + i) d

cut_on : (whole row : Row) (at n : ℕ) → n ≤ length row → Cut whole row at → Cut whole (drop n row) (at + n)
cut_on whole row at n le cut = record {
  long = omega (arith, cut.long, length-drop n row, le);
  same = λ i d. get_or-drop n row i d ∙ cut.same (n + i) d ∙ ap (λ k. slice_index_or whole k d) (omega arith);
}

front_bit : (whole row : Row) (at n b : ℕ) → n ≤ length row → Cut whole row at → b < n → slice_get (take n row) b ≡ Some (slice_index_or whole (at + b) false)
front_bit whole row at n b le cut lt =
    slice_get_read (take n row) n b (slice_index_or whole (at + b) false) (omega (arith, length-take n row, le)) lt
    (sym (get_or-take n row b (slice_index_or whole (at + b) false) lt ∙ cut.same b (slice_index_or whole (at + b) false) ∙ default whole (at + b) (omega (arith, cut.long, le, lt))))
  where
    default : (xs : Row) (i : ℕ) → i < length xs → slice_index_or xs i (slice_index_or xs i false) ≡ slice_index_or xs i false
    default [] i lt = absurd (omega (arith, lt))
    default (x ∷ xs) zero lt = refl
    default (x ∷ xs) (suc i) lt = default xs i (omega (arith, lt))

-- the line of the i-th of the wires from wire n on
each_shows : (f : LineOf) (whole row : Row) (at n : ℕ) (ws : List WireOf) (i : ℕ) (w : WireOf) → Cut whole row at → sum_by width_of ws ≤ length row → slice_get ws i ≡ Some w
    → (line : List ℕ) × (slice_get (lines_each f n ws row) i ≡ Some line) × ((bits : Row) × ((length bits ≡ w.width)
    × ((b : ℕ) → b < w.width → slice_get bits b ≡ Some (slice_index_or whole (at + sum_by width_of (take i ws) + b) false))) × (line ≡ f (n + i) w bits))
each_shows f whole row at n [] i w cut le is = cc
each_shows f whole row at n (v ∷ ws) zero w cut le is =
    let same : v ≡ w = cc in
    let fits : w.width ≤ length row = omega (arith, le, sum_by-cons width_of v ws, ap width_of same) in (
      f n w (take w.width row),
      ap (λ u. Some (f n u (take u.width row))) same,
      (
        take w.width row,
        (
          omega (arith, length-take w.width row, fits),
          λ b lt. front_bit whole row at w.width b fits cut lt ∙ ap (λ k. Some (slice_index_or whole k false)) (omega arith),
        ),
        ap (λ m. f m w (take w.width row)) (omega arith),
      ),
    )
each_shows f whole row at n (v ∷ ws) (suc i) w cut le is =
    let fits : v.width ≤ length row = omega (arith, le, sum_by-cons width_of v ws) in
    let rest = each_shows f whole (drop v.width row) (at + v.width) (n + 1) ws i w (cut_on whole row at v.width fits cut)
    (omega (arith, le, sum_by-cons width_of v ws, length-drop v.width row)) is in (
      rest.0,
      rest.1,
      (
        rest.2.0,
        (rest.2.1.0, λ b lt. rest.2.1.1 b lt ∙ ap (λ k. Some (slice_index_or whole k false)) (omega (arith, sum_by-cons width_of v (take i ws)))),
        rest.2.2 ∙ ap (λ m. f m w rest.2.0) (omega arith),
      ),
    )

-- the line of wire w in a cycle
wire_shows : (f : LineOf) (d : DesignOf) (c : CycleOf) → IsCycleOf d c → (w : ℕ) (wire : WireOf) → slice_get d.wires w ≡ Some wire
    → (line : List ℕ) × (slice_get (lines_each f 0 d.wires c.wires) w ≡ Some line) × ((bits : Row) × IsValue (valuation_of d c) w wire bits × (line ≡ f w wire bits))
wire_shows f d c fits w wire is =
    let all : Cut c.wires c.wires 0 = record { long = omega arith; same = λ i b. ap (λ n. slice_index_or c.wires n b) (omega arith) } in
    let one = each_shows f c.wires c.wires 0 0 d.wires w wire all (omega (arith, fits.wires)) is in
    let at : (b : ℕ) → 0 + sum_by width_of (take w d.wires) + b ≡ offset d w + b = λ b. omega arith in (
      one.0,
      one.1,
      (
        one.2.0,
        (one.2.1.0, λ b lt. one.2.1.1 b lt ∙ ap (λ n. Some (slice_index_or c.wires n false)) (at b)),
        one.2.2 ∙ ap (λ m. f m wire one.2.0) (omega arith),
      ),
    )

-- the lines of a cycle, in a text and in a trace file
abbrev cycle_lines : DesignOf → ℕ → CycleOf → List (List ℕ)
cycle_lines d k c = cycle_line k ∷ lines_each text_line 0 d.wires c.wires

abbrev vcd_lines : DesignOf → ℕ → CycleOf → List (List ℕ)
vcd_lines d k c = time_line k ∷ lines_each change_line 0 d.wires c.wires

cycle_shows : (d : DesignOf) (k : ℕ) (c : CycleOf) → IsCycleOf d c → AreCycleLines d k (valuation_of d c) (cycle_lines d k c)
cycle_shows d k c fits = record { count = ap suc (each_length text_line 0 d.wires c.wires); head = refl; wires = wire_shows text_line d c fits }

changes_show : (d : DesignOf) (k : ℕ) (c : CycleOf) → IsCycleOf d c → AreChangeLines d k (valuation_of d c) (vcd_lines d k c)
changes_show d k c fits = record { count = ap suc (each_length change_line 0 d.wires c.wires); head = refl; wires = wire_shows change_line d c fits }

-- the lines of the cycles from cycle k on
abbrev lines_from : (ℕ → CycleOf → List (List ℕ)) → ℕ → List CycleOf → List (List (List ℕ))
lines_from g k [] = []
lines_from g k (c ∷ cs) = g k c ∷ lines_from g (suc k) cs

from_length : (g : ℕ → CycleOf → List (List ℕ)) (k : ℕ) (cs : List CycleOf) → length (lines_from g k cs) ≡ length cs
from_length g k [] = refl
from_length g k (c ∷ cs) = ap suc (from_length g (suc k) cs)

text_from : (d : DesignOf) (k n : ℕ) (cs : List CycleOf) → k ≡ n → cycles_from d k (shown_of cs) ≡ flat_map concat (lines_from (cycle_lines d) n cs)
text_from d k n [] e = refl
text_from d k n (c ∷ cs) e =
    ap₂ (λ (s t : List ℕ). s ++ t) (ap₂ (λ (s t : List ℕ). s ++ t) (ap cycle_line e) (text_whole 0 d.wires c.wires)) (text_from d (k + 1) (suc n) cs (omega (arith, e)))

vcd_from : (d : DesignOf) (k n : ℕ) (cs : List CycleOf) → k ≡ n → vcd_cycles_from d k (shown_of cs) ≡ flat_map concat (lines_from (vcd_lines d) n cs)
vcd_from d k n [] e = refl
vcd_from d k n (c ∷ cs) e =
    ap₂ (λ (s t : List ℕ). s ++ t) (ap₂ (λ (s t : List ℕ). s ++ t) (ap time_line e) (change_whole 0 d.wires c.wires)) (vcd_from d (k + 1) (suc n) cs (omega (arith, e)))

-- what holds of each cycle's lines holds of a run's lines, cycle by cycle
from_shows : (d : DesignOf) (g : ℕ → CycleOf → List (List ℕ)) (P : ℕ → Valuation → List (List ℕ) → Type 0) → ((k : ℕ) (c : CycleOf) → IsCycleOf d c → P k (valuation_of d c) (g k c))
    → (k i : ℕ) (cs : List CycleOf) (lines : List (List ℕ)) → IsRunOf d cs → slice_get (lines_from g k cs) i ≡ Some lines → P (k + i) (valuations d cs i) lines
from_shows d g P each k i [] lines fits is = cc
from_shows d g P each k zero (c ∷ cs) lines fits is =
    let same : g k c ≡ lines = cc in
    let number : k ≡ k + 0 = omega arith in
    subst (λ n. P n (valuation_of d c) lines) number (subst (λ (ls : List (List ℕ)). P k (valuation_of d c) ls) same (each k c (All-head (IsCycleOf d) c cs fits)))
from_shows d g P each k (suc i) (c ∷ cs) lines fits is =
    let number : suc k + i ≡ k + suc i = omega arith in
    subst (λ n. P n (valuations d cs i) lines) number (from_shows d g P each (suc k) i cs lines (All-tail (IsCycleOf d) c cs fits) is)

pub run_prints : (d : DesignOf) (run : List CycleOf) → IsRunOf d run → Prints d (length run) (valuations d run) (trace d (shown_of run))
run_prints d run fits = record {
  cycles = lines_from (cycle_lines d) 0 run;
  count = from_length (cycle_lines d) 0 run;
  lines = λ k lines is.
      let number : 0 + k ≡ k = omega arith in
      subst (λ n. AreCycleLines d n (valuations d run k) lines) number (from_shows d (cycle_lines d) (AreCycleLines d) (cycle_shows d) 0 k run lines fits is);
  whole = text_from d 0 0 run refl;
}

pub run_changes : (d : DesignOf) (run : List CycleOf) → IsRunOf d run → PrintsChanges d (length run) (valuations d run) (vcd d (shown_of run))
run_changes d run fits = record {
  cycles = lines_from (vcd_lines d) 0 run;
  count = from_length (vcd_lines d) 0 run;
  lines = λ k lines is.
      let number : 0 + k ≡ k = omega arith in
      subst (λ n. AreChangeLines d n (valuations d run k) lines) number (from_shows d (vcd_lines d) (AreChangeLines d) (changes_show d) 0 k run lines fits is);
  whole = ap₂ (λ (s : List ℕ) n. vcd_head d ++ (s ++ time_line n)) (vcd_from d 0 0 run refl) (shown_length run);
}
