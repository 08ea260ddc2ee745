use Rattle.std.proofs.Common.{◌≡◌, ℕ, zero, suc, ◌+◌, ◌-◌, ◌<◌, List, [], ◌∷◌, ◌++◌, refl, ap, ap₂, sym, ◌∙◌, subst, inl, inr, ◌⊎◌, length, take, drop, append_assoc, arith}
use Rattle.std.specs.Prelude.{◌≢◌, Bool, true, false, Contains, Option, Some, None, codes, slice_get}
use Rattle.std.specs.Fmt.{decimal}
use Rattle.std.proofs.lemmas.Bool.{cases_lt, cases_eq, cases_order}
use Rattle.std.proofs.lemmas.Option.{get_or_from_slice_get}
use Rattle.std.proofs.lemmas.List.Elements.{All-append, All-cons, All-head, All-nil, All-tail}
use Rattle.std.proofs.lemmas.List.Folds.{concat-append}
use Rattle.design_meaning.specs.Meaning.{Broken, Valuation, asserts, is_enabled, says}
use Rattle.design_meaning.specs.Runs.{CycleOf, no_cycle, shown_of, valuation_of}
use Rattle.design_core.specs.Shape.{CellOf, DesignOf, WireOf}
use Rattle.sby_bits.specs.Rows.{Row}
use Rattle.sby_lines.specs.Broken.{AreLinesOf, Breaks, HasBrokenLines, IsBrokenCell, IsFirstBroken, IsLine, broken_line, last_of}
use Rattle.sby_lines.specs.Texts.{broken_text}
use Rattle.design_trace.specs.Trace.{cycle_line, cycle_text, cycles_from, trace, value_text, wire_line, wire_lines}

-- ---- the lines of a text

-- some lists are the lines of a text
abbrev pub Cut : List ℕ → Type 0
Cut text = (lines : List (List ℕ)) × AreLinesOf text lines

contains_tail : (b : ℕ) (text : List ℕ) → b ≢ 10 → Contains (b ∷ text) 10 → Contains text 10
contains_tail b text apart (zero, lt, is) = absurd (apart is)
contains_tail b text apart (suc k, lt, is) = (k, omega (arith, lt), is)

longer_line : (b : ℕ) (line : List ℕ) → b ≢ 10 → IsLine line → IsLine (b ∷ line)
longer_line b line apart is = (b ∷ is.0, ap (λ t. b ∷ t) is.1, λ h. is.2 (contains_tail b is.0 apart h))

feed_is_line : IsLine (10 ∷ [])
feed_is_line = ([], refl, λ h. omega (arith, h.1))

cut_longer : (b : ℕ) (text : List ℕ) (lines : List (List ℕ)) → b ≢ 10 → text ≢ [] → AreLinesOf text lines → Cut (b ∷ text)
cut_longer b text [] apart some is = absurd (some (sym is.0))
cut_longer b text (line ∷ lines) apart some is =
    ((b ∷ line) ∷ lines, (ap (λ t. b ∷ t) is.0, All-cons IsLine (b ∷ line) lines (longer_line b line apart (All-head IsLine line lines is.1)) (All-tail IsLine line lines is.1)))

not_empty : (front : List ℕ) → front ++ 10 ∷ [] ≢ []
not_empty [] e = cc
not_empty (b ∷ front) e = cc

-- a text that ends with a line feed has lines
cut_fed : (front : List ℕ) → Cut (front ++ 10 ∷ [])
cut_fed [] = ((10 ∷ []) ∷ [], (refl, All-cons IsLine (10 ∷ []) [] feed_is_line (All-nil IsLine)))
cut_fed (b ∷ front) = let rest = cut_fed front in elim (cases_eq b 10) [
  | inl e ↦ ((10 ∷ []) ∷ rest.0, (rw e (ap (λ t. 10 ∷ t) rest.1.0), All-cons IsLine (10 ∷ []) rest.0 feed_is_line rest.1.1))
  | inr apart ↦ cut_longer b (front ++ 10 ∷ []) rest.0 apart (not_empty front) rest.1
]

-- the lines of two texts, one after the other
pub lines_both : (a b : List ℕ) (x y : List (List ℕ)) → AreLinesOf a x → AreLinesOf b y → AreLinesOf (a ++ b) (x ++ y)
lines_both a b x y p q = (concat-append x y ∙ ap₂ (λ (s t : List ℕ). s ++ t) p.0 q.0, All-append IsLine x y p.1 q.1)

cut_both : (a b : List ℕ) → Cut a → Cut b → Cut (a ++ b)
cut_both a b x y = (x.0 ++ y.0, lines_both a b x.0 y.0 x.1 y.1)

cut_wire : (w : WireOf) (row : Row) → Cut (wire_line w row)
cut_wire w row = subst Cut (append_assoc w.name (32 ∷ value_text row) (10 ∷ [])) (cut_fed (w.name ++ 32 ∷ value_text row))

cut_wires : (ws : List WireOf) (row : Row) → Cut (wire_lines ws row)
cut_wires [] row = ([], (refl, All-nil IsLine))
cut_wires (w ∷ ws) row = cut_both _ _ (cut_wire w (take w.width row)) (cut_wires ws (drop w.width row))

cut_cycle : (k : ℕ) → Cut (cycle_line k)
cut_cycle k = subst Cut (append_assoc (codes "cycle ") (decimal k) (10 ∷ [])) (cut_fed (codes "cycle " ++ decimal k))

-- the lines of one cycle, and of the cycles from one on
pub cut_text : (d : DesignOf) (k : ℕ) (row : Row) → Cut (cycle_text d k row)
cut_text d k row = cut_both _ _ (cut_cycle k) (cut_wires d.wires row)

pub cut_cycles : (d : DesignOf) (k : ℕ) (rows : List Row) → Cut (cycles_from d k rows)
cut_cycles d k [] = ([], (refl, All-nil IsLine))
cut_cycles d k (row ∷ rows) = cut_both _ _ (cut_text d k row) (cut_cycles d (k + 1) rows)

-- the lines of a run's trace
pub trace_lines : (d : DesignOf) (run : List CycleOf) → Cut (trace d (shown_of run))
trace_lines d run = cut_cycles d 0 (shown_of run)

-- the text of a cycle isn't empty
pub cycle_begins : (d : DesignOf) (k : ℕ) (row : Row) (lines : List (List ℕ)) → AreLinesOf (cycle_text d k row) lines → 0 < length lines
cycle_begins d k row [] is = cc
cycle_begins d k row (line ∷ lines) is = omega arith

-- ---- the assertion that is broken

broken_by : (d : DesignOf) (v : Valuation) (a : ℕ) (cell : Option CellOf) → slice_get (asserts d) a ≡ cell → Broken d v a ⊎ (Broken d v a → ⊥)
broken_by d v a None is = inr (λ h. let e : None ≡ Some h.0 = sym is ∙ h.1 in cc)
broken_by d v a (Some c) is = go (is_enabled v c) (says v c) refl refl
  where
    same : (h : Broken d v a) → h.0 ≡ c
    same h = let e : Some h.0 ≡ Some c = sym h.1 ∙ is in cc

    go : (x y : Bool) → is_enabled v c ≡ x → says v c ≡ y → Broken d v a ⊎ (Broken d v a → ⊥)
    go true false p q = inl (c, is, p, q)
    go false y p q = inr (λ h. let e : is_enabled v c ≡ true = subst (λ x. is_enabled v x ≡ true) (same h) h.2 in cc)
    go true true p q = inr (λ h. let e : says v c ≡ false = subst (λ x. says v x ≡ false) (same h) h.3 in cc)

broken_or_not : (d : DesignOf) (v : Valuation) (a : ℕ) → Broken d v a ⊎ (Broken d v a → ⊥)
broken_or_not d v a = broken_by d v a (slice_get (asserts d) a) refl

first_below : (d : DesignOf) (v : Valuation) (n : ℕ) → ((a : ℕ) × IsFirstBroken d v a) ⊎ ((k : ℕ) → k < n → Broken d v k → ⊥)
first_below d v zero = inr (λ k lt. absurd (omega (arith, lt)))
first_below d v (suc n) = elim (first_below d v n) [
  | inl first ↦ inl first
  | inr none ↦ elim (broken_or_not d v n) [
    | inl broken ↦ inl (n, (broken, none))
    | inr not ↦ inr (λ k lt h. elim (cases_lt k n) [
      | inl below ↦ none k below h
      | inr past ↦ let e : k ≡ n = omega (arith, lt, past) in not (subst (Broken d v) e h)
    ])
  ]
]

-- where an assertion is broken, there is a first one
pub first_exists : (d : DesignOf) (v : Valuation) (a : ℕ) → Broken d v a → (first : ℕ) × IsFirstBroken d v first
first_exists d v a broken = elim (first_below d v (suc a)) [
  | inl first ↦ first
  | inr none ↦ absurd (none a (omega arith) broken)
]

first_is_one : (d : DesignOf) (v : Valuation) (a b : ℕ) → IsFirstBroken d v a → IsFirstBroken d v b → a ≡ b
first_is_one d v a b x y = elim (cases_order a b) [
  | inl same ↦ same
  | inr other ↦ elim other [
    | inl below ↦ absurd (y.1 a below x.0)
    | inr past ↦ absurd (x.1 b past y.0)
  ]
]

-- a run breaks one cell's assertion
pub one_cell : (d : DesignOf) (run : List CycleOf) (x y : CellOf) → IsBrokenCell d run x → IsBrokenCell d run y → x ≡ y
one_cell d run x y p q =
    let same : p.0 ≡ q.0 = first_is_one d (last_of d run) p.0 q.0 p.1 q.1 in
    let e : Some x ≡ Some y = sym p.2 ∙ ap (slice_get (asserts d)) same ∙ q.2 in cc

-- the text that names it
pub named_text : (d : DesignOf) (run : List CycleOf) (count number : ℕ) (name text : List ℕ) → count ≡ length run → IsFirstBroken d (last_of d run) number
    → ((c : CellOf) × (slice_get (asserts d) number ≡ Some c) × (name ≡ c.name)) → text ≡ broken_text name (count - 1) → (cell : CellOf) → IsBrokenCell d run cell → text ≡ broken_text cell.name (length run - 1)
named_text d run count number name text same first at is cell broken =
    let one : at.0 ≡ cell = one_cell d run at.0 cell (number, first, at.1) broken in
    is ∙ ap (λ (n : List ℕ). broken_text n (count - 1)) (at.2 ∙ ap (λ (c : CellOf). c.name) one) ∙ ap (λ n. broken_text cell.name (n - 1)) same

-- what the last cycle of a run has, as a run of its own
pub last_alone : (d : DesignOf) (run last : List CycleOf) (cycle : CycleOf) → slice_get run (length run - 1) ≡ Some cycle → last ≡ cycle ∷ [] → last_of d last ≡ last_of d run
last_alone d run last cycle at is = ap (last_of d) is ∙ ap (valuation_of d) (sym (get_or_from_slice_get run (length run - 1) cycle no_cycle at))

-- the cell of the first assertion that is broken
pub broken_cell : (d : DesignOf) (run : List CycleOf) (a : ℕ) → IsFirstBroken d (last_of d run) a → (cell : CellOf) × IsBrokenCell d run cell
broken_cell d run a first = (first.0.0, (a, first, first.0.1))

-- ---- the lines of a run

-- a run that breaks an assertion has lines
pub broken_lines : (d : DesignOf) (name : List ℕ) (run : List CycleOf) → Breaks d run → (lines : List (List ℕ)) × HasBrokenLines d name run lines
broken_lines d name run breaks =
    let first = first_exists d (last_of d run) breaks.broken.0 breaks.broken.1 in
    let cell = broken_cell d run first.0 first.1 in
    let traced = trace_lines d run in
    (broken_line name cell.0 run ∷ traced.0, record { cell = cell.0; traced = traced.0; is_broken = cell.1; is_trace = traced.1; all = refl })

-- ---- the cycles of a run

one_more : (cycles : List CycleOf) (n : ℕ) (cycle : CycleOf) → slice_get cycles n ≡ Some cycle → take (suc n) cycles ≡ take n cycles ++ cycle ∷ []
one_more [] n cycle is = cc
one_more (c ∷ cs) zero cycle is = let same : c ≡ cycle = cc in ap (λ x. x ∷ []) same
one_more (c ∷ cs) (suc n) cycle is = ap (λ t. c ∷ t) (one_more cs n cycle is)

-- one cycle more
pub take_next : (cycles : List CycleOf) (n : ℕ) (cycle : CycleOf) → slice_get cycles n ≡ Some cycle → take (n + 1) cycles ≡ take n cycles ++ cycle ∷ []
take_next cycles n cycle is = let next : n + 1 ≡ suc n = omega arith in ap (λ k. take k cycles) next ∙ one_more cycles n cycle is
