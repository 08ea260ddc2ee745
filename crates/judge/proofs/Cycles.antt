-- Cycles of a design by their rows: those that are alike are the same, and a model's row has those of its design.
use Rattle.std.proofs.Common.{◌≡◌, ℕ, suc, ◌+◌, ◌-◌, ◌<◌, ◌≤◌, Bool, false, List, [], ◌∷◌, ◌++◌, length, map, take, drop, Some, inl, inr, refl, ap, sym, subst, ◌∙◌, arith, get_or}
use Rattle.std.specs.Prelude.{slice_get}
use Rattle.std.specs.List.{sum_by}
use Rattle.std.proofs.lemmas.Bool.{cases_lt}
use Rattle.std.proofs.lemmas.List.{get_or-drop, get_or-map, get_or-take, length-drop, length-take, take_more}
use Rattle.std.proofs.lemmas.List.Elements.{All-head, All-map, All-tail, All-weaker}
use Rattle.std.proofs.lemmas.List.Sums.{sum_by-cons}
use Rattle.sby_bits.specs.Rows.{Row}
use Rattle.design_core.proofs.Places.{place_of-wire, sum_by-within}
use Rattle.design_core.specs.Places.{offset, places}
use Rattle.design_core.specs.Shape.{CellOf, DesignOf, IsDeclared, WireOf, wire_bits}
use Rattle.design_meaning.specs.Meaning.{IsCell, Valuation, bit_in}
use Rattle.design_meaning.specs.Runs.{CycleOf, IsCycleOf, IsRunOf, kept_bits, kept_offset, kept_width, no_cycle, valuation_of, valuations}
use Rattle.design_signals.specs.declared.sig_bit.SigBit.{SigBit}
use Rattle.design_signals.specs.declared.sig_bit.SigBit.TheVariants.{Wire, Const, Free}
use Rattle.model_core.specs.Choices.{Agree}
use Rattle.model_core.specs.Meaning.{Cycle}
use Rattle.model_core.specs.Shape.{ModelOf}
use Rattle.model_play.specs.Playing.{cycle_of, cycles_of}
use Rattle.word_model.specs.Layout.{IsAlike, valued}
use Rattle.judge.specs.Rows.{AreRowsOf, cycle_in}

-- the part that has a place, and at which of the part's places
record IsInside {X : Type 0} (f : X → ℕ) (xs : List X) (p i k : ℕ) (x : X) : Type 0 where
  at : slice_get xs i ≡ Some x
  below : k < f x
  place : p ≡ sum_by f (take i xs) + k

inside : {X : Type 0} (f : X → ℕ) (xs : List X) (p : ℕ) → p < sum_by f xs → (i : ℕ) × (k : ℕ) × (x : X) × IsInside f xs p i k x
inside f [] p lt = absurd (omega (arith, lt))
inside {X = X} f (x ∷ xs) p lt =
    let whole : sum_by f (x ∷ xs) ≡ f x + sum_by f xs = sum_by-cons f x xs in
    elim (cases_lt p (f x)) as (λ _. (i : ℕ) × (k : ℕ) × (y : X) × IsInside f (x ∷ xs) p i k y) [
      | inl here ↦ (0, p, x, record { at = refl; below = here; place = omega arith })
      | inr past ↦
          let rest : p - f x < sum_by f xs = omega (arith, lt, whole) in
          let r = inside f xs (p - f x) rest in
          let more : sum_by f (take (suc r.0) (x ∷ xs)) ≡ f x + sum_by f (take r.0 xs) = sum_by-cons f x (take r.0 xs) in
          let place : p - f x ≡ sum_by f (take r.0 xs) + r.1 = r.3.place in
          (suc r.0, r.1, r.2, record { at = r.3.at; below = r.3.below; place = omega (arith, past, more, place) })
    ]

rows-same : (r s : Row) → length r ≡ length s → ((p : ℕ) → p < length r → get_or r p false ≡ get_or s p false) → r ≡ s
rows-same [] [] e h = refl
rows-same [] (y ∷ s) e h = absurd (omega (arith, e))
rows-same (x ∷ r) [] e h = absurd (omega (arith, e))
rows-same (x ∷ r) (y ∷ s) e h =
    let size : length r ≡ length s = omega (arith, e) in
    let first : x ≡ y = h 0 (omega arith) in
    ap (λ (b : Bool). b ∷ r) first ∙ ap (λ (z : Row). y ∷ z) (rows-same r s size (λ p lt. h (suc p) (omega (arith, lt))))

-- one more bit of a part of a row
pub part_more : (row bits new : Row) (first place : ℕ) (x : Bool) → first ≤ place → place < length row → bits ≡ take (place - first) (drop first row) → x ≡ get_or row place false → new ≡ bits ++ x ∷ []
    → new ≡ take (place + 1 - first) (drop first row)
part_more row bits new first place x from to h at more =
    let count : place + 1 - first ≡ (place - first) + 1 = omega (arith, from) in
    let inside : place - first < length (drop first row) = omega (arith, from, to, length-drop first row) in
    let here : first + (place - first) ≡ place = omega (arith, from) in
    let last : get_or (drop first row) (place - first) false ≡ x = get_or-drop first row (place - first) false ∙ (ap (λ (p : ℕ). get_or row p false) here ∙ sym at) in
    more ∙ (ap (λ (r : Row). r ++ x ∷ []) h
    ∙ (ap (λ (b : Bool). take (place - first) (drop first row) ++ b ∷ []) (sym last)
    ∙ (sym (take_more (drop first row) (place - first) false inside)
    ∙ ap (λ (n : ℕ). take n (drop first row)) (sym count))))

abbrev cycle : Row → Row → Row → CycleOf
cycle wires free kept = record { wires = wires; free = free; kept = kept }

module _ (d : DesignOf) where
  pub alike-on : (u v w : Valuation) → IsAlike d u v → IsAlike d v w → IsAlike d u w
  alike-on u v w g h = record { bits = λ b db. g.bits b db ∙ h.bits b db; kept = λ i k c at lt. g.kept i k c at lt ∙ h.kept i k c at lt }

  module _ (c e : CycleOf) (is : IsCycleOf d c) (other : IsCycleOf d e) (alike : IsAlike d (valuation_of d c) (valuation_of d e)) where
    wires-same : c.wires ≡ e.wires
    wires-same =
        rows-same c.wires e.wires (is.wires ∙ sym other.wires) (λ p lt.
        let r = inside (λ (x : WireOf). x.width) d.wires p (omega (arith, lt, is.wires)) in
        subst (λ (q : ℕ). get_or c.wires q false ≡ get_or e.wires q false) (sym r.3.place) (alike.bits (Wire r.0 r.1) (r.2, r.3.at, r.3.below)))

    free-same : c.free ≡ e.free
    free-same = rows-same c.free e.free (is.free ∙ sym other.free) (λ p lt. alike.bits (Free p) (omega (arith, lt, is.free)))

    kept-same : c.kept ≡ e.kept
    kept-same =
        rows-same c.kept e.kept (is.kept ∙ sym other.kept) (λ p lt.
        let r = inside kept_width d.cells p (omega (arith, lt, is.kept)) in
        subst (λ (q : ℕ). get_or c.kept q false ≡ get_or e.kept q false) (sym r.3.place) (alike.kept r.0 r.1 r.2 r.3.at r.3.below))

    cycles-same : c ≡ e
    cycles-same =
        ap (λ (r : Row). cycle r c.free c.kept) wires-same
        ∙ (ap (λ (r : Row). cycle e.wires r c.kept) free-same
        ∙ ap (λ (r : Row). cycle e.wires e.free r) kept-same)

  pub runs-same : (run other : List CycleOf) → IsRunOf d run → IsRunOf d other → length run ≡ length other → ((t : ℕ) → t < length run → IsAlike d (valuations d run t) (valuations d other t)) → run ≡ other
  runs-same [] [] is os size alike = refl
  runs-same [] (e ∷ es) is os size alike = absurd (omega (arith, size))
  runs-same (c ∷ cs) [] is os size alike = absurd (omega (arith, size))
  runs-same (c ∷ cs) (e ∷ es) is os size alike =
      let rest : length cs ≡ length es = omega (arith, size) in
      ap (λ (x : CycleOf). x ∷ cs) (cycles-same c e (All-head (IsCycleOf d) c cs is) (All-head (IsCycleOf d) e es os) (alike 0 (omega arith)))
      ∙ ap (λ (xs : List CycleOf). e ∷ xs) (runs-same cs es (All-tail (IsCycleOf d) c cs is) (All-tail (IsCycleOf d) e es os) rest (λ t lt. alike (suc t) (omega (arith, lt))))

  kept-within : (i k : ℕ) (c : CellOf) → IsCell d i c → k < kept_width c → kept_offset d i + k < kept_bits d
  kept-within i k c at lt = omega (arith, lt, sum_by-within kept_width d.cells i c at)

  -- cycles that agree up to the design's last place have valuations that are alike
  pub valued-alike : (m : ModelOf) → m.size ≡ places d + kept_bits d → (c e : Cycle) → Agree m c e → IsAlike d (valued d c) (valued d e)
  valued-alike m size c e agree = record { bits = bit; kept = λ i k x at lt. agree (places d + kept_offset d i + k) (omega (arith, size, kept-within i k x at lt)) }
    where
      bit : (b : SigBit) → IsDeclared d.wires d.free b → bit_in (valued d c) b ≡ bit_in (valued d e) b
      bit (Wire w b) h = agree (offset d w + b) (omega (arith, size, place_of-wire d w b h))
      bit (Const b) h = refl
      bit (Free n) h = agree (wire_bits d + n) (omega (arith, size, h))

  abbrev row_cycle : Row → CycleOf
  row_cycle row = cycle_in (wire_bits d) d.free (kept_bits d) row

  -- a model's row has what its cycle has
  row-alike : (row : Row) → IsAlike d (valuation_of d (row_cycle row)) (valued d (cycle_of row))
  row-alike row = record { bits = bit; kept = kept }
    where
      bit : (b : SigBit) → IsDeclared d.wires d.free b → bit_in (valuation_of d (row_cycle row)) b ≡ bit_in (valued d (cycle_of row)) b
      bit (Wire w b) h = get_or-take (wire_bits d) row (offset d w + b) false (place_of-wire d w b h)
      bit (Const b) h = refl
      bit (Free n) h = get_or-take d.free (drop (wire_bits d) row) n false h ∙ get_or-drop (wire_bits d) row n false

      kept : (i k : ℕ) (c : CellOf) → IsCell d i c → k < kept_width c → get_or (take (kept_bits d) (drop (places d) row)) (kept_offset d i + k) false ≡ get_or row (places d + kept_offset d i + k) false
      kept i k c at lt =
          let side : places d + (kept_offset d i + k) ≡ places d + kept_offset d i + k = omega arith in
          get_or-take (kept_bits d) (drop (places d) row) (kept_offset d i + k) false (kept-within i k c at lt)
          ∙ (get_or-drop (places d) row (kept_offset d i + k) false
          ∙ ap (λ (p : ℕ). get_or row p false) side)

  pub rows-alike : (rows : List Row) (t : ℕ) → t < length rows → IsAlike d (valuations d (map row_cycle rows) t) (valued d (cycles_of rows t))
  rows-alike rows t lt =
      let same : row_cycle (get_or rows t []) ≡ get_or (map row_cycle rows) t no_cycle = sym (get_or-map row_cycle rows t [] no_cycle lt) in
      subst (λ (c : CycleOf). IsAlike d (valuation_of d c) (valued d (cycles_of rows t))) same (row-alike (get_or rows t []))

  row-fits : (row : Row) → length row ≡ wire_bits d + d.free + 2 + kept_bits d → IsCycleOf d (row_cycle row)
  row-fits row size = record {
    wires = omega (arith, size, length-take (wire_bits d) row);
    free = omega (arith, size, length-take d.free (drop (wire_bits d) row), length-drop (wire_bits d) row);
    kept = omega (arith, size, length-take (kept_bits d) (drop (places d) row), length-drop (places d) row);
  }

  pub rows-fit : (rows : List Row) → AreRowsOf (wire_bits d) d.free (kept_bits d) rows → IsRunOf d (map row_cycle rows)
  rows-fit rows h = All-map (IsCycleOf d) row_cycle rows (All-weaker (λ (row : Row). length row ≡ wire_bits d + d.free + 2 + kept_bits d) (λ (row : Row). IsCycleOf d (row_cycle row)) row-fits rows h)
