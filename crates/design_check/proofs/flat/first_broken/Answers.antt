use Rattle.std.proofs.Common.{◌≡◌, ◌∙◌, inl, inr, ℕ, ◌<◌, true, false, cond, List, Some, length, All, ap, sym, subst, refl, arith}
use Rattle.std.specs.Prelude.{slice_get}
use Rattle.std.specs.List.{filter}
use Rattle.std.proofs.lemmas.List.{take_all}
use Rattle.std.proofs.lemmas.Option.{slice_get_within}
use Rattle.design_core.specs.Shape.{CellOf, IsCellOf}
use Rattle.design_meaning.specs.Meaning.{asserts, is_assert, is_enabled, says}
use Rattle.design_meaning.specs.Runs.{valuation_of}
use Rattle.cell_table.specs.declared.kind.Kind.{Kind}
use Rattle.design_core.proofs.Lists.{item_at, one_at}
use Rattle.design_check.proofs.Statements.{cases_same}
use Rattle.design_check.proofs.Statements.{filter-at, count-more, broken-parts, unbroken-parts}
use Rattle.design_check.proofs.flat.first_broken.Goals as goal
use Rattle.design_check.proofs.flat.first_broken.Goals.{then-is_assert+else-is_broken, else-is_assert}

pub is_broken-requires-clause-declared : goal.is_broken-requires-clause-declared
is_broken-requires-clause-declared c =
    let all : All (IsCellOf c.args.design.now.wires c.args.design.now.free) c.cells-cells.result.now = rw c.cells-cells.ensures.cells c.cells-cells.ensures.design.cells in
    rw (← c.cell-item.is) at (all c.loop-cell.cell-index c.cell-item.result c.loop-cell-test.true)

pub returns-then-is_broken : goal.returns-then-is_broken
returns-then-is_broken c =
    let v = valuation_of c.args.design.now c.args.cycle.now in
    let cell : CellOf = c.cell-item.result in
    let at = item_at c.cells-cells.result.now c.loop-cell.cell-index c.cell-item.result c.cell-item.is c.loop-cell-test.true in
    let passes = ap (λ (k : Kind). is_assert k) (sym c.kind.ensures) ∙ sym c.if-is_assert.ensures in
    let number = filter-at (λ (x : CellOf). is_assert x.kind) c.cells-cells.result.now c.loop-cell.cell-index cell at passes in
    let place = rw c.cells-cells.ensures.cells at (subst (λ (n : ℕ). slice_get (filter (λ (x : CellOf). is_assert x.kind) c.cells-cells.result.now) n ≡ Some c.cell-item.result) (sym c.loop-cell.invariant.0) number) in
    let parts = broken-parts (is_enabled v cell) (says v cell) c.if-is_broken.ensures in
    ((cell, place, parts.0, parts.1), c.loop-cell.invariant.2)

pub loop-cell-preserved : goal.loop-cell-preserved
loop-cell-preserved c =
    let d = c.args.design.now in
    let v = valuation_of c.args.design.now c.args.cycle.now in
    let cell : CellOf = c.cell-item.result in
    let inv = c.loop-cell.invariant in
    let at = item_at c.cells-cells.result.now c.loop-cell.cell-index c.cell-item.result c.cell-item.is c.loop-cell-test.true in
    let more = count-more (λ (x : CellOf). is_assert x.kind) c.cells-cells.result.now c.loop-cell.cell-index cell c.loop-cell-test.true c.cell-item.is in
    elim c.if-is_assert.branch [
      | then-is_assert+else-is_broken w ↦
          let passes : is_assert c.cell-item.result.kind ≡ true = ap (λ (k : Kind). is_assert k) (sym c.kind.ensures) ∙ sym w.if-is_assert.ensures in
          let one : ◌≡◌ {A = ℕ} (cond (is_assert c.cell-item.result.kind) 1 0) 1 = rw passes refl in
          let number = filter-at (λ (x : CellOf). is_assert x.kind) c.cells-cells.result.now c.loop-cell.cell-index cell at passes in
          let place = rw c.cells-cells.ensures.cells at (subst (λ (n : ℕ). slice_get (filter (λ (x : CellOf). is_assert x.kind) c.cells-cells.result.now) n ≡ Some c.cell-item.result) (sym inv.0) number) in (
            omega (arith, w.number-is, more, one, inv.0),
            omega (arith, w.number-is, inv.1),
            λ k lt h. elim (cases_same k c.loop-cell.number) as (λ _. ⊥) [
              | inl same ↦
                  let there = subst (λ (n : ℕ). slice_get (asserts c.args.design.now) n ≡ Some h.0) same h.1 in
                  let e = one_at (asserts c.args.design.now) c.loop-cell.number h.0 cell there place in
                  unbroken-parts (is_enabled v cell) (says v cell) w.if-is_broken.ensures
                  (subst (λ (x : CellOf). is_enabled (valuation_of c.args.design.now c.args.cycle.now) x ≡ true) e h.2)
                  (subst (λ (x : CellOf). says (valuation_of c.args.design.now c.args.cycle.now) x ≡ false) e h.3)
              | inr other ↦ let less : k < c.loop-cell.number = omega (arith, w.number-is) in inv.2 k less h
            ],
          )
      | else-is_assert w ↦
          let fails : is_assert c.cell-item.result.kind ≡ false = ap (λ (k : Kind). is_assert k) (sym c.kind.ensures) ∙ sym w.if-is_assert.ensures in
          let none : ◌≡◌ {A = ℕ} (cond (is_assert c.cell-item.result.kind) 1 0) 0 = rw fails refl in (
            omega (arith, w.number-is, more, none, inv.0),
            omega (arith, w.number-is, inv.1),
            λ k lt h. let less : k < c.loop-cell.number = omega (arith, w.number-is) in inv.2 k less h,
          )
    ]

pub returns : goal.returns
returns c = λ a h.
    let all = take_all c.loop-cell.cell-index c.cells-cells.result.now c.loop-cell-test.false ∙ c.cells-cells.ensures.cells in
    let len = ap (λ (l : List CellOf). length (filter (λ (x : CellOf). is_assert x.kind) l)) all in
    let lt : a < c.loop-cell.number = omega (arith, slice_get_within (asserts c.args.design.now) a h.0 h.1, len, c.loop-cell.invariant.0) in
    c.loop-cell.invariant.2 a lt h
