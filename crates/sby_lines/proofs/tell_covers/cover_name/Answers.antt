use Rattle.std.proofs.Common.{◌≡◌, ◌∙◌, ℕ, Some, ap, sym, subst}
use Rattle.std.specs.Prelude.{slice_get}
use Rattle.std.specs.List.{filter}
use Rattle.design_core.specs.Shape.{CellOf}
use Rattle.design_meaning.specs.Meaning.{is_cover}
use Rattle.cell_table.specs.declared.kind.Kind.{Kind}
use Rattle.design_core.proofs.Lists.{item_at}
use Rattle.design_check.proofs.Statements.{filter-at}
use Rattle.sby_lines.proofs.tell_covers.cover_name.Goals as goal

pub returns-then-before-number : goal.returns-then-before-number
returns-then-before-number c =
    let at = item_at c.cells-cells.result.now c.loop-cell.cell-index c.cell-item.result c.cell-item.is c.loop-cell-test.true in
    let passes = ap (λ (k : Kind). is_cover k) (sym c.kind.ensures) ∙ sym c.if-is_statement.ensures in
    let number = filter-at (λ (x : CellOf). is_cover x.kind) c.cells-cells.result.now c.loop-cell.cell-index c.cell-item.result at passes in
    let place = subst (λ (n : ℕ). slice_get (filter (λ (x : CellOf). is_cover x.kind) c.cells-cells.result.now) n ≡ Some c.cell-item.result) (sym c.loop-cell.invariant.counted ∙ c.if-before-number.true) number in
    (c.cell-item.result, rw (c.cells-cells.ensures.cells, c.design.ensures.design) at place, c.name.ensures)
