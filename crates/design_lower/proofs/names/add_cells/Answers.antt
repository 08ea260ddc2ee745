use Rattle.std.proofs.Common.{◌≡◌, ◌⊎◌, ◌↔◌, ℕ, true, List, subst}
use Rattle.design_core.specs.Shape.{CellOf}
use Rattle.design_core.proofs.Lists.{item_at}
use Rattle.design_lower.specs.Progress.{has}
use Rattle.design_lower.proofs.Listed.{adds-all, adds-next, adds-none}
use Rattle.design_lower.proofs.names.add_cells.Goals as goal

pub loop-cell-init : goal.loop-cell-init
loop-cell-init c = adds-none c.args.names.now

pub loop-cell-preserved : goal.loop-cell-preserved
loop-cell-preserved c =
    let at = item_at c.args.cells.now c.loop-cell.cell-index c.cell-item.result c.cell-item.is c.loop-cell-test.true in
    let P : List ℕ → Type 0 = λ l. (n : List ℕ) → (has c.add.new.self n ≡ true) ↔ ((has c.loop-cell.names n ≡ true) ⊎ (n ≡ l)) in
    adds-next (λ (x : CellOf). x.name) c.args.cells.now c.loop-cell.cell-index c.cell-item.result at c.args.names.now c.loop-cell.names c.add.new.self c.loop-cell.invariant (subst P c.name.ensures c.in_ok-add.ensures)

pub returns : goal.returns
returns c = adds-all (λ (x : CellOf). x.name) c.args.cells.now c.loop-cell.cell-index c.args.names.now c.loop-cell.names c.loop-cell-test.false c.loop-cell.invariant
