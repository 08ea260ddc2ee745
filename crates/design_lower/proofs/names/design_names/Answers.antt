use Rattle.std.proofs.Common.{ℕ, [], List, map, subst}
use Rattle.design_core.specs.Shape.{CellOf, WireOf}
use Rattle.design_lower.specs.Progress.{Adds}
use Rattle.design_lower.proofs.Listed.{adds-both}
use Rattle.design_lower.proofs.names.design_names.Goals as goal

pub returns : goal.returns
returns c =
    let d = c.args.design.now in
    let first : Adds [] c.add_wires.new.names (map (λ (w : WireOf). w.name) c.args.design.now.wires) =
    subst (λ (l : List WireOf). Adds [] c.add_wires.new.names (map (λ (w : WireOf). w.name) l)) c.wires.ensures.wires
    (subst (λ (l : List (List ℕ)). Adds l c.add_wires.new.names (map (λ (w : WireOf). w.name) c.wires.result.now)) c.new-names.ensures c.in_ok-add_wires.ensures) in
    let then : Adds c.add_wires.new.names c.add_cells.new.names (map (λ (x : CellOf). x.name) c.args.design.now.cells) =
    subst (λ (l : List CellOf). Adds c.add_wires.new.names c.add_cells.new.names (map (λ (x : CellOf). x.name) l)) c.cells.ensures.cells c.in_ok-add_cells.ensures in
    λ n. adds-both c.add_wires.new.names c.add_cells.new.names (map (λ (w : WireOf). w.name) d.wires) (map (λ (x : CellOf). x.name) d.cells) first then n
