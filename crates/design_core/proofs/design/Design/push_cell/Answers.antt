use Rattle.std.proofs.Common.{length, arith}
use Rattle.std.proofs.lemmas.List.Elements.{All-push}
use Rattle.std.proofs.lemmas.List.{length_push}
use Rattle.design_core.specs.Shape.{IsCellOf}
use Rattle.design_core.proofs.Designs.{order-cell}
use Rattle.design_core.proofs.design.Design.push_cell.Goals as goal

pub invariant_of-self-2 : goal.invariant_of-self-2
invariant_of-self-2 c =
    let a = c.self.inside in
    let d = c.self.invariant.design in
    let fits = rw (← c.self.view_is) at c.requires.cell in
    let few = rw (← c.self.view_is) at c.requires.few in
    record {
      design = record {
        wires = d.wires;
        cells = rw c.in_ok-push.ensures.items (All-push (IsCellOf a.wires.items a.free) a.cells.items c.args.cell d.cells fits);
        connects = d.connects;
        order = rw c.in_ok-push.ensures.items (order-cell (length a.cells.items) _ a.connects.items (omega (arith, length_push a.cells.items c.args.cell)) d.order);
        bits = d.bits;
        few_cells = rw c.in_ok-push.ensures.items (omega (arith, few, length_push a.cells.items c.args.cell));
        few_connects = d.few_connects;
      };
      counted = c.self.invariant.counted;
      one_each = c.self.invariant.one_each;
      placed = c.self.invariant.placed;
    }
