use Rattle.std.proofs.Common.{◌+◌, arith}
use Rattle.std.proofs.lemmas.List.Elements.{All-weaker}
use Rattle.design_core.specs.Shape.{IsCellOf, IsConnectOf}
use Rattle.design_core.proofs.Designs.{IsDeclared-free, IsNumbered-free, IsCellOf-more, IsConnectOf-more}
use Rattle.design_core.proofs.design.Design.number_free.Goals as goal

pub invariant_of-self : goal.invariant_of-self
invariant_of-self c =
    let a = c.self.inside in
    let ws = a.wires.items in
    let d = c.self.invariant.design in
    let n = c.args.count in
    let room = rw (← c.self.view_is) at c.requires in
    record {
      design = record {
        wires = d.wires;
        cells = All-weaker (IsCellOf ws a.free) (IsCellOf ws (a.free + n)) (IsCellOf-more ws ws a.free (a.free + n) (IsDeclared-free ws a.free n) (IsNumbered-free a.free n)) a.cells.items d.cells;
        connects = All-weaker (IsConnectOf ws a.free) (IsConnectOf ws (a.free + n)) (IsConnectOf-more ws ws a.free (a.free + n) (IsDeclared-free ws a.free n) (IsNumbered-free a.free n)) a.connects.items d.connects;
        order = d.order;
        bits = omega (arith, room);
        few_cells = d.few_cells;
        few_connects = d.few_connects;
      };
      counted = c.self.invariant.counted;
      one_each = c.self.invariant.one_each;
      placed = c.self.invariant.placed;
    }
