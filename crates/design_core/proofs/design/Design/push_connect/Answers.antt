use Rattle.std.proofs.Common.{◌≡◌, ◌∙◌, arith, length, ap, sym, subst}
use Rattle.std.proofs.lemmas.List.Elements.{All-push}
use Rattle.std.proofs.lemmas.List.{length_push}
use Rattle.design_core.specs.Shape.{ConnectOf, IsConnectOf}
use Rattle.design_core.proofs.Designs.{order-connect}
use Rattle.design_core.proofs.design.Design.push_connect.Goals as goal

pub invariant_of-self-2 : goal.invariant_of-self-2
invariant_of-self-2 c =
    let a = c.self.inside in
    let d = c.self.invariant.design in
    let left = rw (← c.self.view_is) at c.requires.left in
    let right = rw (← c.self.view_is) at c.requires.right in
    let few = rw (← c.self.view_is) at c.requires.few in
    let j : ConnectOf = c.new-connect.result in
    let made = c.new-connect.ensures in
    let P : ConnectOf → Type 0 = λ x. IsConnectOf a.wires.items a.free x in
    let fits : P j = subst P (sym made) (left, right) in
    let at : j.cells_before ≡ length a.cells.items = ap (λ (x : ConnectOf). x.cells_before) made ∙ omega (arith, c.len-cells_before.ensures) in
    record {
      design = record {
        wires = d.wires;
        cells = d.cells;
        connects = rw c.in_ok-push.ensures.items (All-push (IsConnectOf a.wires.items a.free) a.connects.items j d.connects fits);
        order = rw c.in_ok-push.ensures.items (order-connect (length a.cells.items) a.connects.items j at d.order);
        bits = d.bits;
        few_cells = d.few_cells;
        few_connects = rw c.in_ok-push.ensures.items (omega (arith, few, length_push a.connects.items j));
      };
      counted = c.self.invariant.counted;
      one_each = c.self.invariant.one_each;
      placed = c.self.invariant.placed;
    }
