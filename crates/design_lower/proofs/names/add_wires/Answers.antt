use Rattle.std.proofs.Common.{◌≡◌, ◌⊎◌, ◌↔◌, ℕ, true, List, subst}
use Rattle.design_core.specs.Shape.{WireOf}
use Rattle.design_core.proofs.Lists.{item_at}
use Rattle.design_lower.specs.Progress.{has}
use Rattle.design_lower.proofs.Listed.{adds-all, adds-next, adds-none}
use Rattle.design_lower.proofs.names.add_wires.Goals as goal

pub loop-wire-init : goal.loop-wire-init
loop-wire-init c = adds-none c.args.names.now

pub loop-wire-preserved : goal.loop-wire-preserved
loop-wire-preserved c =
    let at = item_at c.args.wires.now c.loop-wire.wire-index c.wire-item.result c.wire-item.is c.loop-wire-test.true in
    let P : List ℕ → Type 0 = λ l. (n : List ℕ) → (has c.add.new.self n ≡ true) ↔ ((has c.loop-wire.names n ≡ true) ⊎ (n ≡ l)) in
    adds-next (λ (x : WireOf). x.name) c.args.wires.now c.loop-wire.wire-index c.wire-item.result at c.args.names.now c.loop-wire.names c.add.new.self c.loop-wire.invariant (subst P c.name.ensures c.in_ok-add.ensures)

pub returns : goal.returns
returns c = adds-all (λ (x : WireOf). x.name) c.args.wires.now c.loop-wire.wire-index c.args.names.now c.loop-wire.names c.loop-wire-test.false c.loop-wire.invariant
