use Rattle.std.proofs.Common.{◌≡◌, ◌+◌, ◌-◌, take, length}
use Rattle.design_graph.specs.Items.{IsCut}
use Rattle.design_lower.specs.Passing.{IsPassing}
use Rattle.design_lower.proofs.lowering.pass_items.Given as goal

abbrev pub invariant-items : goal.invariant-items
invariant-items l = record {
  cut : IsCut l.design l.cells l.connects;
  passing : IsPassing l.design l.cells l.low l.muxes.items l.number;
  copied : l.low.connects ≡ take l.connects l.design.connects;
}

abbrev pub decreases-items : goal.decreases-items
decreases-items l = length l.design.cells - l.cells + (length l.design.connects - l.connects)
