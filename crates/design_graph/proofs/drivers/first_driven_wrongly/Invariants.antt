use Rattle.std.proofs.Common.{◌+◌, ◌-◌, length}
use Rattle.design_graph.proofs.Driving.{IsWalked}
use Rattle.design_graph.proofs.drivers.first_driven_wrongly.Given as goal

abbrev pub invariant-items : goal.invariant-items
invariant-items l = IsWalked l.design l.cells l.connects l.taken

abbrev pub decreases-items : goal.decreases-items
decreases-items l = length l.design.cells - l.cells + (length l.design.connects - l.connects)
