use Rattle.std.proofs.Common.{refl}
use Rattle.design_graph.specs.declared.item.Item.TheVariants.{Cell}
use Rattle.design_check.specs.Faults.{Whole}
use Rattle.design_check.specs.declared.fault.FaultKind.TheVariants.{UnknownCell, LeftOut, TwoDrivers}
use Rattle.design_check.proofs.Asking.{flat-parameters, flat-ports}
use Rattle.design_check.proofs.Placing.{none-drivers}
use Rattle.design_check.proofs.laws.flat_cells_are_as_asked.Goals as goal

pub returns-clause-known : goal.returns-clause-known
returns-clause-known c = λ d flat i e at is. flat UnknownCell (Whole (Cell i)) (i, e, refl, at, is)

pub returns-clause-served : goal.returns-clause-served
returns-clause-served c = λ d flat i e k at is. flat LeftOut (Whole (Cell i)) (i, e, refl, at, (k, is))

pub returns-clause-parameters : goal.returns-clause-parameters
returns-clause-parameters c = λ d flat i e at. flat-parameters d flat i e at

pub returns-clause-ports : goal.returns-clause-ports
returns-clause-ports c = λ d flat i e at. flat-ports d flat i e at

pub returns-clause-once : goal.returns-clause-once
returns-clause-once c = λ d flat. none-drivers d (flat TwoDrivers)
