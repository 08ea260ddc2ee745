use Rattle.std.proofs.Common.{arith}
use Rattle.design_check.specs.declared.fault.FaultKind.TheVariants.{TwoDrivers, InitConflict, Loop}
use Rattle.design_check.proofs.Conflicting.{register-start}
use Rattle.design_check.proofs.Placing.{none-drivers, none-cells, none-wires, none-conflicts}
use Rattle.design_check.proofs.Verdict.{clean-first}
use Rattle.design_check.proofs.check.examine.Goals as goal

pub net_leaders-requires-clause-once : goal.net_leaders-requires-clause-once
net_leaders-requires-clause-once c = none-drivers c.args.design.now (clean-first c.args.design.now TwoDrivers 7 (omega arith) (rw c.in_default-driver.is at c.in_ok-driver.ensures))

pub start_marks-requires-clause-once : goal.start_marks-requires-clause-once
start_marks-requires-clause-once c = none-drivers c.args.design.now (clean-first c.args.design.now TwoDrivers 7 (omega arith) (rw c.in_default-driver.is at c.in_ok-driver.ensures))

pub order_of-requires-clause-cells : goal.order_of-requires-clause-cells
order_of-requires-clause-cells c = none-cells c.args.design.now (clean-first c.args.design.now Loop 10 (omega arith) (rw c.in_default-looped.is at c.in_ok-looped.ensures))

pub order_of-requires-clause-bits : goal.order_of-requires-clause-bits
order_of-requires-clause-bits c = λ w b h. none-wires c.args.design.now (clean-first c.args.design.now Loop 10 (omega arith) (rw c.in_default-looped.is at c.in_ok-looped.ensures)) w (b, h)

pub starts_of-requires-clause-conflicts : goal.starts_of-requires-clause-conflicts
starts_of-requires-clause-conflicts c = λ a low high.
    let d = c.args.design.now in
    let r = low.0 in
    none-conflicts d (clean-first d InitConflict 9 (omega arith) (rw c.in_default-conflict.is at c.in_ok-conflict.ensures)) r.0 r.1
    (register-start d r.0 r.1 a _ r.2 low, register-start d r.0 r.1 a _ r.2 high)
