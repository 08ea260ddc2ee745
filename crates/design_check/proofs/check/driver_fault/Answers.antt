use Rattle.std.proofs.Common.{ℕ}
use Rattle.design_graph.specs.Items.{DrivesBit, IsDrivenOnce, IsFirstWrong}
use Rattle.design_check.specs.Faults.{Instance, IsFirst, Place, Bit}
use Rattle.design_check.specs.declared.fault.FaultKind.TheVariants.{TwoDrivers}
use Rattle.design_check.proofs.Placing.{drivers-first, drivers-none}
use Rattle.design_check.proofs.Verdict.{match-weaker}
use Rattle.design_check.proofs.check.driver_fault.Goals as goal

pub bit_fault-requires-clause-first : goal.bit_fault-requires-clause-first
bit_fault-requires-clause-first c =
    let d = c.args.design.now in
    match-weaker c.in_ok-first.first (IsDrivenOnce c.args.design.now) ((p : Place) → Instance c.args.design.now TwoDrivers p → ⊥) (λ p. IsFirstWrong c.args.design.now p.0 p.1)
    (λ r. (k : ℕ) × DrivesBit c.args.design.now r.0 k r.1 × IsFirst c.args.design.now (Instance c.args.design.now TwoDrivers) (Bit r.0 k))
    (λ once. drivers-none d once) (λ p h. drivers-first d p.0 p.1 h) c.in_ok-first.ensures
