use Rattle.std.proofs.Common.{take}
use Rattle.unit_propagation.proofs.States.{taken}
use Rattle.unit_propagation.proofs.Learning.{kept_asserted, kept_learnt}
use Rattle.unit_propagation.proofs.propagator.Propagator.assert_clause.Goals as goal

pub add_propagating-requires-clause-kept : goal.add_propagating-requires-clause-kept
add_propagating-requires-clause-kept c = λ h l r. kept_asserted c.args.self.now.trail c.args.clause.now h c.args.first c.args.second l r c.requires.first c.requires.second c.requires.two

pub add_propagating-requires-clause-levels : goal.add_propagating-requires-clause-levels
add_propagating-requires-clause-levels c = λ n h k l r.
    let t = c.args.self.now.trail in
    kept_learnt t c.args.clause.now h c.args.first c.args.second l r c.requires.first c.requires.second c.requires.two c.requires.opened.not_false (take n t) (taken t n) (c.requires.level n k)
