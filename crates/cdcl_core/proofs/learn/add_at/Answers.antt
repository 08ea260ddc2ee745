use Rattle.std.proofs.Common.{subst}
use Rattle.cdcl_core.specs.Searching.{IsPlaced}
use Rattle.cdcl_core.proofs.learn.add_at.Goals as goal

pub assert_learnt-requires-clause-levels : goal.assert_learnt-requires-clause-levels
assert_learnt-requires-clause-levels c = let w = subst (IsPlaced c.args.core.now c.args.clause.now) c.in-Some.is c.requires.placed in w.0

pub assert_learnt-requires-clause-learnt : goal.assert_learnt-requires-clause-learnt
assert_learnt-requires-clause-learnt c = let w = subst (IsPlaced c.args.core.now c.args.clause.now) c.in-Some.is c.requires.placed in w.1

pub add_at_root-requires-clause-level : goal.add_at_root-requires-clause-level
add_at_root-requires-clause-level c = let w = subst (IsPlaced c.args.core.now c.args.clause.now) c.in-None.is c.requires.placed in w.0

pub add_at_root-requires-clause-pending : goal.add_at_root-requires-clause-pending
add_at_root-requires-clause-pending c = let w = subst (IsPlaced c.args.core.now c.args.clause.now) c.in-None.is c.requires.placed in w.1

pub add_at_root-requires-clause-within : goal.add_at_root-requires-clause-within
add_at_root-requires-clause-within c = let w = subst (IsPlaced c.args.core.now c.args.clause.now) c.in-None.is c.requires.placed in w.2
