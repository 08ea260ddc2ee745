use Rattle.std.proofs.Common.{◌≡◌, arith, rules, subst}
use Rattle.unit_propagation.specs.Visit.{IsVisited}
use Rattle.unit_propagation.proofs.Arms.{visited_rest, visited_whole}
use Rattle.unit_propagation.proofs.walk.keep_rest.Goals as goal

pub returns-then-kept-from-clause-step : goal.returns-then-kept-from-clause-step
returns-then-kept-from-clause-step c = λ slots start s f v.
    let same : c.args.kept ≡ c.args.from = search rules in
    visited_whole slots start s f c.args.list.now c.args.from (subst (λ z. IsVisited slots start s f c.args.list.now z c.args.from) same v)

pub loop-k-preserved : goal.loop-k-preserved
loop-k-preserved c =
    let i = c.loop-k.invariant in
    let r = c.keep.ensures in
    record {
      kept = omega arith;
      list = r.fit;
      step = λ slots start s f v. rw r.list (visited_rest slots start s f c.loop-k.list c.loop-k.kept c.loop-k.k c.index-list-k.result c.index-list-k-in-loop-k.result i.kept (search rules) (i.step slots start s f v));
    }

pub returns-clause-step : goal.returns-clause-step
returns-clause-step c = λ slots start s f v.
    let i = c.loop-k.invariant in
    subst (IsVisited slots start s f c.loop-k.list c.loop-k.kept) (search rules) (i.step slots start s f v)
