use Rattle.std.proofs.Common.{arith}
use Rattle.pdr_core.proofs.search.find_candidate.Goals as goal

pub loop-alloc-smaller : goal.loop-alloc-smaller
loop-alloc-smaller c =
    let counted = c.count_query.ensures.counted c.loop-alloc-test.true in
    let first = c.count_query.ensures.goes_on in
    let goes = c.attempt_counted.ensures.goes_on in
    omega (arith, counted, c.count_query.ensures.within, first.budget, goes.budget, goes.conflicts, goes.queries)
