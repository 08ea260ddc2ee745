use Rattle.std.proofs.Common.{[]}
use Rattle.witness_tests.proofs.OneBit.{reads_on, takes}
use Rattle.witness_tests.proofs.tests.judging.judged.Goals as goal

pub feed-requires-2 : goal.feed-requires-2
feed-requires-2 c = reads_on _ _ (takes _ _ _ _ (c.in_ok-outcome.ensures.feeds [] c.in_ok-judge.ensures.took) c.in_default.not-Some)

pub end-requires : goal.end-requires
end-requires c =
    let first = takes _ _ _ _ (c.in_ok-outcome.ensures.feeds [] c.in_ok-judge.ensures.took) c.in_default.not-Some in
    reads_on _ _ (takes _ _ _ _ (c.in_ok-outcome-2.ensures.feeds _ first) c.in_default-2.not-Some)
