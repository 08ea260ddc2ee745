use Rattle.std.proofs.Common.{◌++◌}
use Rattle.sby_top.proofs.JudgeLemmas.{fed_ends, goes_on, never_both}
use Rattle.sby_top.proofs.judge_stream.feed_piece.Goals as goal

pub returns-then-is_more : goal.returns-then-is_more
returns-then-is_more c = λ bytes took. goes_on c.args.judge.now c.feed.new.self (bytes ++ c.args.piece.now) c.in-Ok.answer c.requires.file c.requires.most (c.is_more.ensures.0 c.if-is_more.true)
    (c.in-Ok.ensures.feeds bytes took)

pub returns-else-is_more : goal.returns-else-is_more
returns-else-is_more c = λ bytes took. fed_ends c.fates_stay.ensures.stays c.args.judge.now c.feed.new.self (bytes ++ c.args.piece.now) c.in-Ok.answer c.end_of.result c.requires.file c.requires.most
    (λ none. never_both c.is_more.result c.if-is_more.false (c.is_more.ensures.1 none)) c.end_of.ensures.end c.end_of.ensures.is_true (c.in-Ok.ensures.feeds bytes took)
