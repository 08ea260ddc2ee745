use Rattle.std.proofs.Common.{sym, subst}
use Rattle.cert_judge.specs.OutputJudging.{Goes, OutputOf}
use Rattle.cert_judge.proofs.OutputAnswering.{feeds_output}
use Rattle.cert_judge.proofs.output.OutputJudge.feed.Goals as goal

pub returns-clause-feeds : goal.returns-clause-feeds
returns-clause-feeds g c =
    feeds_output c.args.self.now c.self.inside.judge c.feed.new.self c.self.inside.spot c.self.inside.values c.args.piece.now c.feed.result
    (subst (λ (z : OutputOf _). Goes c.args.self.now c.args.piece.now z) (sym c.self.view_is) c.in_ok-take_piece.ensures.goes) c.feed.ensures.same c.feed.ensures.feeds
