use Rattle.std.proofs.Common.{subst, take}
use Rattle.cert_judge.specs.OutputJudging.{Goes, OutputOf}
use Rattle.cert_judge.proofs.OutputFeeding.{goes_within, output}
use Rattle.cert_judge.proofs.output.OutputJudge.pass.Goals as goal

pub returns-clause-goes : goal.returns-clause-goes
returns-clause-goes g c =
    subst (λ (x : OutputOf _). Goes x (take c.before_feed-count.result c.args.bytes.now) (output c.give.new.judge c.self.inside.spot c.self.inside.values)) c.self.view_is
    (goes_within c.self.inside.judge c.give.new.judge c.self.inside.spot c.self.inside.values (take c.before_feed-count.result c.args.bytes.now) (c.is_within.ensures c.if-not-is_within.false) c.before_feed-count.ensures.none c.in_ok-give.ensures.gave)
