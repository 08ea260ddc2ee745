use Rattle.std.proofs.Common.{List, ℕ, ◌++◌, subst}
use Rattle.std.specs.Prelude.{IfOk}
use Rattle.judge.proofs.Telling.{feeds_outcome, feeds_told, judge_of, judges_on}
use Rattle.judge.specs.Certificate.{Feeds, JudgeOf, Took}
use Rattle.judge.proofs.certificate.CertificateJudge.feed.Goals as goal

pub answer-told-requires : goal.answer-told-requires
answer-told-requires c =
    let is = c.self.invariant.reading c.in-Reading.is in
    let taken = is.1 in
    feeds_outcome _ is.0 c.feed.new.self c.in-Ok.ensures.same _ c.in-Ok.outcome (c.in-Ok.ensures.feeds taken.0 taken.1) c.values-values.result.now c.values-values.ensures

pub invariant_of-self-2 : goal.invariant_of-self-2
invariant_of-self-2 c =
    let is = c.self.invariant.reading c.in-Reading.is in
    let taken = is.1 in
    judges_on _ is.0 c.feed.new.self c.in-Ok.ensures.same _ c.in-Ok.outcome (c.in-Ok.ensures.feeds taken.0 taken.1) c.state_told-self-inside.result

pub returns-clause-feeds : goal.returns-clause-feeds
returns-clause-feeds c =
    let i = c.self.inside in
    let is = c.self.invariant.reading c.in-Reading.is in
    subst (λ (j : JudgeOf). (bytes : List ℕ) → Took j bytes → IfOk c.answer-told.result (λ r. Feeds j (judge_of i.problem.now i.job i.kind i.most c.feed.new.self c.state_told-self-inside.result) (bytes ++ c.args.piece.now) r)) c.self.view_is
    (λ bytes took.
    feeds_told _ is.0 c.feed.new.self c.in-Ok.ensures.same _ c.in-Ok.outcome (c.in-Ok.ensures.feeds bytes took.stands) c.answer-told.result c.state_told-self-inside.result c.values-values.result.now
    c.values-values.ensures c.state_told-self-inside.ensures c.answer-told.ensures.finds c.answer-told.ensures.run c.answer-told.ensures.fate)
