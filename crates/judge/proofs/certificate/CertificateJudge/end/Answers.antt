use Rattle.std.proofs.Common.{List, ℕ, subst}
use Rattle.std.specs.Prelude.{IfOk}
use Rattle.judge.proofs.Telling.{ended, ends_outcome, ends_told, heard_so_far, judge_of, judges_ended}
use Rattle.judge.specs.Certificate.{Ends, JudgeOf, Took, TookAll}
use Rattle.judge.proofs.certificate.CertificateJudge.end.Goals as goal

pub answer-told-requires : goal.answer-told-requires
answer-told-requires c =
    let is = heard_so_far _ c.self.invariant c.in-Reading.is in
    let told = ended _ c.end.new.self is.1.0 c.in-Ok.outcome c.in-Ok.ensures.wanting c.in-Ok.ensures.again (c.in-Ok.ensures.ends is.1.0) is.1.1 in
    ends_outcome _ is.0 c.end.new.self c.in-Ok.ensures.same is.1.0 c.in-Ok.outcome told c.values-values.result.now c.values-values.ensures

pub invariant_of-self-2 : goal.invariant_of-self-2
invariant_of-self-2 c =
    let is = heard_so_far _ c.self.invariant c.in-Reading.is in
    let told = ended _ c.end.new.self is.1.0 c.in-Ok.outcome c.in-Ok.ensures.wanting c.in-Ok.ensures.again (c.in-Ok.ensures.ends is.1.0) is.1.1 in
    judges_ended _ is.0 c.end.new.self c.in-Ok.ensures.same is.1.0 c.in-Ok.outcome told c.answer-told.result c.state_told-self-inside.result c.state_told-self-inside.ensures c.answer-told.ensures.fate

pub returns-clause-ends : goal.returns-clause-ends
returns-clause-ends c =
    let i = c.self.inside in
    let is = heard_so_far _ c.self.invariant c.in-Reading.is in
    subst (λ (j : JudgeOf). (bytes : List ℕ) → Took j bytes → IfOk c.answer-told.result (λ r. Ends j (judge_of i.problem.now i.job i.kind i.most c.end.new.self c.state_told-self-inside.result) bytes r)) c.self.view_is
    (λ bytes took.
    ends_told _ is.0 c.end.new.self c.in-Ok.ensures.same bytes c.in-Ok.outcome (c.in-Ok.ensures.ends bytes took.stands) c.answer-told.result c.state_told-self-inside.result c.values-values.result.now
    c.values-values.ensures c.state_told-self-inside.ensures c.answer-told.ensures.finds c.answer-told.ensures.run c.answer-told.ensures.fate)

pub returns-clause-again : goal.returns-clause-again
returns-clause-again c =
    let i = c.self.inside in
    let is = heard_so_far _ c.self.invariant c.in-Reading.is in
    subst (λ (j : JudgeOf). (bytes : List ℕ) → TookAll j bytes → IfOk c.answer-told.result (λ r. Ends j (judge_of i.problem.now i.job i.kind i.most c.end.new.self c.state_told-self-inside.result) bytes r)) c.self.view_is
    (λ bytes took.
    let told = ended _ c.end.new.self bytes c.in-Ok.outcome c.in-Ok.ensures.wanting c.in-Ok.ensures.again (c.in-Ok.ensures.ends bytes) took.heard in
    ends_told _ is.0 c.end.new.self c.in-Ok.ensures.same bytes c.in-Ok.outcome told c.answer-told.result c.state_told-self-inside.result c.values-values.result.now
    c.values-values.ensures c.state_told-self-inside.ensures c.answer-told.ensures.finds c.answer-told.ensures.run c.answer-told.ensures.fate)
