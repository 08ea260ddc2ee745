use Rattle.std.proofs.Common.{List, ℕ, ap, ◌∙◌, subst}
use Rattle.std.specs.Prelude.{IfOk}
use Rattle.judge.proofs.Solving.{ends_outcome, ends_told, job_asked}
use Rattle.judge.specs.Solver.{Ends, SolverOf, Took}
use Rattle.judge.proofs.solver.SolverJudge.end.Goals as goal

pub has_file-requires : goal.has_file-requires
has_file-requires c = let is = c.self.invariant (ap (λ (j : SolverOf). j.reading) c.self.view_is ∙ c.requires) in job_asked c.self.inside.problem.now c.self.inside.job _ is.0.formula

pub answer-requires : goal.answer-requires
answer-requires c =
    let is = c.self.invariant (ap (λ (j : SolverOf). j.reading) c.self.view_is ∙ c.requires) in
    let taken = is.1 in
    ends_outcome _ is.0 c.end.new.self _ c.in_ok-outcome.outcome (c.in_ok-outcome.ensures.ends taken.0 taken.1) c.has_file.ensures.0 c.has_file.ensures.1 c.values-values.result.now c.values-values.ensures

pub returns-clause-ends : goal.returns-clause-ends
returns-clause-ends c =
    let is = c.self.invariant (ap (λ (j : SolverOf). j.reading) c.self.view_is ∙ c.requires) in
    subst (λ (j : SolverOf). (bytes : List ℕ) → Took j bytes → IfOk c.answer.result (λ r. Ends j bytes r)) c.self.view_is
    (λ bytes took.
    ends_told _ is.0 c.end.new.self _ c.in_ok-outcome.outcome (c.in_ok-outcome.ensures.ends bytes took.stands) c.answer.result c.values-values.result.now
    c.values-values.ensures c.answer.ensures.finds c.answer.ensures.run c.answer.ensures.fate)
