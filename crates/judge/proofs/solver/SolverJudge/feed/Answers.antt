use Rattle.std.proofs.Common.{List, ℕ, ◌++◌, ap, ◌∙◌, subst}
use Rattle.std.specs.Prelude.{IfOk}
use Rattle.judge.proofs.Solving.{feeds_outcome, feeds_told, solver_of, solves_on}
use Rattle.judge.specs.Solver.{Feeds, SolverOf, Took}
use Rattle.judge.proofs.solver.SolverJudge.feed.Goals as goal

pub answer-told-requires : goal.answer-told-requires
answer-told-requires c =
    let is = c.self.invariant (ap (λ (j : SolverOf). j.reading) c.self.view_is ∙ c.requires) in
    let taken = is.1 in
    feeds_outcome _ is.0 c.feed.new.self _ c.in-Ok.outcome c.in-Ok.ensures.same (c.in-Ok.ensures.feeds taken.0 taken.1) c.values-values.result.now c.values-values.ensures

pub invariant_of-self-2 : goal.invariant_of-self-2
invariant_of-self-2 c =
    let is = c.self.invariant (ap (λ (j : SolverOf). j.reading) c.self.view_is ∙ c.requires) in
    let taken = is.1 in
    solves_on _ is.0 c.feed.new.self _ c.in-Ok.outcome c.in-Ok.ensures.same (c.in-Ok.ensures.feeds taken.0 taken.1) c.is_open-self-inside.result

pub returns : goal.returns
returns c =
    let i = c.self.inside in
    let is = c.self.invariant (ap (λ (j : SolverOf). j.reading) c.self.view_is ∙ c.requires) in
    record {
      feeds =
          subst (λ (j : SolverOf). (bytes : List ℕ) → Took j bytes → IfOk c.answer-told.result (λ r. Feeds j (solver_of i.problem.now i.job i.most c.feed.new.self c.is_open-self-inside.result) (bytes ++ c.args.piece.now) r)) c.self.view_is
          (λ bytes took.
          feeds_told _ is.0 c.feed.new.self _ c.in-Ok.outcome c.in-Ok.ensures.same (c.in-Ok.ensures.feeds bytes took.stands) c.answer-told.result c.is_open-self-inside.result c.values-values.result.now
          c.values-values.ensures c.is_open-self-inside.ensures c.answer-told.ensures.finds c.answer-told.ensures.run c.answer-told.ensures.fate);
    }
