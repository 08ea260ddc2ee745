-- A finding tells whether its job can be solved.
use Rattle.std.proofs.Common.{◌≡◌, List, length, Some, None, arith, subst}
use Rattle.std.specs.Prelude.{Option}
use Rattle.design_core.specs.Shape.{DesignOf}
use Rattle.design_meaning.specs.Runs.{CycleOf, valuations}
use Rattle.design_reader.specs.Grammar.{Reads}
use Rattle.sby_terms.specs.declared.names.Answer.{Answer}
use Rattle.sby_terms.specs.declared.names.Answer.TheVariants.{Sat, Unsat}
use Rattle.sby_terms.specs.declared.names.JobName.{JobName}
use Rattle.sby_terms.specs.declared.names.JobName.TheVariants.{Base, Step, Inv, Cover}
use Rattle.sby_terms.specs.declared.span.Span.{Span}
use Rattle.judge.specs.Finding.{Claim, FindingOf, IsTrueFinding}
use Rattle.judge.specs.Jobs.{Solvable, span_of}

solved : (d : DesignOf) (span : Span) (job : JobName) (run : Option (List CycleOf)) → Claim d span job Sat run → Solvable d job span
solved d span (Base i) None claim = absurd claim
solved d span (Base i) (Some run) claim = (length run, valuations d run, claim.3.0, claim.1, claim.2, claim.3.1)
solved d span Step run claim = claim.0
solved d span Inv run claim = absurd claim
solved d span (Cover k) None claim = absurd claim
solved d span (Cover k) (Some run) claim = (length run, valuations d run, claim.1, claim.2)

unsolved : (d : DesignOf) (span : Span) (job : JobName) (run : Option (List CycleOf)) → Claim d span job Unsat run → Solvable d job span → ⊥
unsolved d span (Base i) run claim s = claim.0 s.0 s.1 s.2 s.3 s.4 s.5
unsolved d span Step run claim s = claim.0 s
unsolved d span Inv run claim s = claim.0 s.0 s.0 s.1 s.2 s.3.run.window.some (omega arith) s.3
unsolved d span (Cover k) run claim s = claim.0 s.0 s.1 s.2 s.3

module _ (f : FindingOf) (d : DesignOf) (is : IsTrueFinding f) (reads : Reads f.problem.text d) where
  claim-of : (answer : Answer) → f.answer ≡ answer → Claim d (span_of f.problem) f.job answer f.run
  claim-of answer same = subst (λ (a : Answer). Claim d (span_of f.problem) f.job a f.run) same (is.claims d reads)

  pub found-solved : f.answer ≡ Sat → Solvable d f.job (span_of f.problem)
  found-solved same = solved d (span_of f.problem) f.job f.run (claim-of Sat same)

  pub found-unsolved : f.answer ≡ Unsat → Solvable d f.job (span_of f.problem) → ⊥
  found-unsolved same = unsolved d (span_of f.problem) f.job f.run (claim-of Unsat same)
