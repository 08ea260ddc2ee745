-- A finding: what is claimed of a job, and when that is true.
use Rattle.std.specs.Prelude.{◌≡◌, ℕ, ◌<◌, ◌≤◌, List, length, Option, Some, None}
use Rattle.design_check.specs.Faults.{IsFlat}
use Rattle.design_core.specs.Shape.{DesignOf}
use Rattle.design_meaning.specs.Claims.{NeverBreak, NoBreak, NoReach, Shows, ReachRun}
use Rattle.design_meaning.specs.Runs.{CycleOf, IsRunOf, valuations}
use Rattle.design_reader.specs.Grammar.{Reads}
use Rattle.sby_terms.specs.Problem.{ProblemOf}
use Rattle.sby_terms.specs.Span.{first_of, last_of}
use Rattle.sby_terms.specs.declared.names.Answer.{Answer}
use Rattle.sby_terms.specs.declared.names.Answer.TheVariants.{Sat, Unsat}
use Rattle.sby_terms.specs.declared.names.JobName.{JobName}
use Rattle.sby_terms.specs.declared.names.JobName.TheVariants.{Base, Step, Inv, Cover}
use Rattle.sby_terms.specs.declared.span.Span.{Span}
use Rattle.judge.specs.Jobs.{Solvable, span_of}

pub record FindingOf : Type 0 where
  pub problem : ProblemOf
  pub job : JobName
  pub answer : Answer
  pub run : Option (List CycleOf)

-- a run, where there is one, of more than k and at most n cycles of the design that shows a broken assertion
abbrev pub RunShows : DesignOf → ℕ → ℕ → Option (List CycleOf) → Type 0
RunShows d k n None = ⊥
RunShows d k n (Some run) = IsRunOf d run × (k < length run) × (length run ≤ n) × ((a : ℕ) × Shows d (length run) (valuations d run) a)

-- or, of at most n cycles, that reaches cover statement k
abbrev pub RunReaches : DesignOf → ℕ → ℕ → Option (List CycleOf) → Type 0
RunReaches d n k None = ⊥
RunReaches d n k (Some run) = IsRunOf d run × (length run ≤ n) × ReachRun d (length run) (valuations d run) k

-- What an answer to a job says of the design over a span. A run is shown where the answer is Sat on Base or Cover, and nowhere else; Sat is
-- never found of Inv.
abbrev pub Claim : DesignOf → Span → JobName → Answer → Option (List CycleOf) → Type 0
Claim d span (Base i) Unsat run = NoBreak d (first_of span i) (last_of span i) × (run ≡ None)
Claim d span Step Unsat run = (Solvable d Step span → ⊥) × (run ≡ None)
Claim d span Inv Unsat run = NeverBreak d × (run ≡ None)
Claim d span (Cover k) Unsat run = NoReach d span.depth k × (run ≡ None)
Claim d span (Base i) Sat run = RunShows d (first_of span i) (last_of span i) run
Claim d span Step Sat run = Solvable d Step span × (run ≡ None)
Claim d span Inv Sat run = ⊥
Claim d span (Cover k) Sat run = RunReaches d span.depth k run

-- the finding's text reads a flat design, and what it says is true of each design that its text reads
pub record IsTrueFinding (f : FindingOf) : Type 0 where
  pub design : DesignOf
  pub reads : Reads f.problem.text design
  pub flat : IsFlat design
  pub claims : (d : DesignOf) → Reads f.problem.text d → Claim d (span_of f.problem) f.job f.answer f.run
