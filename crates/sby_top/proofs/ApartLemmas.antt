-- True answers don't contradict each other.
use Rattle.std.proofs.Common.{◌≡◌, ℕ, List}
use Rattle.std.specs.Prelude.{Option, Some, slice_get}
use Rattle.design_core.specs.Shape.{DesignOf}
use Rattle.judge.specs.Jobs.{Solvable}
use Rattle.race_core.specs.Asking.{name_at}
use Rattle.sby_terms.specs.declared.names.Answer.{Answer}
use Rattle.sby_terms.specs.declared.names.Answer.TheVariants.{Sat, Unsat}
use Rattle.sby_terms.specs.declared.names.JobName.{JobName}
use Rattle.sby_terms.specs.declared.names.Mode.{Mode}
use Rattle.sby_terms.specs.declared.names.Mode.TheVariants.{Bmc, Prove, ProveInv, Cover as CoverMode}
use Rattle.sby_terms.specs.declared.span.Span.{Span}
use Rattle.sby_top.proofs.AnswerLemmas.{Apart}

-- what an answer says of a job of a design
abbrev pub SaysOf : DesignOf → Span → JobName → Answer → Type 0
SaysOf d span job Sat = Solvable d job span
SaysOf d span job Unsat = Solvable d job span → ⊥

-- each answer is true
abbrev pub AllSay : DesignOf → Span → Mode → List (Option Answer) → Type 0
AllSay d span mode xs = (k : ℕ) (a : Answer) → slice_get xs k ≡ Some (Some a) → SaysOf d span (name_at mode k) a

-- a run that breaks an assertion breaks an invariant
pub says_apart : (d : DesignOf) (span : Span) (mode : Mode) (xs ys : List (Option Answer)) → AllSay d span mode xs → AllSay d span mode ys → Apart mode xs ys
says_apart d span Bmc xs ys own other = tt
says_apart d span Prove xs ys own other = tt
says_apart d span ProveInv xs ys own other = λ inv base. let run = other 0 Sat base in own 1 Unsat inv (run.0, run.1, run.2, run.5)
says_apart d span CoverMode xs ys own other = tt
