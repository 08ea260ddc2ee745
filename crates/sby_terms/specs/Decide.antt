-- What the answers of a task's jobs decide. There is one entry per job, in the order of the jobs: Base(0), Base(1), ..; or Base, then
-- Step or Inv; or Cover(0), Cover(1), ..
use Rattle.std.specs.Prelude.{◌≡◌, List, [], Option, Some, slice_get, All, Contains}
use Rattle.sby_terms.specs.declared.names.Mode.{Mode}
use Rattle.sby_terms.specs.declared.names.Mode.TheVariants.{Bmc, Prove, ProveInv, Cover}
use Rattle.sby_terms.specs.declared.names.Answer.{Answer}
use Rattle.sby_terms.specs.declared.names.Answer.TheVariants.{Sat, Unsat}
use Rattle.sby_terms.specs.declared.names.Verdict.{Verdict}
use Rattle.sby_terms.specs.declared.names.Verdict.TheVariants.{Pass, Fail}

-- of prove: the job Base has this answer
abbrev pub BaseIs : List (Option Answer) → Answer → Type 0
BaseIs answers answer = slice_get answers 0 ≡ Some (Some answer)

-- of prove: the job Step has this answer
abbrev pub StepIs : List (Option Answer) → Answer → Type 0
StepIs answers answer = slice_get answers 1 ≡ Some (Some answer)

-- of prove by an invariant: the job Inv has this answer
abbrev pub InvIs : List (Option Answer) → Answer → Type 0
InvIs answers answer = slice_get answers 1 ≡ Some (Some answer)

-- each job has this answer
abbrev pub AreAll : List (Option Answer) → Answer → Type 0
AreAll answers answer = All (λ one. one ≡ Some answer) answers

-- The answers decide this verdict. A task of bmc has a slice at least. An invariant shows by itself what prove asks, with or without an answer of Base.
abbrev pub Decides : Mode → List (Option Answer) → Verdict → Type 0
Decides Bmc answers Pass = (answers ≡ [] → ⊥) × AreAll answers Unsat
Decides Bmc answers Fail = Contains answers (Some Sat)
Decides Prove answers Pass = BaseIs answers Unsat × StepIs answers Unsat
Decides Prove answers Fail = BaseIs answers Sat
Decides ProveInv answers Pass = (BaseIs answers Sat → ⊥) × InvIs answers Unsat
Decides ProveInv answers Fail = BaseIs answers Sat
Decides Cover answers Pass = AreAll answers Sat
Decides Cover answers Fail = Contains answers (Some Unsat)
