-- The jobs of a task: what it means that one can be solved, and at how many frames it looks.
use Rattle.std.specs.Prelude.{◌≡◌, ℕ, ◌+◌, ◌<◌, ◌≤◌, [], length}
use Rattle.model_core.specs.Shape.{ModelOf}
use Rattle.model_core.specs.Meaning.{Cycle, Broken, Reached}
use Rattle.model_core.specs.Claims.{Shows, StepShows, ReachRun}
use Rattle.sby_terms.specs.Span.{first_of, last_of, slices_of}
use Rattle.sby_terms.specs.declared.names.JobName.{JobName}
use Rattle.sby_terms.specs.declared.names.JobName.TheVariants.{Base, Step, Inv, Cover}
use Rattle.sby_terms.specs.declared.span.Span.{Span}
use Rattle.job_terms.specs.First.{First}
use Rattle.job_terms.specs.First.First.{Start, Any}

-- Base(i): a run whose last cycle is of slice i breaks an assertion there. Step: depth + 1 cycles from any state do, in the last alone.
-- Cover(k): a run of at most depth cycles reaches cover statement k. Inv: a run of whatever length breaks an assertion in its last cycle. No
-- formula of cycles that are told one after the other says that, so below Inv is none of the jobs that are made so.
abbrev pub Solvable : ModelOf → JobName → Span → Type 0
Solvable m (Base i) span = (n : ℕ) × (cs : ℕ → Cycle) × (a : ℕ) × (first_of span i < n) × (n ≤ last_of span i) × Shows m n cs a
Solvable m Step span = (cs : ℕ → Cycle) × (a : ℕ) × StepShows m span.depth cs a
Solvable m Inv span = (n : ℕ) × (cs : ℕ → Cycle) × (a : ℕ) × Shows m n cs a
Solvable m (Cover k) span = (n : ℕ) × (cs : ℕ → Cycle) × (n ≤ span.depth) × ReachRun m n cs k

-- the frames at which a job looks
abbrev pub frames : JobName → Span → ℕ
frames (Base i) span = last_of span i
frames Step span = span.depth + 1
frames Inv span = 2
frames (Cover k) span = span.depth

-- from where its first frame goes
abbrev pub first : JobName → First
first (Base i) = Start
first Step = Any
first Inv = Any
first (Cover k) = Start

-- the job is of a task with this span, and asks about cycles that are told one after the other
abbrev pub IsJob : ModelOf → JobName → Span → Type 0
IsJob m (Base i) span = i < slices_of span
IsJob m Step span = Unit {0}
IsJob m Inv span = ⊥
IsJob m (Cover k) span = k < length m.covers

-- no statement could be broken or reached
abbrev pub AsksNothing : ModelOf → JobName → Type 0
AsksNothing m (Base i) = m.asserts ≡ []
AsksNothing m Step = m.asserts ≡ []
AsksNothing m Inv = m.asserts ≡ []
AsksNothing m (Cover k) = m.covers ≡ []

-- cycle t can be the last of what solves the job
abbrev pub MayEnd : JobName → Span → ℕ → Type 0
MayEnd (Base i) span t = (first_of span i ≤ t) × (t < last_of span i)
MayEnd Step span t = t ≡ span.depth
MayEnd Inv span t = Unit {0}
MayEnd (Cover k) span t = t < span.depth

-- what is asked for in a job's last cycle
abbrev pub IsGoal : ModelOf → JobName → Cycle → Type 0
IsGoal m (Base i) c = (a : ℕ) × Broken m c a
IsGoal m Step c = (a : ℕ) × Broken m c a
IsGoal m Inv c = (a : ℕ) × Broken m c a
IsGoal m (Cover k) c = Reached m c k
