-- The jobs of a problem, and what it means that one can be solved.
use Rattle.std.specs.Prelude.{◌≡◌, ◌≢◌, ℕ, suc, ◌<◌, ◌≤◌, List, [], ◌∷◌, length, map}
use Rattle.std.specs.List.{range_with_len}
use Rattle.design_core.specs.Shape.{DesignOf}
use Rattle.design_meaning.specs.Claims.{Shows, ReachRun}
use Rattle.design_meaning.specs.Meaning.{Valuation, Window, Assumed, Broken, asserts, covers}
use Rattle.sby_terms.specs.Problem.{ProblemOf}
use Rattle.sby_terms.specs.Span.{IsSpan, first_of, last_of, slices_of, whole}
use Rattle.sby_terms.specs.declared.names.JobName.{JobName}
use Rattle.sby_terms.specs.declared.names.JobName.TheVariants.{Base, Step, Inv, Cover}
use Rattle.sby_terms.specs.declared.names.Mode.{Mode}
use Rattle.sby_terms.specs.declared.names.Mode.TheVariants.{Bmc, Prove, ProveInv, Cover as CoverMode}
use Rattle.sby_terms.specs.declared.span.Span.{Span}

-- the cycles at which a problem looks
abbrev pub span_of : ProblemOf → Span
span_of p = p.span

-- a span that a problem of a mode may have: of at most 100,000 cycles, and outside bmc without skipped cycles and slices
pub record IsSpanFor (mode : Mode) (span : Span) : Type 0 where
  pub is_span : IsSpan span
  pub most : span.depth ≤ 100000
  pub one : mode ≢ Bmc → span ≡ whole span.depth

-- the jobs of a mode, in order: of bmc one for each slice
abbrev pub jobs_in : Mode → Span → DesignOf → List JobName
jobs_in Bmc span d = map Base (range_with_len 0 (slices_of span))
jobs_in Prove span d = Base 0 ∷ Step ∷ []
jobs_in ProveInv span d = Base 0 ∷ Inv ∷ []
jobs_in CoverMode span d = map Cover (range_with_len 0 (length (covers d)))

-- a job of a mode that comes before another: an earlier slice, Base before Step or Inv, an earlier statement
abbrev pub IsEarlier : JobName → JobName → Type 0
IsEarlier (Base i) (Base j) = i < j
IsEarlier (Base i) Step = i ≡ 0
IsEarlier (Base i) Inv = i ≡ 0
IsEarlier (Base i) (Cover j) = ⊥
IsEarlier Step (Base j) = ⊥
IsEarlier Step Step = ⊥
IsEarlier Step Inv = ⊥
IsEarlier Step (Cover j) = ⊥
IsEarlier Inv (Base j) = ⊥
IsEarlier Inv Step = ⊥
IsEarlier Inv Inv = ⊥
IsEarlier Inv (Cover j) = ⊥
IsEarlier (Cover i) (Base j) = ⊥
IsEarlier (Cover i) Step = ⊥
IsEarlier (Cover i) Inv = ⊥
IsEarlier (Cover i) (Cover j) = i < j

-- the jobs of a problem of which the design is d
abbrev pub jobs_of : ProblemOf → DesignOf → List JobName
jobs_of p d = jobs_in p.mode (span_of p) d

-- n + 1 neighbouring cycles from any state, each of them assumed: the first n break no assertion, the last breaks a
pub record StepShows (d : DesignOf) (n : ℕ) (vs : ℕ → Valuation) (a : ℕ) : Type 0 where
  pub window : Window d (suc n) vs
  pub assumed : (t : ℕ) → t < suc n → Assumed d (vs t)
  pub before : (t b : ℕ) → t < n → Broken d (vs t) b → ⊥
  pub last : Broken d (vs n) a

-- Base(i): a run whose last cycle is of slice i breaks an assertion there. Step: depth + 1 cycles from any state do, in the last alone.
-- Cover(k): a run of at most depth cycles reaches cover statement k. Inv: a run of whatever length breaks an assertion in its last cycle.
abbrev pub Solvable : DesignOf → JobName → Span → Type 0
Solvable d (Base i) span = (n : ℕ) × (vs : ℕ → Valuation) × (a : ℕ) × (first_of span i < n) × (n ≤ last_of span i) × Shows d n vs a
Solvable d Step span = (vs : ℕ → Valuation) × (a : ℕ) × StepShows d span.depth vs a
Solvable d Inv span = (n : ℕ) × (vs : ℕ → Valuation) × (a : ℕ) × Shows d n vs a
Solvable d (Cover k) span = (n : ℕ) × (vs : ℕ → Valuation) × (n ≤ span.depth) × ReachRun d n vs k

-- no statement could be broken or reached; an invariant is asked for all the same
abbrev pub AsksNothing : DesignOf → JobName → Type 0
AsksNothing d (Base i) = asserts d ≡ []
AsksNothing d Step = asserts d ≡ []
AsksNothing d Inv = ⊥
AsksNothing d (Cover k) = covers d ≡ []
