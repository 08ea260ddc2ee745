-- What is promised of a job's clauses.
use Rattle.std.specs.Prelude.{◌≡◌, ◌⊎◌, ℕ, suc, ◌<◌, ◌≤◌, Bool, false, List, [], ◌∷◌, ◌++◌, length, Contains, All, Some, slice_get}
use Rattle.cnf_form.specs.Cnf.{LitOf, FormulaOf, Assignment, Satisfies, Closure, Conflict}
use Rattle.model_core.specs.Shape.{ModelOf}
use Rattle.model_core.specs.Meaning.{Cycle}
use Rattle.model_core.specs.Claims.{Shows, ReachRun}
use Rattle.model_core.specs.Choices.{ChoicesOf, Plays, open_states}
use Rattle.sby_terms.specs.declared.names.JobName.{JobName}
use Rattle.sby_terms.specs.declared.names.JobName.TheVariants.{Base, Step, Inv, Cover}
use Rattle.sby_terms.specs.declared.span.Span.{Span}
use Rattle.job_terms.specs.First.{open_at}
use Rattle.job_terms.specs.Decoding.{DecodingOf, decoded_by}
use Rattle.job_terms.specs.Jobs.{IsGoal, MayEnd, first, frames}

-- an encoded job: its formula, the variables on which all others rest, and what tells the choices for a run
pub record EncodedOf : Type 0 where
  pub formula : FormulaOf
  pub free_vars : List ℕ
  pub decoding : DecodingOf

abbrev pub decoded : EncodedOf → Assignment → ChoicesOf
decoded e x = decoded_by e.decoding x

abbrev pub CanBeSatisfied : FormulaOf → Type 0
CanBeSatisfied f = (x : Assignment) × Satisfies x f.clauses

-- one variable and the empty clause
abbrev pub empty_job : FormulaOf
empty_job = record { vars = 1; clauses = [] ∷ [] }

-- a unit clause among these fixes the variable
abbrev pub IsFixedByUnit : List (List LitOf) → ℕ → Type 0
IsFixedByUnit F v = (b : Bool) × Contains F (record { var = v; negated = b } ∷ [])

-- the closure under unit propagation fixes the variable
abbrev pub IsFixed : List (List LitOf) → ℕ → Type 0
IsFixed F v = (b : Bool) × Closure F (record { var = v; negated = b })

-- Where every free variable is fixed by a unit clause, whatever else is added, unit propagation finds a conflict or fixes every
-- variable.
pub record Propagates (e : EncodedOf) : Type 0 where
  pub rule : (more : List (List LitOf)) → ((v : ℕ) → Contains e.free_vars v → IsFixedByUnit (e.formula.clauses ++ more) v)
      → Conflict (e.formula.clauses ++ more) ⊎ ((v : ℕ) → 0 < v → v ≤ e.formula.vars → IsFixed (e.formula.clauses ++ more) v)

-- what a free variable stands for: a state bit in the first frame, or an input in frame t, by its place
pub data Origin : Type 0 where
  First : ℕ → Origin
  Input : ℕ → ℕ → Origin

-- what a free variable of a job may stand for
abbrev pub IsOrigin : ModelOf → JobName → Span → Origin → Type 0
IsOrigin m job span (First p) = Contains (open_at (first job) m) p
IsOrigin m job span (Input t p) = (t < frames job span) × Contains m.inputs p

abbrev pub AreDistinct : {A : Type 0} → List A → Type 0
AreDistinct xs = (i j : ℕ) (x : _) → slice_get xs i ≡ Some x → slice_get xs j ≡ Some x → i ≡ j

-- in n cycles, what a free variable stands for has this value
abbrev pub HasValue : (ℕ → Cycle) → ℕ → Origin → Bool → Type 0
HasValue cs n (First p) z = cs 0 p ≡ z
HasValue cs n (Input t p) z = t < n → cs t p ≡ z

-- what is open in a run of n cycles
abbrev pub IsOpenIn : ModelOf → ℕ → Origin → Type 0
IsOpenIn m n (First p) = Contains (open_states m) p
IsOpenIn m n (Input t p) = (t < n) × Contains m.inputs p

-- Each free variable is of the formula and stands for a bit that the job leaves free, no two for one bit. A run with the choices that an
-- assignment tells has there what the assignment says, and 0 at what is open and has no variable; of Step no choices are told.
pub record HasOrigins (m : ModelOf) (job : JobName) (span : Span) (e : EncodedOf) : Type 0 where
  pub distinct : AreDistinct e.free_vars
  pub within : All (λ v. (0 < v) × (v ≤ e.formula.vars)) e.free_vars
  pub origins : List Origin
  pub each : length origins ≡ length e.free_vars
  pub apart : AreDistinct origins
  pub free : All (IsOrigin m job span) origins
  pub values : (job ≡ Step → ⊥) → (x : Assignment) → Satisfies x e.formula.clauses → (cs : ℕ → Cycle) → Plays m (decoded e x) cs →
      (k v : ℕ) (o : Origin) → slice_get e.free_vars k ≡ Some v → slice_get origins k ≡ Some o → HasValue cs (length (decoded e x).inputs) o (x v)
  pub rest : (job ≡ Step → ⊥) → (x : Assignment) → Satisfies x e.formula.clauses → (cs : ℕ → Cycle) → Plays m (decoded e x) cs →
      (o : Origin) → IsOpenIn m (length (decoded e x).inputs) o → ¬ Contains origins o → HasValue cs (length (decoded e x).inputs) o false

-- what a run shows whose last cycle is the job's goal
abbrev pub ShowsGoal : ModelOf → JobName → ℕ → (ℕ → Cycle) → Type 0
ShowsGoal m (Base i) n cs = (a : ℕ) × Shows m n cs a
ShowsGoal m Step n cs = ⊥
ShowsGoal m Inv n cs = (a : ℕ) × Shows m n cs a
ShowsGoal m (Cover k) n cs = ReachRun m n cs k

-- What an assignment that satisfies the formula of Base or Cover is decoded to: choices for a run that shows the job's goal, its last cycle
-- the first of those that count in which it is.
pub record IsDecoded (m : ModelOf) (job : JobName) (span : Span) (c : ChoicesOf) : Type 0 where
  pub plays : (cs : ℕ → Cycle) × Plays m c cs
  pub ends : (t : ℕ) → suc t ≡ length c.inputs → MayEnd job span t
  pub shows : (cs : ℕ → Cycle) → Plays m c cs → ShowsGoal m job (length c.inputs) cs
  pub before : (cs : ℕ → Cycle) → Plays m c cs → (t : ℕ) → suc t < length c.inputs → MayEnd job span t → IsGoal m job (cs t) → ⊥
