-- A search on its way: the solver's state, and how far its log leads.
use Rattle.std.specs.Prelude.{◌≡◌, ◌≢◌, ℕ, ◌<◌, ◌+◌, ◌≤◌, Bool, IsTrue, false, List, [], length, Option, Some, None}
use Rattle.cnf_form.specs.Cnf.{LitOf, FormulaOf, ClauseWithin, IsAdmitted, Satisfies}
use Rattle.sby_edge.specs.Cause.{Rose}
use Rattle.unit_propagation.specs.Propagation.{ContainsAll, IsFixpoint}
use Rattle.unit_propagation.specs.Propagator.{PropagatorOf, clauses_of}
use Rattle.frozen_clauses.specs.Frozen.{FrozenOf}
use Rattle.cdcl_core.specs.Present.{all_of, Reorders, SameOrders}
use Rattle.cdcl_core.specs.Levels.{IsJustified, IsPending, base_of}
use Rattle.hint_chain.specs.Ids.{IsNamed}
use Rattle.cdcl_core.specs.Lines.{LogLine, HeldOf}
use Rattle.cdcl_core.specs.Logged.{IsNew, IsContingent, IsProper}
use Rattle.cdcl_core.specs.Analysis.{IsUnmarked, IsLearnt}
use Rattle.cdcl_core.specs.Solving.{IsSearch, IsStopped, IsBroken, SolvedFits, valued}
use Rattle.cdcl_core.specs.declared.solver.Solver.{Solver}
use Rattle.cdcl_core.specs.declared.solver.Solved.{Solved}
use Rattle.cdcl_core.specs.declared.solver.Solved.TheVariants.{Sat, Unsat, Budget, LogFailed}
use Rattle.cdcl_core.specs.declared.solver.Step.{Step}
use Rattle.cdcl_core.specs.declared.solver.Step.TheVariants.{Answered, Learnt, Thawed}
use Rattle.cdcl_core.specs.declared.stop.Stop.{Stop}
use Rattle.cdcl_core.specs.declared.stop.Stop.TheVariants.{OutOfMemory, Failed}

-- What is true of a solver between two of its calls: frozen clauses are over its variables, no literal is marked, each level follows
-- from its decision, and a falsified clause is known.
pub record IsSolver (s : Solver) : Type 0 where
  pub frozen : s.frozen.vars ≡ s.core.vars
  pub unmarked : IsUnmarked s.core.vars s.analysis.seen.items s.analysis.lower.items s.analysis.current.items
  pub justified : IsJustified s.core
  pub pending : IsPending s.core s.pending

-- it is at level 0, with nothing left to do at any present clause
pub record IsAtRest (s : Solver) : Type 0 where
  pub level : s.core.limits ≡ []
  pub conflict : s.core.conflict ≡ false
  pub settled : IsFixpoint s.core.trail (clauses_of s.frozen.slots)

-- all clauses that are present
abbrev pub present_of : Solver → List (List LitOf)
present_of s = all_of s.core s.frozen

-- it has the formula's variables
abbrev pub IsOf : FormulaOf → Solver → Type 0
IsOf f s = s.core.vars ≡ f.vars

-- lines were logged that lead to these clauses, in some order, and, where the log is hinted, to these live ones: this many additions and deletions
pub record IsHeld {A : Type 0} (takes : A → LogLine → A → Type 0) (hinted : Bool) (f : FormulaOf) (first now : A) (present : List (List LitOf)) (count deleted : ℕ) (held : HeldOf) : Type 0 where
  pub order : List (List LitOf)
  pub reorders : Reorders present order
  pub search : IsSearch takes hinted f first now order count held
  pub deletions : search.deletions ≡ deleted

-- where ids are wanted, a solver has those of the live clauses
abbrev pub IsNamedBy : HeldOf → Solver → Type 0
IsNamedBy h s = IsTrue s.ids.wanted → IsNamed h.live s.core.slots s.frozen.slots s.ids × (s.ids.last ≡ h.last)

-- what a log took since it was begun leads from a formula to a solver's clauses
pub record HasLogged {A : Type 0} (takes : A → LogLine → A → Type 0) (f : FormulaOf) (first now : A) (s : Solver) : Type 0 where
  pub of : IsOf f s
  pub live : HeldOf
  pub held : IsHeld takes s.ids.wanted f first now (present_of s) s.conflicts s.deletions live
  pub named : IsNamedBy live s

-- What was logged since a solver's old state leads on to its new one; no call of the log failed the less.
pub record Leads {A : Type 0} (takes : A → LogLine → A → Type 0) (faults : A → ℕ) (old new : Solver) (now next : A) : Type 0 where
  pub on : (f : FormulaOf) (first : A) → HasLogged takes f first now old → HasLogged takes f first next new
  pub wanted : new.ids.wanted ≡ old.ids.wanted
  pub later : faults now ≤ faults next

-- the same where clauses were only moved between the watched and the frozen ones
pub record Moves (old new : Solver) : Type 0 where
  pub vars : new.core.vars ≡ old.core.vars
  pub orders : SameOrders (present_of old) (present_of new)
  pub conflicts : new.conflicts ≡ old.conflicts
  pub deletions : new.deletions ≡ old.deletions
  pub wanted : new.ids.wanted ≡ old.ids.wanted
  pub named : (h : HeldOf) → IsNamedBy h old → IsNamedBy h new

-- the same of a reduction: no clause is learnt in it, and it leaves the solver at rest
pub record Reduces {A : Type 0} (takes : A → LogLine → A → Type 0) (faults : A → ℕ) (old new : Solver) (now next : A) : Type 0 where
  pub leads : Leads takes faults old new now next
  pub solver : IsSolver new
  pub rest : IsAtRest new
  pub conflicts : new.conflicts ≡ old.conflicts

-- why a search stops without an answer, where the log led to a solver's old state before the budget was spent
abbrev pub Stops : {A : Type 0} → (A → LogLine → A → Type 0) → (A → LogLine → A → Type 0) → (A → ℕ) → Solver → A → A → Stop → Type 0
Stops takes fails faults old now next OutOfMemory =
    (f : FormulaOf) (first : _) (budget : ℕ) → old.conflicts < budget → HasLogged takes f first now old → IsStopped takes old.ids.wanted f budget first next
Stops takes fails faults old now next Failed =
    ((f : FormulaOf) (first : _) (budget : ℕ) → old.conflicts < budget → HasLogged takes f first now old → IsBroken takes fails old.ids.wanted f budget first next)
    × Rose (faults now) (faults next)

-- clauses were added before the budget was spent
pub record Grows {A : Type 0} (takes : A → LogLine → A → Type 0) (faults : A → ℕ) (budget : ℕ) (old new : Solver) (now next : A) : Type 0 where
  pub leads : Leads takes faults old new now next
  pub more : old.conflicts ≤ new.conflicts
  pub in_time : new.conflicts < budget

-- how a search ended that stopped
abbrev pub EndsBy : {A : Type 0} → (A → LogLine → A → Type 0) → (A → LogLine → A → Type 0) → Bool → FormulaOf → ℕ → A → A → Stop → Type 0
EndsBy takes fails hinted f budget first now OutOfMemory = IsStopped takes hinted f budget first now
EndsBy takes fails hinted f budget first now Failed = IsBroken takes fails hinted f budget first now

-- values that are an answer satisfy the formula
abbrev pub AreRight : FormulaOf → Solved → Type 0
AreRight f (Sat values) = Satisfies (valued values.items) f.clauses
AreRight f Unsat = Unit {0}
AreRight f Budget = Unit {0}
AreRight f LogFailed = Unit {0}

-- so, where a step ends with an answer
abbrev pub IsRight : FormulaOf → Step → Type 0
IsRight f (Answered s) = AreRight f s
IsRight f Learnt = Unit {0}
IsRight f Thawed = Unit {0}

-- how it did, from where the log led to a solver's old state
pub record Ended {A : Type 0} (takes : A → LogLine → A → Type 0) (fails : A → LogLine → A → Type 0) (faults : A → ℕ) (budget : ℕ) (old : Solver) (now next : A) (e : Stop) : Type 0 where
  pub ends : (f : FormulaOf) (first : A) → HasLogged takes f first now old → EndsBy takes fails old.ids.wanted f budget first next e
  pub cause : e ≡ Failed → Rose (faults now) (faults next)

-- the result of a step: an answer, where its values are right, one more clause that was learnt, or a frozen one that was thawed
abbrev pub StepFits : {A : Type 0} → (A → LogLine → A → Type 0) → (A → LogLine → A → Type 0) → (A → ℕ) → Solver → Solver → A → A → Step → Type 0
StepFits takes fails faults old new now next (Answered s) =
    (s ≢ LogFailed) × ((f : FormulaOf) (first : _) (budget : ℕ) → old.conflicts < budget → HasLogged takes f first now old → AreRight f s → SolvedFits takes fails old.ids.wanted f budget first next s)
StepFits takes fails faults old new now next Learnt = Leads takes faults old new now next × (new.conflicts ≡ old.conflicts + 1)
StepFits takes fails faults old new now next Thawed =
    Leads takes faults old new now next × (new.conflicts ≡ old.conflicts)
    × (length (clauses_of new.frozen.slots) < length (clauses_of old.frozen.slots))

-- where a clause is added: at level 0, or above it, where it makes its first literal true
abbrev pub IsPlaced : PropagatorOf → List LitOf → Option LitOf → Type 0
IsPlaced p c None = (p.limits ≡ []) × IsPending p None × ClauseWithin p.vars c
IsPlaced p c (Some first) = (0 < length p.limits) × IsLearnt p (base_of p) c first

-- frozen clauses are the watched ones, and maybe more
pub record IsIndexed (p : PropagatorOf) (index : FrozenOf) : Type 0 where
  pub vars : index.vars ≡ p.vars
  pub all : ContainsAll (clauses_of p.slots) (clauses_of index.slots)

-- a clause that may be logged and added: the watched clauses admit it, no present one is a subset of it, and it is neither empty nor a tautology
pub record IsAddable (p : PropagatorOf) (z : FrozenOf) (c : List LitOf) : Type 0 where
  pub admitted : IsAdmitted (clauses_of p.slots) c
  pub new : IsNew (all_of p z) c
  pub contingent : IsContingent c
  pub proper : IsProper p.vars c
