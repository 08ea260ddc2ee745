-- What the solver answers.
use Rattle.std.specs.Prelude.{◌≡◌, ℕ, ◌<◌, ◌+◌, ◌≤◌, Bool, IsTrue, false, List, [], ◌∷◌, length, slice_index_or}
use Rattle.cnf_form.specs.Cnf.{LitOf, FormulaOf, Assignment, Satisfies, IsUnsatisfiable, IsAdmitted}
use Rattle.cdcl_core.specs.declared.solver.Solved.{Solved}
use Rattle.cdcl_core.specs.declared.solver.Solved.TheVariants.{Sat, Unsat, Budget, LogFailed}
use Rattle.cdcl_core.specs.Logged.{Logged}
use Rattle.cdcl_core.specs.Lines.{LogLine, Adds, plain, AreProperLines, IsProperLine, HeldOf, held_first, AreHinted, IsHintedLine, LineFollows}

-- the assignment of a list of values, that of each variable at its number
abbrev pub valued : List Bool → Assignment
valued values v = slice_index_or values v false

-- the log took these lines, one after the other
abbrev pub Takes : {A : Type 0} → (A → LogLine → A → Type 0) → A → List LogLine → A → Type 0
Takes takes before [] now = now ≡ before
Takes takes before (l ∷ ls) now = (next : _) × takes before l next × Takes takes next ls now

-- Lines were logged: this many clauses, each proper, and those of the formula and they are present but for deletions. Where the log is
-- hinted, they lead to these live clauses.
pub record IsSearch {A : Type 0} (takes : A → LogLine → A → Type 0) (hinted : Bool) (f : FormulaOf) (before now : A) (present : List (List LitOf)) (count : ℕ) (held : HeldOf) : Type 0 where
  pub lines : List LogLine
  pub deletions : ℕ
  pub taken : Takes takes before lines now
  pub logged : Logged f.clauses (plain lines) present count deletions
  pub proper : AreProperLines f.vars lines
  pub hints : IsTrue hinted → AreHinted (held_first f.clauses) lines held

-- values that satisfy the formula, found before the budget was spent
pub record IsFound {A : Type 0} (takes : A → LogLine → A → Type 0) (hinted : Bool) (f : FormulaOf) (budget : ℕ) (before now : A) (values : List Bool) : Type 0 where
  pub present : List (List LitOf)
  pub count : ℕ
  pub held : HeldOf
  pub search : IsSearch takes hinted f before now present count held
  pub in_time : count < budget
  pub sized : length values ≡ f.vars + 1
  pub satisfies : Satisfies (valued values) f.clauses

-- no values satisfy the formula, and after what was logged before the budget was spent the log took the empty clause, which is
-- admitted there
pub record IsRefuted {A : Type 0} (takes : A → LogLine → A → Type 0) (hinted : Bool) (f : FormulaOf) (budget : ℕ) (before now : A) : Type 0 where
  pub last : A
  pub present : List (List LitOf)
  pub count : ℕ
  pub held : HeldOf
  pub search : IsSearch takes hinted f before last present count held
  pub in_time : count < budget
  pub id : ℕ
  pub hints : List ℕ
  pub empty : takes last (Adds [] id hints) now
  pub proper : IsProperLine f.vars (Adds [] id hints)
  pub admitted : IsAdmitted present []
  pub is_hinted : IsTrue hinted → IsHintedLine held (Adds [] id hints)
  pub unsatisfiable : IsUnsatisfiable f.clauses

-- as many clauses were logged as the budget has
pub record IsSpent {A : Type 0} (takes : A → LogLine → A → Type 0) (hinted : Bool) (f : FormulaOf) (budget : ℕ) (before now : A) : Type 0 where
  pub present : List (List LitOf)
  pub held : HeldOf
  pub search : IsSearch takes hinted f before now present budget held

-- some lines were logged, before the budget was spent, and then a call of the log failed, for a line that may follow them
pub record IsBroken {A : Type 0} (takes : A → LogLine → A → Type 0) (fails : A → LogLine → A → Type 0) (hinted : Bool) (f : FormulaOf) (budget : ℕ) (before now : A) : Type 0 where
  pub last : A
  pub present : List (List LitOf)
  pub count : ℕ
  pub held : HeldOf
  pub search : IsSearch takes hinted f before last present count held
  pub in_time : count < budget
  pub line : LogLine
  pub follows : LineFollows f.clauses (plain search.lines) present line
  pub proper : IsProperLine f.vars line
  pub is_hinted : IsTrue hinted → IsHintedLine held line
  pub failed : fails last line now

-- some lines were logged, as many clauses as the budget has at most
pub record IsStopped {A : Type 0} (takes : A → LogLine → A → Type 0) (hinted : Bool) (f : FormulaOf) (budget : ℕ) (before now : A) : Type 0 where
  pub present : List (List LitOf)
  pub count : ℕ
  pub held : HeldOf
  pub search : IsSearch takes hinted f before now present count held
  pub within : count ≤ budget

-- what an answer says
abbrev pub SolvedFits : {A : Type 0} → (A → LogLine → A → Type 0) → (A → LogLine → A → Type 0) → Bool → FormulaOf → ℕ → A → A → Solved → Type 0
SolvedFits takes fails hinted f budget before now (Sat values) = IsFound takes hinted f budget before now values.items
SolvedFits takes fails hinted f budget before now Unsat = IsRefuted takes hinted f budget before now
SolvedFits takes fails hinted f budget before now Budget = IsSpent takes hinted f budget before now
SolvedFits takes fails hinted f budget before now LogFailed = IsBroken takes fails hinted f budget before now
