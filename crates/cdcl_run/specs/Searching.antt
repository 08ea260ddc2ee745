-- What a search puts, and how its stream ends.
use Rattle.std.specs.Prelude.{◌≡◌, ◌⊎◌, ℕ, ◌+◌, ◌<◌, ◌≤◌, Bool, IsTrue, true, false, List, [], ◌∷◌, ◌++◌, length, map}
use Rattle.std.specs.List.{range_with_len}
use Rattle.cnf_form.specs.Cnf.{LitOf, FormulaOf, Satisfies, IsAdmitted, Line}
use Rattle.cdcl_core.specs.Logged.{Logged, AreProper}
use Rattle.cdcl_core.specs.Lines.{LogLine, Adds, plain, AreProperLines, IsProperLine, HeldOf, held_first, AreHinted, IsHintedLine, LineFollows}
use Rattle.cdcl_core.specs.Solving.{valued}
use Rattle.cdcl_core.specs.declared.solver.Solved.{Solved}
use Rattle.cdcl_core.specs.declared.solver.Solved.TheVariants.{Sat, Unsat, Budget, LogFailed}
use Rattle.cdcl_run.specs.Output.{OutputOf, Puts, Breaks}
use Rattle.cdcl_run.specs.HintedText.{hinted_line, hinted_text}
use Rattle.cdcl_run.specs.Text.{AreValueLines, literals_from, log_line, log_text, satisfiable_line, unknown_line, unsatisfiable_line}

-- The formula that is searched for one that was read: the same clauses, over no more variables.
pub record IsFitted (read searched : FormulaOf) : Type 0 where
  pub clauses : searched.clauses ≡ read.clauses
  pub fewer : searched.vars ≤ read.vars

-- the value of each variable from 1 to this many
abbrev pub values_to : ℕ → List Bool → List Bool
values_to vars values = map (valued values) (range_with_len 1 vars)

-- the lines of a search, this many of which add clauses, that lead to the present clauses
pub record IsProof (f : FormulaOf) (proof : List Line) (present : List (List LitOf)) (count : ℕ) : Type 0 where
  pub deletions : ℕ
  pub logged : Logged f.clauses proof present count deletions
  pub proper : AreProper f.vars proof

-- the same of a log's lines, which lead to the live clauses where they are hinted
pub record IsLogged (hinted : Bool) (f : FormulaOf) (lines : List LogLine) (present : List (List LitOf)) (count : ℕ) (held : HeldOf) : Type 0 where
  pub deletions : ℕ
  pub logged : Logged f.clauses (plain lines) present count deletions
  pub proper : AreProperLines f.vars lines
  pub hints : IsTrue hinted → AreHinted (held_first f.clauses) lines held

-- the text of a line, and of lines, with hints or without
abbrev pub line_by : Bool → LogLine → List ℕ
line_by false l = log_line l
line_by true l = hinted_line l

abbrev pub text_by : Bool → List LogLine → List ℕ
text_by false ls = log_text ls
text_by true ls = hinted_text ls

-- what a search put, by its answer
abbrev pub Searches : Bool → FormulaOf → ℕ → OutputOf → OutputOf → Solved → Type 0
Searches hinted f budget old new (Sat values) =
    (lines : List LogLine) × (present : List (List LitOf)) × (count : ℕ) × (held : HeldOf) × IsLogged hinted f lines present count held × (count < budget) × Puts old new (text_by hinted lines)
    × (length values.items ≤ f.vars + 1) × Satisfies (valued values.items) f.clauses
Searches hinted f budget old new Unsat =
    (lines : List LogLine) × (present : List (List LitOf)) × (count : ℕ) × (held : HeldOf) × IsLogged hinted f lines present count held × (count < budget)
    × (id : ℕ) × (hints : List ℕ) × Puts old new (text_by hinted (lines ++ Adds [] id hints ∷ [])) × IsAdmitted present [] × IsProperLine f.vars (Adds [] id hints) × (IsTrue hinted → IsHintedLine held (Adds [] id hints))
Searches hinted f budget old new Budget =
    (lines : List LogLine) × (present : List (List LitOf)) × (held : HeldOf) × IsLogged hinted f lines present budget held × Puts old new (text_by hinted lines)
Searches hinted f budget old new LogFailed =
    (lines : List LogLine) × (present : List (List LitOf)) × (count : ℕ) × (held : HeldOf) × IsLogged hinted f lines present count held × (count < budget)
    × (line : LogLine) × LineFollows f.clauses (plain lines) present line × IsProperLine f.vars line × (IsTrue hinted → IsHintedLine held line) × Breaks old new (text_by hinted (lines ++ line ∷ []))

-- what a search put that was stopped by out of memory
abbrev pub Stops : Bool → FormulaOf → ℕ → OutputOf → OutputOf → Type 0
Stops hinted f budget old new =
    (lines : List LogLine) × (present : List (List LitOf)) × (count : ℕ) × (held : HeldOf) × IsLogged hinted f lines present count held × (count ≤ budget) × Puts old new (text_by hinted lines)

-- how the stream of an answer for a formula of this many variables ends, and with which exit status
abbrev pub IsEnd : ℕ → Solved → List ℕ → ℕ → Type 0
IsEnd vars (Sat values) text exit = (exit ≡ 10) × ((lines : List ℕ) × AreValueLines (literals_from 1 (values_to vars values.items)) lines × (text ≡ satisfiable_line ++ lines))
IsEnd vars Unsat text exit = (exit ≡ 20) × (text ≡ unsatisfiable_line)
IsEnd vars Budget text exit = (exit ≡ 0) × (text ≡ unknown_line)
IsEnd vars LogFailed text exit = ⊥

-- The end of an answer's stream was cut short: a search that ended by a fault put nothing more; after another a call failed.
abbrev pub EndBreaks : ℕ → OutputOf → OutputOf → Solved → Type 0
EndBreaks vars old new s =
    ((s ≡ LogFailed) × (new.taken ≡ old.taken) × (new.faults ≡ old.faults))
    ⊎ ((text : List ℕ) × (exit : ℕ) × IsEnd vars s text exit × Breaks old new text)
