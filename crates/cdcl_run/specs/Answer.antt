-- What the stream says of a formula, with hints or without.
use Rattle.std.specs.Prelude.{◌≡◌, ◌⊎◌, ℕ, ◌^◌, ◌-◌, ◌<◌, ◌≤◌, List, [], ◌∷◌, ◌++◌, Bool, IsTrue, true, false, length, Option, Some, None}
use Rattle.cnf_form.specs.Cnf.{LitOf, FormulaOf, IsAdmitted}
use Rattle.cnf_form.specs.Dimacs.{IsDimacs}
use Rattle.cdcl_core.specs.Lines.{LogLine, Adds, HeldOf, IsHintedLine}
use Rattle.sby_terms.specs.declared.names.Answer.{Answer}
use Rattle.sby_terms.specs.declared.names.Answer.TheVariants.{Sat as SatAnswer, Unsat as UnsatAnswer}
use Rattle.cert_judge.specs.DrupCert.{IsCert}
use Rattle.cert_judge.specs.LratCert.{IsHintedCert}
use Rattle.cdcl_run.specs.Searching.{IsLogged, text_by}
use Rattle.cdcl_run.specs.Text.{line, literals_from, satisfiable_line, unsatisfiable_line, unknown_line, AreValueLines}

-- the most conflicts: without a number the greatest u64
abbrev pub budget_of : Option ℕ → ℕ
budget_of None = 2 ^ 64 - 1
budget_of (Some n) = n

-- a certificate, with hints or without
abbrev pub IsCertBy : Bool → List ℕ → List ℕ → Answer → Type 0
IsCertBy false = IsCert
IsCertBy true = IsHintedCert

-- The lines of a search for values of the formula that a job's file is: this many clauses were added, facts not counted, each admitted at its
-- place, new, not empty and no tautology, and at each deletion the deletions are at most half of the additions. With hints, each line's are
-- live and admit its clause, and each deleted clause is that of its id.
pub record IsSearched (hinted : Bool) (job : List ℕ) (lines : List LogLine) (count : ℕ) : Type 0 where
  pub formula : FormulaOf
  pub is_formula : IsDimacs job formula
  pub present : List (List LitOf)
  pub held : HeldOf
  pub logged : IsLogged hinted formula lines present count held

-- A stream that begins with a certificate for Unsat and a line feed: the lines of a search, the empty clause, which is admitted after
-- them, by its hints where there are any, and a last line that says so.
pub record IsUnsatStream (hinted : Bool) (job : List ℕ) (budget : ℕ) (stream : List ℕ) : Type 0 where
  pub cert : List ℕ
  pub rest : List ℕ
  pub begins : stream ≡ cert ++ 10 ∷ rest
  pub is_cert : IsCertBy hinted job cert UnsatAnswer
  pub lines : List LogLine
  pub count : ℕ
  pub searched : IsSearched hinted job lines count
  pub in_time : count < budget
  pub id : ℕ
  pub hints : List ℕ
  pub admitted : IsAdmitted searched.present []
  pub is_hinted : IsTrue hinted → IsHintedLine searched.held (Adds [] id hints)
  pub is : stream ≡ text_by hinted (lines ++ Adds [] id hints ∷ []) ++ unsatisfiable_line

-- A stream that is a certificate for Sat and a line feed: the lines of a search, a line that says so, and the lines of a value for each
-- variable.
pub record IsSatStream (hinted : Bool) (job : List ℕ) (budget : ℕ) (stream : List ℕ) : Type 0 where
  pub cert : List ℕ
  pub whole : stream ≡ line cert
  pub is_cert : IsCertBy hinted job cert SatAnswer
  pub lines : List LogLine
  pub count : ℕ
  pub searched : IsSearched hinted job lines count
  pub in_time : count < budget
  pub values : List Bool
  pub each : length values ≡ searched.formula.vars
  pub text : List ℕ
  pub value_lines : AreValueLines (literals_from 1 values) text
  pub is : stream ≡ text_by hinted lines ++ (satisfiable_line ++ text)

-- a stream of the lines of a search that adds as many clauses as the budget has, and of a last line that says that it doesn't know
pub record IsUnknownStream (hinted : Bool) (job : List ℕ) (budget : ℕ) (stream : List ℕ) : Type 0 where
  pub lines : List LogLine
  pub searched : IsSearched hinted job lines budget
  pub is : stream ≡ text_by hinted lines ++ unknown_line

-- a text of the lines of a search that adds at most as many clauses as the budget has
pub record IsSearchText (hinted : Bool) (job : List ℕ) (budget : ℕ) (text : List ℕ) : Type 0 where
  pub lines : List LogLine
  pub count : ℕ
  pub searched : IsSearched hinted job lines count
  pub within : count ≤ budget
  pub is : text ≡ text_by hinted lines

-- the stream with which the program ends with an exit status
abbrev pub IsAnswer : Bool → List ℕ → ℕ → List ℕ → ℕ → Type 0
IsAnswer hinted job budget stream exit =
    ((exit ≡ 20) × IsUnsatStream hinted job budget stream) ⊎ ((exit ≡ 10) × IsSatStream hinted job budget stream) ⊎ ((exit ≡ 0) × IsUnknownStream hinted job budget stream)
