-- What a checker holds.
use Rattle.std.specs.Prelude.{ℕ, Bool, true, false, List, [], ◌∷◌, ◌++◌, ◌||◌}
use Rattle.cnf_form.specs.Cnf.{LitOf, FormulaOf}

-- the clauses that are present, whether an empty clause was admitted, and whether memory ran out
pub record CheckerOf : Type 0 where
  pub vars : ℕ
  pub clauses : List (List LitOf)
  pub refuted : Bool
  pub out_of_memory : Bool

-- a checker that has the clauses of the formula, and admitted none
abbrev pub start : FormulaOf → CheckerOf
start f = record { vars = f.vars; clauses = f.clauses; refuted = false; out_of_memory = false }

-- a clause without literals
abbrev pub is_empty : List LitOf → Bool
is_empty [] = true
is_empty (l ∷ c) = false

-- the checker after it admitted the clause
abbrev pub with_clause : CheckerOf → List LitOf → CheckerOf
with_clause k c = record k { clauses = k.clauses ++ c ∷ []; refuted = k.refuted || is_empty c }
