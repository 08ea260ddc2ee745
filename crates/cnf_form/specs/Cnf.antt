-- Propositional formulas in conjunctive normal form, unit propagation, and proofs of lines that are additions and deletions (DRUP).
use Rattle.std.specs.Prelude.{◌≡◌, ◌≢◌, ◌⊎◌, ℕ, ◌<◌, ◌≤◌, ◌+◌, ◌*◌, Bool, true, not, if◌then◌else◌, List, [], ◌∷◌, ◌++◌, map, Contains, All}

-- a literal: a variable, or its negation
pub record LitOf : Type 0 where
  pub var : ℕ
  pub negated : Bool

-- the literal of the same variable with the other sign
abbrev pub negate : LitOf → LitOf
negate l = record { var = l.var; negated = not l.negated }

-- the place of a literal in a table that has two places for each variable
abbrev pub index_of : LitOf → ℕ
index_of l = 2 * l.var + (if l.negated then 1 else 0)

-- what is true of each variable
abbrev pub Assignment : Type 0
Assignment = ℕ → Bool

-- what an assignment makes of a literal
abbrev pub lit_in : Assignment → LitOf → Bool
lit_in x l = if l.negated then not (x l.var) else x l.var

-- A clause is a list of literals, read as the set of them: every definition below asks only what it contains.
-- some literal of the clause is true
abbrev pub SatisfiesClause : Assignment → List LitOf → Type 0
SatisfiesClause x c = (l : LitOf) × Contains c l × (lit_in x l ≡ true)

-- each clause has a true literal
abbrev pub Satisfies : Assignment → List (List LitOf) → Type 0
Satisfies x F = (c : List LitOf) → Contains F c → SatisfiesClause x c

-- no assignment satisfies the clauses
abbrev pub IsUnsatisfiable : List (List LitOf) → Type 0
IsUnsatisfiable F = (x : Assignment) → Satisfies x F → ⊥

-- The least set of literals such that, where a clause has all its literals but l negated in the set, l is in it.
pub data Closure (F : List (List LitOf)) : LitOf → Type 0 where
  propagated : (c : List LitOf) (l : LitOf) → Contains F c → Contains c l → ((m : LitOf) → Contains c m → m ≢ l → Closure F (negate m)) → Closure F l

-- the test passes for each literal that unit propagation derives from literals for which it passes
abbrev pub IsClosed : List (List LitOf) → (LitOf → Bool) → Type 0
IsClosed F s = (c : List LitOf) (l : LitOf) → Contains F c → Contains c l → ((m : LitOf) → Contains c m → m ≢ l → s (negate m) ≡ true) → s l ≡ true

-- some clause has all its literals negated in the closure
abbrev pub Conflict : List (List LitOf) → Type 0
Conflict F = (c : List LitOf) × Contains F c × ((l : LitOf) → Contains c l → Closure F (negate l))

-- the unit clauses of the negated literals of a clause
abbrev pub negated_units : List LitOf → List (List LitOf)
negated_units c = map (λ l. negate l ∷ []) c

-- RUP: the clauses with the unit clauses of the negated literals have a conflict
abbrev pub IsAdmitted : List (List LitOf) → List LitOf → Type 0
IsAdmitted F c = Conflict (F ++ negated_units c)

-- two clauses are the same set of literals
pub record SameClause (c d : List LitOf) : Type 0 where
  pub forth : (l : LitOf) → Contains c l → Contains d l
  pub back : (l : LitOf) → Contains d l → Contains c l

-- each clause of F stands in G, as a set
pub record Includes (F G : List (List LitOf)) : Type 0 where
  pub found : (c : List LitOf) → Contains F c → (d : List LitOf) × Contains G d × SameClause c d

-- some literal of the clause is in the closure, and all its others are negated there
abbrev pub IsReason : List (List LitOf) → List LitOf → Type 0
IsReason F c = (l : LitOf) × Contains c l × Closure F l × ((m : LitOf) → Contains c m → m ≢ l → Closure F (negate m))

-- the second list of clauses is the first one without one copy of c
pub data Removes (c : List LitOf) : List (List LitOf) → List (List LitOf) → Type 0 where
  first : (d : List LitOf) (F : List (List LitOf)) → SameClause c d → Removes c (d ∷ F) F
  later : (d : List LitOf) (F G : List (List LitOf)) → Removes c F G → Removes c (d ∷ F) (d ∷ G)

-- a deletion takes one copy out, and does nothing where there is none, at a conflict, or where the clause is a reason
abbrev pub Deletes : List (List LitOf) → List LitOf → List (List LitOf) → Type 0
Deletes F c G = (Removes c F G × (Conflict F → ⊥) × (IsReason F c → ⊥))
    ⊎ ((G ≡ F) × (((d : List LitOf) → Contains F d → SameClause c d → ⊥) ⊎ Conflict F ⊎ IsReason F c))

-- a line of a proof
pub data Line : Type 0 where
  Addition : List LitOf → Line
  Deletion : List LitOf → Line

-- the lines lead from the one list of clauses to the other
abbrev pub Drup : List (List LitOf) → List Line → List (List LitOf) → Type 0
Drup F [] G = G ≡ F
Drup F (Addition c ∷ ls) G = IsAdmitted F c × Drup (F ++ c ∷ []) ls G
Drup F (Deletion c ∷ ls) G = (H : List (List LitOf)) × Deletes F c H × Drup H ls G

-- a formula: its clauses, whose variables are 1 to vars
pub record FormulaOf : Type 0 where
  pub vars : ℕ
  pub clauses : List (List LitOf)

-- the variable is one of 1 to vars
abbrev pub LitWithin : ℕ → LitOf → Type 0
LitWithin vars l = (0 < l.var) × (l.var ≤ vars)

abbrev pub ClauseWithin : ℕ → List LitOf → Type 0
ClauseWithin vars c = All (LitWithin vars) c

abbrev pub Within : ℕ → List (List LitOf) → Type 0
Within vars F = All (ClauseWithin vars) F
