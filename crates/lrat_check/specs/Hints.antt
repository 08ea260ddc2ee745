-- Clauses that have ids, and clauses that hints admit (LRAT without negative hints).
use Rattle.std.specs.Prelude.{◌≡◌, ◌≢◌, ◌==◌, ℕ, ◌<◌, zero, suc, Option, Some, None, if◌then◌else◌, List, [], ◌∷◌, ◌++◌, map, Contains, slice_get}
use Rattle.cnf_form.specs.Cnf.{LitOf, negate}

-- the clause that an id has, if it is live
abbrev pub Live : Type 0
Live = ℕ → Option (List LitOf)

-- the clauses of a formula have the ids from 1, in order
abbrev pub numbered : List (List LitOf) → Live
numbered F zero = None
numbered F (suc n) = slice_get F n

-- the id has the clause, or none
abbrev pub put : Live → ℕ → Option (List LitOf) → Live
put live id c n = if id == n then c else live n

-- each literal of the clause is negated among the assigned ones
abbrev pub IsNegated : (LitOf → Type 0) → List LitOf → Type 0
IsNegated assigned c = (m : LitOf) → Contains c m → assigned (negate m)

-- the literal of the clause isn't negated, and each other one is
pub record LeavesOne (assigned : LitOf → Type 0) (c : List LitOf) (l : LitOf) : Type 0 where
  pub contains : Contains c l
  pub left : assigned (negate l) → ⊥
  pub others : (m : LitOf) → Contains c m → m ≢ l → assigned (negate m)

-- some literal stands among L with its negation
abbrev pub IsContradictory : List LitOf → Type 0
IsContradictory L = (l : LitOf) × Contains L l × Contains L (negate l)

-- From the literals L, a set, the hints lead to a contradiction: each hint's clause is a conflict where all its literals are
-- negated among L, adds the one that isn't where all others are, and is passed over where two are not.
pub data Refutes (live : Live) : List LitOf → List ℕ → Type 0 where
  contradiction : (L : List LitOf) (hints : List ℕ) → IsContradictory L → Refutes live L hints
  conflict : (L : List LitOf) (id : ℕ) (hints : List ℕ) (c : List LitOf) → live id ≡ Some c → IsNegated (Contains L) c → Refutes live L (id ∷ hints)
  joins : (L : List LitOf) (id : ℕ) (hints : List ℕ) (c : List LitOf) (l : LitOf) → live id ≡ Some c → LeavesOne (Contains L) c l → Refutes live (L ++ l ∷ []) hints → Refutes live L (id ∷ hints)
  passed_over : (L : List LitOf) (id : ℕ) (hints : List ℕ) (c : List LitOf) → live id ≡ Some c → (IsNegated (Contains L) c → ⊥) → ((l : LitOf) → LeavesOne (Contains L) c l → ⊥) → Refutes live L hints → Refutes live L (id ∷ hints)

-- the hints refute the negations of the clause's literals
abbrev pub IsHinted : Live → List LitOf → List ℕ → Type 0
IsHinted live c hints = Refutes live (map negate c) hints

-- a line of a hinted proof
pub data HintedLine : Type 0 where
  Adds : ℕ → List LitOf → List ℕ → HintedLine
  Deletes : ℕ → HintedLine

-- The lines lead from the live clauses, of which last is the highest id so far, to others. Each hint's clause is live.
abbrev pub HintedProof : Live → ℕ → List HintedLine → Live → Type 0
HintedProof live last [] end = end ≡ live
HintedProof live last (Adds id c hints ∷ ls) end = (last < id) × IsHinted live c hints × HintedProof (put live id (Some c)) id ls end
HintedProof live last (Deletes id ∷ ls) end = HintedProof (put live id None) last ls end

-- the clauses that the lines add, in order
abbrev pub added : List HintedLine → List (List LitOf)
added [] = []
added (Adds id c hints ∷ ls) = c ∷ added ls
added (Deletes id ∷ ls) = added ls
