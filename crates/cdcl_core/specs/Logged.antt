-- The lines of a search.
use Rattle.std.specs.Prelude.{◌≡◌, ◌≢◌, ◌⊎◌, ℕ, ◌+◌, ◌*◌, ◌≤◌, List, [], ◌∷◌, ◌++◌, length, Contains, All}
use Rattle.cnf_form.specs.Cnf.{LitOf, negate, ClauseWithin, IsAdmitted, Deletes, Line, Addition, Deletion}

-- no present clause is a subset of the clause
pub record IsNew (G : List (List LitOf)) (c : List LitOf) : Type 0 where
  pub apart : (e : List LitOf) → Contains G e → ((l : LitOf) → Contains e l → Contains c l) → ⊥

-- the clause has a literal, and none together with its negation
pub record IsContingent (c : List LitOf) : Type 0 where
  pub full : c ≢ []
  pub apart : (l : LitOf) → Contains c l → Contains c (negate l) → ⊥

-- a clause over the variables from 1 to vars, with at most as many literals as these are
pub record IsProper (vars : ℕ) (c : List LitOf) : Type 0 where
  pub within : ClauseWithin vars c
  pub short : length c ≤ vars

-- the clause that a line adds or deletes
abbrev pub clause_of : Line → List LitOf
clause_of (Addition c) = c
clause_of (Deletion c) = c

abbrev pub AreProper : ℕ → List Line → Type 0
AreProper vars lines = All (λ l. IsProper vars (clause_of l)) lines

-- The lines lead from the clauses F to those that are present, after this many additions and deletions: each clause that is added is
-- admitted at its place, new, not empty and no tautology, and at each deletion the deletions are at most half of the additions.
pub data Logged (F : List (List LitOf)) : List Line → List (List LitOf) → ℕ → ℕ → Type 0 where
  none : Logged F [] F 0 0
  added : (lines : List Line) (G : List (List LitOf)) (n d : ℕ) (c : List LitOf) → Logged F lines G n d → IsAdmitted G c → IsNew G c → IsContingent c
      → Logged F (lines ++ Addition c ∷ []) (G ++ c ∷ []) (n + 1) d
  deleted : (lines : List Line) (G H : List (List LitOf)) (n d : ℕ) (c : List LitOf) → Logged F lines G n d → Deletes G c H → 2 * (d + 1) ≤ n
      → Logged F (lines ++ Deletion c ∷ []) H n (d + 1)

-- The line may follow the lines, which lead to the clauses G: they stay logged with it, or it is the empty clause and that is admitted.
abbrev pub MayFollow : List (List LitOf) → List Line → List (List LitOf) → Line → Type 0
MayFollow F lines G l =
    ((H : List (List LitOf)) × (n : ℕ) × (d : ℕ) × Logged F (lines ++ l ∷ []) H n d)
    ⊎ ((l ≡ Addition []) × IsAdmitted G [])

-- how many clauses a list of lines adds, and how many it deletes
abbrev pub additions : List Line → ℕ
additions [] = 0
additions (Addition c ∷ ls) = additions ls + 1
additions (Deletion c ∷ ls) = additions ls

abbrev pub deletions : List Line → ℕ
deletions [] = 0
deletions (Addition c ∷ ls) = deletions ls
deletions (Deletion c ∷ ls) = deletions ls + 1
