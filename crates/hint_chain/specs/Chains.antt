-- Chains of hints.
use Rattle.std.specs.Prelude.{◌≡◌, ℕ, ◌≤◌, List, ◌++◌, length, map, All, Option, Some, Contains}
use Rattle.cnf_form.specs.Cnf.{LitOf, negate}
use Rattle.lrat_check.specs.Hints.{Live, Refutes}
use Rattle.lrat_check.specs.Marks.{IsConsistent}
use Rattle.hint_chain.specs.Ids.{IdsOf, IsNamed}

-- each id is that of a live clause
abbrev pub AreLive : Live → List ℕ → Type 0
AreLive live ids = All (λ id. (c : List LitOf) × (live id ≡ Some c)) ids

-- The hints are of live clauses and refute the literals, whatever is live where these clauses have these ids.
pub record Ends (slots : List (Option (List LitOf))) (ids : IdsOf) (start : List LitOf) (hints : List ℕ) : Type 0 where
  pub live : (live : Live) (zs : List (Option (List LitOf))) → IsNamed live slots zs ids → AreLive live hints
  pub refutes : (live : Live) (zs : List (Option (List LitOf))) → IsNamed live slots zs ids → Refutes live start hints

-- they admit the clause
abbrev pub Hints : List (Option (List LitOf)) → IdsOf → List LitOf → List ℕ → Type 0
Hints slots ids c hints = Ends slots ids (map negate c) hints

-- the hints lead from the first literals to the second
pub record Reaches (slots : List (Option (List LitOf))) (ids : IdsOf) (start : List LitOf) (hints : List ℕ) (now : List LitOf) : Type 0 where
  pub live : (live : Live) (zs : List (Option (List LitOf))) → IsNamed live slots zs ids → AreLive live hints
  pub leads : (live : Live) (zs : List (Option (List LitOf))) → IsNamed live slots zs ids → (rest : List ℕ) → Refutes live now rest → Refutes live start (hints ++ rest)

-- more hints make more literals true
pub record Goes (slots : List (Option (List LitOf))) (ids : IdsOf) (hints hints' : List ℕ) (t t' : List LitOf) : Type 0 where
  pub reaches : (start : List LitOf) → Reaches slots ids start hints t → Reaches slots ids start hints' t'
  pub keeps : (l : LitOf) → Contains t l → Contains t' l
  pub consistent : IsConsistent t → IsConsistent t'
  pub longer : length t ≤ length t'
  pub same : length t' ≡ length t → t' ≡ t
