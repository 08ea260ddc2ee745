-- Unit propagation over a trail: the literals that are true, in the order in which they became so.
use Rattle.std.specs.Prelude.{◌≡◌, ◌≢◌, List, ◌++◌, Contains}
use Rattle.cnf_form.specs.Cnf.{LitOf, negate, Closure}

-- no literal is true together with its negation
pub record IsConsistent (t : List LitOf) : Type 0 where
  pub apart : (l : LitOf) → Contains t l → Contains t (negate l) → ⊥

-- neither the literal nor its negation is true
pub record IsUnassigned (t : List LitOf) (l : LitOf) : Type 0 where
  pub not_true : Contains t l → ⊥
  pub not_false : Contains t (negate l) → ⊥

-- some literal of the clause is true
pub record IsSatisfied (t : List LitOf) (c : List LitOf) : Type 0 where
  pub lit : LitOf
  pub contains : Contains c lit
  pub on : Contains t lit

-- the negation of each literal of the clause is true
pub record IsFalsified (t : List LitOf) (c : List LitOf) : Type 0 where
  pub each : (l : LitOf) → Contains c l → Contains t (negate l)

-- each literal of the clause but one is false
pub record IsFalsifiedBut (t : List LitOf) (c : List LitOf) (other : LitOf) : Type 0 where
  pub each : (m : LitOf) → Contains c m → m ≢ other → Contains t (negate m)

-- unit propagation has nothing to do at the clause
pub record IsSettled (t : List LitOf) (c : List LitOf) : Type 0 where
  pub not_falsified : IsFalsified t c → ⊥
  pub closed : (l : LitOf) → Contains c l → IsFalsifiedBut t c l → Contains t l

-- unit propagation has nothing to do
abbrev pub IsFixpoint : List LitOf → List (List LitOf) → Type 0
IsFixpoint t F = (c : List LitOf) → Contains F c → IsSettled t c

-- some clause is falsified
abbrev pub HasFalsified : List LitOf → List (List LitOf) → Type 0
HasFalsified t F = (c : List LitOf) × Contains F c × IsFalsified t c

-- each true literal is in the closure
pub record IsDerived (F : List (List LitOf)) (t : List LitOf) : Type 0 where
  pub each : (l : LitOf) → Contains t l → Closure F l

-- each clause of F stands in G
pub record ContainsAll (F G : List (List LitOf)) : Type 0 where
  pub each : (c : List LitOf) → Contains F c → Contains G c

-- The trail grows by unit propagation alone: from whatever clauses have those of F, and derive what was true, the rest follows. It stays
-- consistent.
pub record Propagates (F : List (List LitOf)) (s t : List LitOf) : Type 0 where
  pub added : List LitOf
  pub grown : t ≡ s ++ added
  pub derived : (G : List (List LitOf)) → ContainsAll F G → IsDerived G s → IsDerived G t
  pub consistent : IsConsistent s → IsConsistent t
