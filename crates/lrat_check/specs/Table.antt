-- A table of clauses whose ids rise.
use Rattle.std.specs.Prelude.{◌≡◌, ℕ, ◌<◌, ◌≤◌, Option, Some, None, cond, eqb, nat_eq, List, [], ◌∷◌, length, slice_index_or, Contains}
use Rattle.std.specs.Map.{lookup}
use Rattle.cnf_form.specs.Cnf.{LitOf}

-- an id, and its clause until that is deleted
pub record Entry : Type 0 where
  pub id : ℕ
  pub clause : Option (List LitOf)

-- an entry before others, if it has a clause
abbrev pub with_entry : ℕ → Option (List LitOf) → List (ℕ × List LitOf) → List (ℕ × List LitOf)
with_entry id (Some c) rest = (id, c) ∷ rest
with_entry id None rest = rest

-- the clauses that are there, with their ids
abbrev pub present : List Entry → List (ℕ × List LitOf)
present [] = []
present (e ∷ es) = with_entry e.id e.clause (present es)

-- the clause that an id has among them
abbrev pub held : List Entry → ℕ → Option (List LitOf)
held es id = lookup (nat_eq id) (present es)

-- the clause of the entry that has the id
abbrev pub found : List Entry → ℕ → Option (List LitOf)
found [] id = None
found (e ∷ es) id = cond (eqb e.id id) e.clause (found es id)

-- each id is below those after it
abbrev pub IsRising : List Entry → Type 0
IsRising [] = Unit {0}
IsRising (e ∷ es) = ((f : Entry) → Contains es f → e.id < f.id) × IsRising es

-- no id is above this one
abbrev pub IsUpto : List Entry → ℕ → Type 0
IsUpto es last = (e : Entry) → Contains es e → e.id ≤ last

-- the entry at the place has the id, and what the id has is its clause
pub record IsPlaceOf (es : List Entry) (id k : ℕ) : Type 0 where
  pub within : k < length es
  pub at : (d : Entry) → (slice_index_or es k d).id ≡ id
  pub has : (d : Entry) → held es id ≡ (slice_index_or es k d).clause
