-- What a checker of hinted proofs holds.
use Rattle.std.specs.Prelude.{◌≡◌, ℕ, Bool, true, false, Some, None, List, [], ◌∷◌, length, ◌||◌, nat_eq}
use Rattle.std.specs.Map.{lookup}
use Rattle.cnf_form.specs.Cnf.{LitOf, FormulaOf}
use Rattle.lrat_check.specs.Hints.{Live, numbered, put}

-- the live clauses with their ids, in no order, the highest id so far, whether an empty clause was admitted, and whether
-- memory ran out
pub record HintedOf : Type 0 where
  pub vars : ℕ
  pub clauses : List (ℕ × List LitOf)
  pub last_id : ℕ
  pub refuted : Bool
  pub out_of_memory : Bool

-- the clause that an id has, if it is live
abbrev pub live_of : HintedOf → Live
live_of h = λ id. lookup (nat_eq id) h.clauses

-- a clause without literals
abbrev pub is_empty : List LitOf → Bool
is_empty [] = true
is_empty (l ∷ c) = false

-- a checker that has the clauses of the formula, and admitted none
pub record Starts (f : FormulaOf) (h : HintedOf) : Type 0 where
  pub vars : h.vars ≡ f.vars
  pub live : live_of h ≡ numbered f.clauses
  pub last_id : h.last_id ≡ length f.clauses
  pub refuted : h.refuted ≡ false
  pub out_of_memory : h.out_of_memory ≡ false

-- the second checker is the first one after it admitted the clause under the id
pub record HasAdded (id : ℕ) (c : List LitOf) (old new : HintedOf) : Type 0 where
  pub live : live_of new ≡ put (live_of old) id (Some c)
  pub rest : new ≡ record old { clauses = new.clauses; last_id = id; refuted = old.refuted || is_empty c }

-- the second checker is the first one without the clause of the id, if it had one
pub record HasDeleted (id : ℕ) (old new : HintedOf) : Type 0 where
  pub live : live_of new ≡ put (live_of old) id None
  pub rest : new ≡ record old { clauses = new.clauses }
