-- The clauses that are present: those that are watched, and those that are frozen.
use Rattle.std.specs.Prelude.{List, [], ◌∷◌, ◌++◌}
use Rattle.cnf_form.specs.Cnf.{LitOf}
use Rattle.unit_propagation.specs.Propagator.{PropagatorOf, clauses_of}
use Rattle.frozen_clauses.specs.Frozen.{FrozenOf}

-- all clauses that are present
abbrev pub all_of : PropagatorOf → FrozenOf → List (List LitOf)
all_of p z = clauses_of p.slots ++ clauses_of z.slots

-- the second list is the first with the clause inserted somewhere
pub data Inserts (c : List LitOf) : List (List LitOf) → List (List LitOf) → Type 0 where
  front : (F : List (List LitOf)) → Inserts c F (c ∷ F)
  later : (d : List LitOf) (F G : List (List LitOf)) → Inserts c F G → Inserts c (d ∷ F) (d ∷ G)

-- the second list has the clauses of the first, in some order
pub data Reorders : List (List LitOf) → List (List LitOf) → Type 0 where
  empty : Reorders [] []
  placed : (c : List LitOf) (F G H : List (List LitOf)) → Reorders F G → Inserts c G H → Reorders (c ∷ F) H

-- each order of the first list is one of the second, so that they have the same clauses
pub record SameOrders (F G : List (List LitOf)) : Type 0 where
  pub forth : (H : List (List LitOf)) → Reorders F H → Reorders G H
