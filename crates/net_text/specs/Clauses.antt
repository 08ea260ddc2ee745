-- The clauses of an encoding's formula, from a place on.
use Rattle.std.specs.Prelude.{◌≡◌, ℕ, zero, suc, ◌<◌, List, [], ◌∷◌, ◌++◌, length, drop, Some, slice_get}
use Rattle.clause_source.specs.declared.Place.{Place}
use Rattle.cnf_form.specs.Cnf.{LitOf}
use Rattle.gate_graph.specs.declared.gate.Gate.{Gate}
use Rattle.gate_graph.specs.Folding.{clauses_of}
use Rattle.net_unroll.specs.Encoding.{EncodedOf, formula_of}

-- the clauses of gates, without the first k of the first gate, and the goals
abbrev pub gates_left : List (Gate × LitOf) → List LitOf → ℕ → List (List LitOf)
gates_left [] goals k = drop k (goals ∷ [])
gates_left (x ∷ es) goals k = drop k (clauses_of x.1 x.0) ++ gates_left es goals 0

-- the clauses from a place on: part 0 begins with the first one, part g + 1 with those of gate g, and the last part with the goals
abbrev pub clauses_left : EncodedOf → ℕ → ℕ → List (List LitOf)
clauses_left e zero k = (formula_of e).clauses
clauses_left e (suc g) k = gates_left (drop g e.gates) e.goals k

-- the first place of the first part, or one of a clause of a gate, or after the gates
abbrev pub IsPlaceOf : EncodedOf → ℕ → ℕ → Type 0
IsPlaceOf e zero k = k ≡ 0
IsPlaceOf e (suc g) k = (x : Gate × LitOf) → slice_get e.gates g ≡ Some x → k < length (clauses_of x.1 x.0)

-- the place is that of clause n, counted from 0, or the end
pub record IsAt (e : EncodedOf) (p : Place) (n : ℕ) : Type 0 where
  pub place : IsPlaceOf e p.part p.within
  pub left : drop n (formula_of e).clauses ≡ clauses_left e p.part p.within
