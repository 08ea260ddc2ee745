-- Ids of clauses by their places.
use Rattle.std.specs.Prelude.{◌≡◌, ◌≢◌, ℕ, ◌≤◌, Bool, IsTrue, List, [], ◌∷◌, length, Option, Some, slice_index_or}
use Rattle.cnf_form.specs.Cnf.{LitOf, index_of}
use Rattle.unit_propagation.specs.Propagator.{slot_at}
use Rattle.lrat_check.specs.Hints.{Live}

-- where a clause stands that has an id: among the watched or the frozen ones, at its number, or as the unit clause of a literal, a fact
pub data Place : Type 0 where
  Watched : ℕ → Place
  Frozen : ℕ → Place
  Fact : LitOf → Place

-- whether ids are wanted, the highest so far, and those of watched and frozen clauses by their numbers, and of facts by their literals' places
pub record IdsOf : Type 0 where
  pub wanted : Bool
  pub last : ℕ
  pub watched : List ℕ
  pub frozen : List ℕ
  pub facts : List ℕ

-- the id at a place, 0 where there is none
abbrev pub id_at : List ℕ → ℕ → ℕ
id_at ids place = slice_index_or ids place 0

-- the id is that of a live clause, which stands at this place
abbrev pub Names : Live → (ℕ → Place) → ℕ → List LitOf → Place → Type 0
Names live owner id c place = (live id ≡ Some c) × (owner id ≡ place)

-- Each clause is live under its id, each fact too, and no two have the same id.
pub record IsNamed (live : Live) (slots zs : List (Option (List LitOf))) (ids : IdsOf) : Type 0 where
  pub owner : ℕ → Place
  pub watched_sized : length ids.watched ≡ length slots
  pub frozen_sized : length ids.frozen ≡ length zs
  pub watched : (k : ℕ) (c : List LitOf) → slot_at slots k ≡ Some c → Names live owner (id_at ids.watched k) c (Watched k)
  pub frozen : (k : ℕ) (c : List LitOf) → slot_at zs k ≡ Some c → Names live owner (id_at ids.frozen k) c (Frozen k)
  pub facts : (l : LitOf) → id_at ids.facts (index_of l) ≢ 0 → Names live owner (id_at ids.facts (index_of l)) (l ∷ []) (Fact l)
  pub upto : (id : ℕ) (c : List LitOf) → live id ≡ Some c → id ≤ ids.last

-- so, where ids are wanted
abbrev pub AreNamed : Live → List (Option (List LitOf)) → List (Option (List LitOf)) → IdsOf → Type 0
AreNamed live slots zs ids = IsTrue ids.wanted → IsNamed live slots zs ids
