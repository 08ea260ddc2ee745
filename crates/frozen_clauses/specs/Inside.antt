-- What holds of the fields of frozen clauses.
use Rattle.std.specs.Prelude.{◌≡◌, ℕ, ◌+◌, ◌*◌, ◌%◌, ◌^◌, ◌<◌, ◌≤◌, Bool, true, List, [], length, map, Option, Some, None, Contains, slice_index_or}
use Rattle.std.specs.declared.vec.Vec.{Vec}
use Rattle.std.specs.declared.alloc.Global.{Global}
use Rattle.cnf_form.specs.Cnf.{LitOf, index_of, ClauseWithin}
use Rattle.cnf_form.specs.declared.literal.TheConstants.{MAX_VARS}
use Rattle.unit_propagation.specs.Marks.{is_marked}
use Rattle.unit_propagation.specs.Propagator.{slot_at}
use Rattle.frozen_clauses.specs.declared.entry.TheConstants.{LISTS}
use Rattle.frozen_clauses.specs.declared.entry.Entry.{Entry}

-- a clause as the list of its literals
abbrev pub slot_of : Option (Vec LitOf Global) → Option (List LitOf)
slot_of (Some v) = Some v.items
slot_of None = None

-- the clause at each number, if it wasn't removed
abbrev pub slots_of : List (Option (Vec LitOf Global)) → List (Option (List LitOf))
slots_of clauses = map slot_of clauses

-- the entries of each list
abbrev pub rows_of : List (Vec Entry Global) → List (List Entry)
rows_of lists = map (λ (v : Vec Entry Global). v.items) lists

-- the list of a literal
abbrev pub row : List (List Entry) → LitOf → List Entry
row rows l = slice_index_or rows (index_of l % LISTS) []

-- the literal has a place among this many marks
abbrev pub HasPlace : ℕ → LitOf → Type 0
HasPlace size l = index_of l < size

-- an entry names one of this many clauses, and two literals that have places among this many marks
pub record EntryFits (count size : ℕ) (e : Entry) : Type 0 where
  pub clause : e.clause < count
  pub second : HasPlace size e.second
  pub third : HasPlace size e.third

-- an entry of the clause c at k is in the list of one of its literals, with two of its literals
pub record IsListed (rows : List (List Entry)) (k : ℕ) (c : List LitOf) : Type 0 where
  pub lit : LitOf
  pub entry : Entry
  pub on : Contains c lit
  pub there : Contains (row rows lit) entry
  pub names : entry.clause ≡ k
  pub second : Contains c entry.second
  pub third : Contains c entry.third

-- no literal is marked
abbrev pub IsClear : List Bool → Type 0
IsClear marks = (l : LitOf) → is_marked marks l ≡ true → ⊥

-- a clause is there, and each of its literals is marked
abbrev pub IsCovered : List Bool → List (Option (List LitOf)) → ℕ → Type 0
IsCovered marks slots k = (c : List LitOf) × (slot_at slots k ≡ Some c) × ((l : LitOf) → Contains c l → is_marked marks l ≡ true)

-- what holds of the fields
pub record IsFrozen (vars : ℕ) (slots : List (Option (List LitOf))) (rows : List (List Entry)) (marks : List Bool) : Type 0 where
  -- there are few enough variables
  pub limit : vars ≤ MAX_VARS
  -- the numbers fit entries
  pub few : length slots < 2 ^ 32
  -- each literal has a mark
  pub sized : length marks ≡ 2 * vars + 2
  -- none is set
  pub clear : IsClear marks
  -- all lists are there
  pub lists : length rows ≡ LISTS
  -- each clause is over the variables
  pub within : (k : ℕ) (c : List LitOf) → slot_at slots k ≡ Some c → ClauseWithin vars c
  -- and isn't empty
  pub full : (k : ℕ) (c : List LitOf) → slot_at slots k ≡ Some c → 0 < length c
  -- each entry fits
  pub entries : (l : LitOf) (e : Entry) → Contains (row rows l) e → EntryFits (length slots) (length marks) e
  -- each clause has an entry
  pub listed : (k : ℕ) (c : List LitOf) → slot_at slots k ≡ Some c → IsListed rows k c
