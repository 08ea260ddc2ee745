-- The table of a gate, row by row.
use Rattle.std.specs.Prelude.{◌≡◌, ℕ, Bool, false, ◌⊎◌, List, [], ◌∷◌}
use Rattle.cnf_form.specs.Cnf.{LitOf, Assignment, lit_in}
use Rattle.gate_graph.specs.Kept.{OthersWithin, lit_of}

-- A row of a gate's table: the gate has the value where none of the literals is true.
pub record Row : Type 0 where
  pub value : Bool
  pub others : List LitOf

-- the clause that says so of the variable
abbrev pub clause_of : ℕ → Row → List LitOf
clause_of v r = lit_of v r.value ∷ r.others

-- none of the literals is true
abbrev pub AllFalse : Assignment → List LitOf → Type 0
AllFalse x [] = Unit {0}
AllFalse x (l ∷ ls) = (lit_in x l ≡ false) × AllFalse x ls

-- each row is of the variables from 1 to n, and right of the bit
abbrev pub AreRows : ℕ → (Assignment → Bool) → List Row → Type 0
AreRows n bit [] = Unit {0}
AreRows n bit (r ∷ rs) = OthersWithin n r.others × ((x : Assignment) → AllFalse x r.others → bit x ≡ r.value) × AreRows n bit rs

-- some row speaks
abbrev pub Covers : Assignment → List Row → Type 0
Covers x [] = ⊥
Covers x (r ∷ rs) = AllFalse x r.others ⊎ Covers x rs

-- the rows are a table of the bit
pub record IsTable (n : ℕ) (bit : Assignment → Bool) (rows : List Row) : Type 0 where
  pub sound : AreRows n bit rows
  pub covers : (x : Assignment) → Covers x rows
