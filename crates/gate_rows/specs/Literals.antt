-- Rows of literals: what row of bits they have, and what a circuit adds.
use Rattle.std.specs.Prelude.{◌≡◌, ℕ, ◌<◌, ◌≤◌, ◌+◌, Bool, List, length, map, All}
use Rattle.cnf_form.specs.Cnf.{LitOf, Assignment, Satisfies, LitWithin, lit_in}
use Rattle.gate_graph.specs.Circuit.{GatesOf, Continues, Means}
use Rattle.sby_bits.specs.Rows.{Row}

-- what an assignment makes of a word
abbrev pub row_of : Assignment → List LitOf → Row
row_of x word = map (lit_in x) word

-- the word has as many bits as this row, and has the row in every assignment that satisfies the clauses
pub record MeansRow (g : GatesOf) (row : Assignment → Row) (word : List LitOf) : Type 0 where
  pub as_many : (x : Assignment) → length word ≡ length (row x)
  pub within : All (LitWithin g.formula.vars) word
  pub means : (x : Assignment) → Satisfies x g.formula.clauses → row_of x word ≡ row x

-- the literal has this bit in every assignment that satisfies the clauses
pub record MeansBit (g : GatesOf) (bit : Assignment → Bool) (lit : LitOf) : Type 0 where
  pub within : LitWithin g.formula.vars lit
  pub means : Means g lit bit

-- gates are added, at most n, and no input
pub record Builds (old new : GatesOf) (n : ℕ) : Type 0 where
  pub continues : Continues old new
  pub inputs : new.inputs ≡ old.inputs
  pub most : new.formula.vars ≤ old.formula.vars + n

-- all variables are taken where one more gate is asked for, by fewer than n gates
pub record IsFull (old new : GatesOf) (n : ℕ) : Type 0 where
  pub full : new.formula.vars ≡ new.most
  pub past : old.most < old.formula.vars + n
