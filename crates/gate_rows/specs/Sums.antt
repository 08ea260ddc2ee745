-- Operations bit by bit, and sums place by place.
use Rattle.std.specs.Prelude.{◌≡◌, ℕ, ◌<◌, ◌≤◌, ◌+◌, ◌*◌, ◌^◌, Bool, false, cond, not, ◌&&◌, ◌||◌, leb, List, [], ◌∷◌, length, map, take, All, slice_index_or}
use Rattle.cnf_form.specs.Cnf.{LitOf, Assignment, Satisfies, LitWithin, lit_in}
use Rattle.gate_graph.specs.Circuit.{GatesOf, Continues, Means, xor}
use Rattle.gate_graph.specs.Folding.{majority}
use Rattle.cell_table.specs.Cells.{either_one, same_bit}
use Rattle.sby_bits.specs.Rows.{Row, num}
use Rattle.gate_rows.specs.declared.bits.BitOp.{BitOp}
use Rattle.gate_rows.specs.declared.bits.BitOp.TheVariants.{And, Or, Xor, Xnor, Mux}
use Rattle.gate_rows.specs.Literals.{Builds, row_of}

-- what an operation makes of two bits
abbrev pub op_bit : BitOp → Assignment → Bool → Bool → Bool
op_bit And x a b = a && b
op_bit Or x a b = a || b
op_bit Xor x a b = either_one a b
op_bit Xnor x a b = same_bit a b
op_bit (Mux s) x a b = cond (lit_in x s) b a

-- the literals that an operation has beside its operands
abbrev pub op_lits : BitOp → List LitOf
op_lits And = []
op_lits Or = []
op_lits Xor = []
op_lits Xnor = []
op_lits (Mux s) = s ∷ []

-- f on a bit and one bit of a row after the other
abbrev pub chained : (Bool → Bool → Bool) → Bool → Row → Bool
chained f s [] = s
chained f s (b ∷ r) = chained f (f s b) r

-- a bit at a place
abbrev pub at : ℕ → Bool → ℕ
at i b = cond b (2 ^ i) 0

-- the first k bits of a word are built, and have these values in every assignment that satisfies the clauses
pub record IsBuilt (old new : GatesOf) (bits : Assignment → ℕ → Bool) (k : ℕ) (word : List LitOf) : Type 0 where
  pub builds : Builds old new k
  pub as_many : length word ≡ k
  pub within : All (LitWithin new.formula.vars) word
  pub means : (x : Assignment) → Satisfies x new.formula.clauses → (j : ℕ) → j < k → slice_index_or (row_of x word) j false ≡ bits x j

-- the operation on the first k bits of a word is built
pub record IsChained (old new : GatesOf) (f : Assignment → Bool → Bool → Bool) (start : LitOf) (a : List LitOf) (k : ℕ) (lit : LitOf) : Type 0 where
  pub builds : Builds old new k
  pub within : LitWithin new.formula.vars lit
  pub means : (x : Assignment) → Satisfies x new.formula.clauses → lit_in x lit ≡ chained (f x) (lit_in x start) (take k (row_of x a))

-- the row and the carry out of it are the sum of the first i bits of a and b, and of the carry
pub record IsSum (old new : GatesOf) (a b : List LitOf) (carry : LitOf) (i : ℕ) (row : List LitOf) (over : LitOf) : Type 0 where
  pub builds : Builds old new (3 * i)
  pub as_many : length row ≡ i
  pub within : All (LitWithin new.formula.vars) row
  pub over_within : LitWithin new.formula.vars over
  pub sum : (x : Assignment) → Satisfies x new.formula.clauses →
      num (row_of x row) + at i (lit_in x over) ≡ num (take i (row_of x a)) + num (take i (row_of x b)) + at 0 (lit_in x carry)

-- the two rows and the carry out of them are the sum of the first i bits of three rows
pub record IsSave (old new : GatesOf) (a b c : List LitOf) (i : ℕ) (row carries : List LitOf) (over : LitOf) : Type 0 where
  pub builds : Builds old new (3 * i)
  pub as_many : length row ≡ i
  pub as_many_carries : length carries ≡ i
  pub within : All (LitWithin new.formula.vars) row
  pub carries_within : All (LitWithin new.formula.vars) carries
  pub over_within : LitWithin new.formula.vars over
  pub sum : (x : Assignment) → Satisfies x new.formula.clauses →
      num (row_of x row) + num (row_of x carries) + at i (lit_in x over) ≡ num (take i (row_of x a)) + num (take i (row_of x b)) + num (take i (row_of x c))

-- the literal says that the first i bits of a are at least those of b
pub record IsAtLeast (old new : GatesOf) (a b : List LitOf) (i : ℕ) (lit : LitOf) : Type 0 where
  pub builds : Builds old new i
  pub within : LitWithin new.formula.vars lit
  pub means : (x : Assignment) → Satisfies x new.formula.clauses → lit_in x lit ≡ leb (num (take i (row_of x b))) (num (take i (row_of x a)))

-- the sum bit and the carry of three bits
pub record MakesAdder (old new : GatesOf) (p q r s o : LitOf) : Type 0 where
  pub builds : Builds old new 3
  pub within : LitWithin new.formula.vars s
  pub carry_within : LitWithin new.formula.vars o
  pub sum : Means new s (λ x. xor (xor (lit_in x p) (lit_in x q)) (lit_in x r))
  pub carry : Means new o (λ x. majority (lit_in x p) (lit_in x q) (lit_in x r))

-- m and n are the same, but for more whole multiples of 2 ^ y in n
abbrev pub Under : ℕ → ℕ → ℕ → Type 0
Under y m n = (k : ℕ) × (m + 2 ^ y * k ≡ n)

-- the sum of two rows is that of two others and of a at place k where the bit is set, modulo 2 ^ y
pub record AddsTerm (old new : GatesOf) (y : ℕ) (a : List LitOf) (bit : LitOf) (k : ℕ) (s c t u : List LitOf) : Type 0 where
  pub builds : Builds old new (4 * y)
  pub t_long : length t ≡ y
  pub u_long : length u ≡ y
  pub t_within : All (LitWithin new.formula.vars) t
  pub u_within : All (LitWithin new.formula.vars) u
  pub sum : (x : Assignment) → Satisfies x new.formula.clauses →
      Under y (num (row_of x t) + num (row_of x u)) (num (row_of x s) + num (row_of x c) + num (row_of x a) * at k (lit_in x bit))

-- the sum of two rows is the product of a and the first k bits of b, modulo 2 ^ y
pub record IsProduct (old new : GatesOf) (y : ℕ) (a b : List LitOf) (k : ℕ) (s c : List LitOf) : Type 0 where
  pub builds : Builds old new (4 * y * k)
  pub s_long : length s ≡ y
  pub c_long : length c ≡ y
  pub s_within : All (LitWithin new.formula.vars) s
  pub c_within : All (LitWithin new.formula.vars) c
  pub sum : (x : Assignment) → Satisfies x new.formula.clauses → Under y (num (row_of x s) + num (row_of x c)) (num (row_of x a) * num (take k (row_of x b)))
