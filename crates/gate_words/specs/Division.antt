-- Division, place by place from the highest.
use Rattle.std.specs.Prelude.{◌≡◌, ℕ, ◌<◌, ◌≤◌, ◌+◌, ◌-◌, ◌*◌, ◌^◌, ◌&&◌, ◌⊎◌, false, cond, eqb, leb, List, ◌∷◌, length, take, drop, reverse, All, slice_index_or}
use Rattle.cnf_form.specs.Cnf.{LitOf, Assignment, Satisfies, LitWithin, lit_in}
use Rattle.gate_graph.specs.Circuit.{GatesOf, Means}
use Rattle.sby_bits.specs.Rows.{num}
use Rattle.gate_rows.specs.Literals.{Builds, row_of}

-- for each number of places up to j a literal says whether that many of the highest bits are all 0
pub record IsZeros (old new : GatesOf) (b : List LitOf) (j : ℕ) (zeros : List LitOf) : Type 0 where
  pub builds : Builds old new j
  pub as_many : length zeros ≡ j + 1
  pub within : All (LitWithin new.formula.vars) zeros
  pub means : (x : Assignment) → Satisfies x new.formula.clauses → (i : ℕ) → i ≤ j → slice_index_or (row_of x zeros) i false ≡ eqb (num (drop (length b - i) (row_of x b))) 0

-- the bit says that low is no more than top and that the zero is true; the rest is top, less low where the bit is set
pub record IsStep (old new : GatesOf) (top low : List LitOf) (zero bit : LitOf) (rest : List LitOf) : Type 0 where
  pub builds : Builds old new (4 * length top + 1)
  pub as_many : length rest ≡ length top
  pub bit_within : LitWithin new.formula.vars bit
  pub within : All (LitWithin new.formula.vars) rest
  pub bit_means : Means new bit (λ x. leb (num (row_of x low)) (num (row_of x top)) && lit_in x zero)
  pub rest_means : (x : Assignment) → Satisfies x new.formula.clauses → num (row_of x rest) ≡ cond (lit_in x bit) (num (row_of x top) - num (row_of x low)) (num (row_of x top))

-- the same of a digit below the rest, and as many low bits of b
pub record IsPlace (old new : GatesOf) (digit : LitOf) (above b : List LitOf) (zero bit : LitOf) (rest : List LitOf) : Type 0 where
  pub builds : Builds old new (4 * length b + 1)
  pub as_many : length rest ≡ length above + 1
  pub bit_within : LitWithin new.formula.vars bit
  pub within : All (LitWithin new.formula.vars) rest
  pub bit_means : Means new bit (λ x. leb (num (take (length above + 1) (row_of x b))) (num (lit_in x digit ∷ row_of x above)) && lit_in x zero)
  pub rest_means : (x : Assignment) → Satisfies x new.formula.clauses →
      num (row_of x rest) ≡ cond (lit_in x bit) (num (lit_in x digit ∷ row_of x above) - num (take (length above + 1) (row_of x b))) (num (lit_in x digit ∷ row_of x above))

-- the numbers of a quotient and of what is left; over zero all bits are set
pub record IsQuotient (a q b rest step : ℕ) : Type 0 where
  pub whole : a ≡ q * b + rest
  pub small : (rest < b) ⊎ (b ≡ 0)
  pub ones : b ≡ 0 → q + 1 ≡ 2 ^ step

-- the bits of the places from k on, highest first, are the quotient of a's bits from there on, and the rest is what is left
pub record IsDivided (old new : GatesOf) (a b : List LitOf) (step k : ℕ) (bits rest : List LitOf) : Type 0 where
  pub builds : Builds old new ((4 * length b + 1) * step)
  pub many_bits : length bits ≡ step
  pub many_rest : length rest ≡ step
  pub bits_within : All (LitWithin new.formula.vars) bits
  pub rest_within : All (LitWithin new.formula.vars) rest
  pub means : (x : Assignment) → Satisfies x new.formula.clauses → IsQuotient (num (drop k (row_of x a))) (num (row_of x (reverse bits))) (num (row_of x b)) (num (row_of x rest)) step

-- the gates of a division of rows of n bits
abbrev pub divided_gates : ℕ → ℕ
divided_gates n = n + (4 * n + 1) * n
