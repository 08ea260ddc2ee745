-- Which operators of the format are which cells, of words that have the cell's width.
use Rattle.std.specs.Prelude.{◌≡◌, ℕ, ◌^◌, Bool, cond, not, map, [], ◌∷◌, length, pos}
use Rattle.std.specs.Int.{int_div_euclid}
use Rattle.sby_bits.specs.Rows.{Row, fit, num, value}
use Rattle.sby_bits.specs.Words.{is_less, some_bit}
use Rattle.cell_table.specs.Cells.{binary_fn, divide_fn, is_compared, is_logic, is_reduced}
use Rattle.cell_table.specs.declared.kind.Binary.{Binary as Cell}
use Rattle.cell_table.specs.declared.kind.Reduce.{Reduce}
use Rattle.cell_table.specs.declared.kind.Logic.{Logic}
use Rattle.cell_table.specs.declared.kind.Compare.{Compare}
use Rattle.cell_table.specs.declared.kind.Divide.{Divide}
use Rattle.btor_core.specs.declared.line.Unary.{Unary}
use Rattle.btor_core.specs.declared.line.Binary.{Binary}
use Rattle.btor_core.specs.Fits.{BinaryFits, UnaryFits}
use Rattle.btor_core.specs.Meaning.{binary_row, unary_row}

-- the row itself, or with each bit turned
abbrev pub turned_row : Bool → Row → Row
turned_row t r = cond t (map not r) r

-- the operator, or its complement, is the cell: of two words of the cell's width; of any word, which gives a bit; of two bits
pub record IsOperator (k : Cell) (o : Binary) (turned : Bool) : Type 0 where
  pub fits : (w : ℕ) → BinaryFits o w w w
  pub row : (w : ℕ) (a b : Row) → length a ≡ w → length b ≡ w → turned_row turned (binary_row o w a b) ≡ binary_fn k w (pos (num a)) (pos (num b))

pub record IsReduction (k : Reduce) (o : Unary) (turned : Bool) : Type 0 where
  pub fits : (a : ℕ) → UnaryFits o 1 a
  pub row : (a : Row) → turned_row turned (unary_row o 1 a) ≡ is_reduced k a ∷ []

pub record IsLogic (k : Logic) (o : Binary) : Type 0 where
  pub fits : BinaryFits o 1 1 1
  pub row : (a b : Row) → binary_row o 1 (some_bit a ∷ []) (some_bit b ∷ []) ≡ is_logic k a b ∷ []

-- of two words it gives whether the first one's number is less, or isn't more
pub record IsLess (signed : Bool) (o : Binary) : Type 0 where
  pub fits : (w : ℕ) → BinaryFits o 1 w w
  pub row : (a b : Row) → binary_row o 1 a b ≡ is_less a b signed ∷ []

pub record IsAtMost (signed : Bool) (o : Binary) : Type 0 where
  pub fits : (w : ℕ) → BinaryFits o 1 w w
  pub row : (a b : Row) → binary_row o 1 a b ≡ not (is_less b a signed) ∷ []

-- of two words of one width, maybe in the other order, it gives the bit of the comparison
pub record IsComparison (k : Compare) (signed turned : Bool) (o : Binary) : Type 0 where
  pub fits : (w : ℕ) → BinaryFits o 1 w w
  pub row : (w : ℕ) (a b : Row) → length a ≡ w → length b ≡ w → binary_row o 1 (cond turned b a) (cond turned a b) ≡ is_compared k w (value signed a) (value signed b) ∷ []

-- of two words it gives the division at their width
pub record IsDivision (k : Divide) (signed : Bool) (o : Binary) : Type 0 where
  pub fits : (w : ℕ) → BinaryFits o w w w
  pub row : (w : ℕ) (a b : Row) → binary_row o w a b ≡ divide_fn k w (value signed a) (value signed b)

-- down by the second word's number, the sign coming in where `signed`
pub record IsDown (signed : Bool) (o : Binary) : Type 0 where
  pub fits : (w : ℕ) → BinaryFits o w w w
  pub row : (w : ℕ) (a b : Row) → binary_row o w a b ≡ fit w (int_div_euclid (value signed a) (pos (2 ^ num b)))
