-- What a circuit gives and adds.
use Rattle.std.specs.Prelude.{◌≡◌, ℕ, ◌+◌, ◌*◌, ◌^◌, ◌⊎◌, List, [], ◌∷◌, ◌++◌, length, take, drop, All, ◌&&◌, ◌||◌, pos, ◌+ℤ◌, ◌-ℤ◌}
use Rattle.sby_bits.specs.Rows.{Row, num, fit}
use Rattle.cell_table.specs.Cells.{bitwise, either_one, same_bit, pmux_fn, slice_number}
use Rattle.cnf_form.specs.Cnf.{LitOf, Assignment, Satisfies, LitWithin, lit_in, negate}
use Rattle.gate_graph.specs.Circuit.{GatesOf}
use Rattle.std.specs.Int.{int_div_euclid}
use Rattle.sby_bits.specs.Words.{filled_number}
use Rattle.gate_words.specs.declared.shifts.Way.{Way}
use Rattle.gate_words.specs.declared.shifts.Way.TheVariants.{Up, Down}
use Rattle.cell_table.specs.declared.kind.Unary.{Unary}
use Rattle.cell_table.specs.declared.kind.Unary.TheVariants.{Not, Pos, Neg}
use Rattle.cell_table.specs.declared.kind.Binary.{Binary}
use Rattle.cell_table.specs.declared.kind.Binary.TheVariants.{And, Or, Xor, Xnor, Add, Sub, Mul}
pub use Rattle.gate_rows.specs.Literals.{row_of, MeansRow, MeansBit, Builds, IsFull}

-- the most gates of a call whose widths are w together
abbrev pub linear : ℕ → ℕ
linear w = 16 * w

-- the most gates of a product, a shift or a division
abbrev pub square : ℕ → ℕ
square w = 16 * (w * w)

-- the most gates of an operation on one row
abbrev pub unary_gates : Unary → ℕ → ℕ
unary_gates Not y = 0
unary_gates Pos y = 0
unary_gates Neg y = 3 * y

-- the most gates of an operation on two rows
abbrev pub binary_gates : Binary → ℕ → ℕ
binary_gates And w = linear w
binary_gates Or w = linear w
binary_gates Xor w = linear w
binary_gates Xnor w = linear w
binary_gates Add w = linear w
binary_gates Sub w = linear w
binary_gates Mul w = square w

-- the most gates of the operation on rows of length y
abbrev pub made_gates : Binary → ℕ → ℕ
made_gates And y = 3 * y
made_gates Or y = 3 * y
made_gates Xor y = 3 * y
made_gates Xnor y = 3 * y
made_gates Add y = 3 * y
made_gates Sub y = 3 * y
made_gates Mul y = 4 * y * y + 3 * y

-- the operation on rows of one length
abbrev pub made : Binary → ℕ → Row → Row → Row
made And y a b = bitwise ◌&&◌ a b
made Or y a b = bitwise ◌||◌ a b
made Xor y a b = bitwise either_one a b
made Xnor y a b = bitwise same_bit a b
made Add y a b = fit y (pos (num a) +ℤ pos (num b))
made Sub y a b = fit y (pos (num a) -ℤ pos (num b))
made Mul y a b = fit y (pos (num a * num b))

-- the same literals, the last one negated
abbrev pub IsTurned : List LitOf → List LitOf → Type 0
IsTurned a b = ((a ≡ []) × (b ≡ [])) ⊎ ((front : List LitOf) × (last : LitOf) × (a ≡ front ++ last ∷ []) × (b ≡ front ++ negate last ∷ []))

-- the word is what `$pmux` makes of the selects from place k on and their slices, after this many steps
pub record IsChosen (old new : GatesOf) (a b s : List LitOf) (step k : ℕ) (word : List LitOf) : Type 0 where
  pub builds : Builds old new (length a * step)
  pub as_many : length word ≡ length a
  pub within : All (LitWithin new.formula.vars) word
  pub means : (x : Assignment) → Satisfies x new.formula.clauses → row_of x word ≡ pmux_fn (length a) (row_of x a) (drop (length a * k) (row_of x b)) (drop k (row_of x s))

-- the word is the slice of width w * 2 ^ k that the selects from place k on name
pub record IsHalved (old new : GatesOf) (w : ℕ) (a s : List LitOf) (k : ℕ) (word : List LitOf) : Type 0 where
  pub made : ℕ
  pub builds : Builds old new made
  pub few : made + length word ≡ length a
  pub as_many : length word ≡ w * 2 ^ k
  pub within : All (LitWithin new.formula.vars) word
  pub means : (x : Assignment) → Satisfies x new.formula.clauses → row_of x word ≡ slice_number (w * 2 ^ k) (row_of x a) (num (drop k (row_of x s)))

-- the literals that a way has beside the row
abbrev pub way_lits : Way → List LitOf
way_lits Up = []
way_lits (Down fill) = fill ∷ []

-- the row moved by a number of places, at its length
abbrev pub moved_row : Way → Assignment → Row → ℕ → Row
moved_row Up x r places = fit (length r) (pos (num r * 2 ^ places))
moved_row (Down fill) x r places = fit (length r) (int_div_euclid (filled_number r (lit_in x fill)) (pos (2 ^ places)))

-- the word is a moved by the number of the first k bits of another
pub record IsMoved (old new : GatesOf) (way : Way) (a by : List LitOf) (k : ℕ) (word : List LitOf) : Type 0 where
  pub builds : Builds old new (length a * k)
  pub as_many : length word ≡ length a
  pub within : All (LitWithin new.formula.vars) word
  pub means : (x : Assignment) → Satisfies x new.formula.clauses → row_of x word ≡ moved_row way x (row_of x a) (num (take k (row_of x by)))
