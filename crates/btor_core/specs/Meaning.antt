-- What lines of BTOR2 mean: relations on the values that lines have in a cycle. Divisions by zero are those of the bit-vectors of SMT-LIB.
use Rattle.std.specs.Prelude.{◌≡◌, ℕ, suc, ◌<◌, true, false, not, if◌then◌else◌, ◌&&◌, ◌||◌, Bool, List, [], ◌∷◌, ◌++◌, length, map, take, drop, Some, slice_get, pos, negsuc, ◌-ℤ◌, All}
use Rattle.sby_bits.specs.Rows.{Row, num, fit, ext, top_bit}
use Rattle.sby_bits.specs.Words.{sum_row, difference_row, product_row, quotient_row, remainder_row, left_shift_row, right_shift_row, is_less, is_equal, every_bit, some_bit, odd_bits}
use Rattle.cell_table.specs.Cells.{bitwise, either_one, slice_fn}
use Rattle.btor_core.specs.declared.line.Unary.{Unary}
use Rattle.btor_core.specs.declared.line.Unary.TheVariants as unary
use Rattle.btor_core.specs.declared.line.Binary.{Binary}
use Rattle.btor_core.specs.declared.line.Binary.TheVariants as binary
use Rattle.btor_core.specs.declared.line.Node.{Node}
use Rattle.btor_core.specs.declared.line.Node.TheVariants as node
use Rattle.btor_core.specs.declared.line.Body.{Body}
use Rattle.btor_core.specs.declared.line.Body.TheVariants as body
use Rattle.btor_core.specs.declared.line.Line.{Line}
use Rattle.btor_core.specs.Shape.{BtorOf, bads, constraints, inits, nexts}

-- the row that each line has in one cycle, by its number
abbrev pub Values : Type 0
Values = ℕ → Row

-- the row of an operator's line, w bits wide: one line for each operator
abbrev pub unary_row : Unary → ℕ → Row → Row
unary_row unary.Not w a = map not a
unary_row unary.Neg w a = fit w (pos 0 -ℤ pos (num a))
unary_row unary.Redand w a = every_bit a ∷ []
unary_row unary.Redor w a = some_bit a ∷ []
unary_row unary.Redxor w a = odd_bits a ∷ []

abbrev pub binary_row : Binary → ℕ → Row → Row → Row
binary_row binary.And w a b = bitwise ◌&&◌ a b
binary_row binary.Or w a b = bitwise ◌||◌ a b
binary_row binary.Xor w a b = bitwise either_one a b
binary_row binary.Add w a b = sum_row a b w
binary_row binary.Sub w a b = difference_row a b w
binary_row binary.Mul w a b = product_row a b w
binary_row binary.Udiv w a b = quotient_row a b false w
binary_row binary.Urem w a b = remainder_row a b false w
binary_row binary.Sdiv w a b = quotient_row a b true w
binary_row binary.Srem w a b = remainder_row a b true w
binary_row binary.Sll w a b = left_shift_row a b w
binary_row binary.Srl w a b = right_shift_row a b false w
binary_row binary.Sra w a b = right_shift_row a b (top_bit a) w
binary_row binary.Eq w a b = is_equal a b ∷ []
binary_row binary.Neq w a b = not (is_equal a b) ∷ []
binary_row binary.Ult w a b = is_less a b false ∷ []
binary_row binary.Ulte w a b = not (is_less b a false) ∷ []
binary_row binary.Slt w a b = is_less a b true ∷ []
binary_row binary.Slte w a b = not (is_less b a true) ∷ []
binary_row binary.Concat w a b = b ++ a

-- a line has this row; inputs and states have any row of their width
abbrev pub NodeHolds : List Bool → Values → ℕ → Row → Node → Type 0
NodeHolds constants vs w r node.Input = length r ≡ w
NodeHolds constants vs w r node.State = length r ≡ w
NodeHolds constants vs w r (node.Const start) = r ≡ take w (drop start constants)
NodeHolds constants vs w r node.Zero = r ≡ fit w (pos 0)
NodeHolds constants vs w r node.One = r ≡ fit w (pos 1)
NodeHolds constants vs w r node.Ones = r ≡ fit w (negsuc 0)
NodeHolds constants vs w r (node.Unary k a) = r ≡ unary_row k w (vs a)
NodeHolds constants vs w r (node.Binary k a b) = r ≡ binary_row k w (vs a) (vs b)
NodeHolds constants vs w r (node.Slice a upper lower) = r ≡ slice_fn w lower (vs a)
NodeHolds constants vs w r (node.Uext a by) = r ≡ ext (vs a) false w
NodeHolds constants vs w r (node.Sext a by) = r ≡ ext (vs a) true w
NodeHolds constants vs w r (node.Ite s a b) = r ≡ (if some_bit (vs s) then vs a else vs b)

-- within a cycle only values' lines say something
abbrev pub BodyHolds : List Bool → Values → ℕ → Body → Type 0
BodyHolds constants vs k (body.Sort w) = Unit {0}
BodyHolds constants vs k (body.Value s w n) = NodeHolds constants vs w (vs k) n
BodyHolds constants vs k (body.Init s q v) = Unit {0}
BodyHolds constants vs k (body.Next s q v) = Unit {0}
BodyHolds constants vs k (body.Bad n) = Unit {0}
BodyHolds constants vs k (body.Constraint n) = Unit {0}

abbrev pub LineHolds : List Bool → Values → Line → Type 0
LineHolds constants vs l = BodyHolds constants vs l.nid l.body

-- each line has its value
abbrev pub Holds : BtorOf → Values → Type 0
Holds m vs = All (LineHolds m.constants vs) m.lines

-- vs can be a first cycle: each state with an `init` is as its value
abbrev pub Starts : BtorOf → Values → Type 0
Starts m vs = All (λ t. vs t.state ≡ vs t.value) (inits m.lines)

-- us can come right after vs: each state with a `next` is as its value was
abbrev pub GoesOn : BtorOf → Values → Values → Type 0
GoesOn m vs us = All (λ t. us t.state ≡ vs t.value) (nexts m.lines)

-- each constraint holds in a cycle
abbrev pub IsMet : BtorOf → Values → Type 0
IsMet m vs = All (λ n. vs n ≡ true ∷ []) (constraints m.lines)

-- bad k, counted from 0 in file order, holds in a cycle
abbrev pub IsBad : BtorOf → Values → ℕ → Type 0
IsBad m vs k = (n : ℕ) × (slice_get (bads m.lines) k ≡ Some n) × (vs n ≡ true ∷ [])

-- a run of n cycles; a state without a `next` has any row of its width in each
pub record BtorRun (m : BtorOf) (n : ℕ) (vss : ℕ → Values) : Type 0 where
  pub some : 0 < n
  pub holds : (t : ℕ) → t < n → Holds m (vss t)
  pub starts : Starts m (vss 0)
  pub goes_on : (t : ℕ) → suc t < n → GoesOn m (vss t) (vss (suc t))
