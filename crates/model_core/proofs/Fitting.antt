-- What a node gives is as wide as its output.
use Rattle.std.proofs.Common.{◌≡◌, ℕ, suc, ◌+◌, ◌*◌, ◌/◌, ◌^◌, ◌<◌, ◌≤◌, Bool, true, false, cond, ◌&&◌, ◌||◌, List, [], ◌∷◌, refl, sym, ap, ◌∙◌, arith, length, length-append, length-drop, length-take, drop}
use Rattle.std.specs.Prelude.{ℤ, pos, max}
use Rattle.std.proofs.Math.Nat.{mul-le-mul_left}
use Rattle.sby_bits.specs.Rows.{Row, fit, num, value}
use Rattle.sby_bits.specs.Words.{moved_number, some_bit}
use Rattle.sby_bits.proofs.Numbers.{length-fit, num-lt}
use Rattle.cell_table.specs.Cells.{bit_row, bitwise, is_compared, is_logic, is_reduced, binary_fn, bmux_fn, divide_fn, either_one, lowest_set, mux_fn, same_bit, slice_number, unary_fn}
use Rattle.cell_table.specs.declared.kind.Unary.{Unary}
use Rattle.cell_table.specs.declared.kind.Unary.TheVariants.{Not, Pos, Neg}
use Rattle.cell_table.specs.declared.kind.Binary.{Binary}
use Rattle.cell_table.specs.declared.kind.Binary.TheVariants.{And, Or, Xor, Xnor, Add, Sub, Mul}
use Rattle.cell_table.specs.declared.kind.Divide.{Divide}
use Rattle.cell_table.specs.declared.kind.Divide.TheVariants.{Div, Mod}
use Rattle.model_core.specs.Shape.{NodeOf}
use Rattle.model_core.specs.Meaning.{Cycle, is_set, node_fn, row_at, row_of_node}
use Rattle.model_core.specs.Served.{HasWidths, IsNode}
use Rattle.model_core.specs.declared.op.Op.{Op}
use Rattle.model_core.specs.declared.op.Op.TheVariants as op

length-bitwise : (f : Bool → Bool → Bool) (r s : Row) → length r ≡ length s → length (bitwise f r s) ≡ length r
length-bitwise f [] s e = refl
length-bitwise f (a ∷ r) [] e = absurd (omega arith)
length-bitwise f (a ∷ r) (b ∷ s) e = ap suc (length-bitwise f r s (omega arith))

bitwise_wide : (f : Bool → Bool → Bool) (y : ℕ) (a b : ℤ) → length (bitwise f (fit y a) (fit y b)) ≡ y
bitwise_wide f y a b = length-bitwise f (fit y a) (fit y b) (length-fit y a ∙ sym (length-fit y b)) ∙ length-fit y a

unary_wide : (k : Unary) (y : ℕ) (a : ℤ) → length (unary_fn k y a) ≡ y
unary_wide Not y a = length-fit y _
unary_wide Pos y a = length-fit y _
unary_wide Neg y a = length-fit y _

binary_wide : (k : Binary) (y : ℕ) (a b : ℤ) → length (binary_fn k y a b) ≡ y
binary_wide And y a b = bitwise_wide ◌&&◌ y a b
binary_wide Or y a b = bitwise_wide ◌||◌ y a b
binary_wide Xor y a b = bitwise_wide either_one y a b
binary_wide Xnor y a b = bitwise_wide same_bit y a b
binary_wide Add y a b = length-fit y _
binary_wide Sub y a b = length-fit y _
binary_wide Mul y a b = length-fit y _

divide_wide : (k : Divide) (y : ℕ) (a b : ℤ) → length (divide_fn k y a b) ≡ y
divide_wide Div y a b = length-fit y _
divide_wide Mod y a b = length-fit y _

mux_wide : (t : Bool) (a b : Row) (n : ℕ) → length a ≡ n → length b ≡ n → length (mux_fn a b t) ≡ n
mux_wide true a b n ea eb = eb
mux_wide false a b n ea eb = ea

slice_wide : (w i : ℕ) (row : Row) → w * i + w ≤ length row → length (slice_number w row i) ≡ w
slice_wide w i row h = omega (arith, length-take w (drop (w * i) row), length-drop (w * i) row)

lowest_below : (s : Row) → some_bit s ≡ true → lowest_set s < length s
lowest_below [] e = absurd (let z : false ≡ true = e in cc)
lowest_below (true ∷ s) e = omega arith
lowest_below (false ∷ s) e = let r = lowest_below s (later s e) in omega arith
  where
    later : (s : Row) → some_bit (false ∷ s) ≡ true → some_bit s ≡ true
    later s e = grind arith

product_below : (y i n : ℕ) → i < n → y * i + y ≤ y * n
product_below y i n h =
    let l : y * suc i ≤ y * n = mul-le-mul_left y h in
    let e : y * suc i ≡ y * i + y = grind arith in
    omega arith

pmux_wide : (y : ℕ) (a b s : Row) (t : Bool) → some_bit s ≡ t → length a ≡ y → length b ≡ y * length s → length (cond t (slice_number y b (lowest_set s)) a) ≡ y
pmux_wide y a b s true e ea eb =
    let l = product_below y (lowest_set s) (length s) (lowest_below s e) in
    slice_wide y (lowest_set s) b (omega arith)
pmux_wide y a b s false e ea eb = ea

bmux_wide : (y : ℕ) (a s : Row) → length a ≡ y * 2 ^ length s → length (bmux_fn y a s) ≡ y
bmux_wide y a s e =
    let l = product_below y (num s) (2 ^ length s) (num-lt s) in
    slice_wide y (num s) a (omega arith)

bit_wide : (y : ℕ) (b : Bool) → length (bit_row y b) ≡ y
bit_wide y b = length-fit y (pos (cond b 1 0))

fn_wide : (o : Op) (a b s : Row) (y : ℕ) → HasWidths o (length a) (length b) (length s) y → length (node_fn o y a b s) ≡ y
fn_wide op.Copy a b s y h = sym h.1
fn_wide (op.Unary k signed) a b s y h = unary_wide k y _
fn_wide (op.Binary k signed) a b s y h = binary_wide k y _ _
fn_wide (op.Reduce k) a b s y h = bit_wide y (is_reduced k a)
fn_wide (op.Logic k) a b s y h = bit_wide y (is_logic k a b)
fn_wide (op.Compare k signed) a b s y h = bit_wide y (is_compared k (max (length a) (length b)) (value signed a) (value signed b))
fn_wide (op.ShiftLeft signed) a b s y h = length-fit y _
fn_wide (op.ShiftRight signed) a b s y h = length-fit y (pos (num (fit (max (length a) y) (value signed a)) / 2 ^ num b))
fn_wide (op.ShiftSign signed) a b s y h = length-fit y _
fn_wide (op.ShiftAny signed by) a b s y h = length-fit y (pos (moved_number (num (fit (max (length a) y) (value signed a))) (value by b)))
fn_wide (op.Divide k signed) a b s y h = divide_wide k y _ _
fn_wide op.Mux a b s y h = mux_wide (is_set s) a b y (sym h.3) (h.1 ∙ sym h.3)
fn_wide op.Pmux a b s y h = pmux_wide y a b s (some_bit s) refl (sym h.4) (let e = h.3 in let g = h.4 in e ∙ ap (λ (k : ℕ). k * length s) (sym g))
fn_wide op.Bmux a b s y h = bmux_wide y a s h.3
fn_wide (op.Slice offset) a b s y h = let l = h.2 in omega (arith, length-take y (drop offset a), length-drop offset a)
fn_wide op.Concat a b s y h = length-append a b ∙ sym h.3

pub length-row_at : (c : Cycle) (ps : List ℕ) → length (row_at c ps) ≡ length ps
length-row_at c [] = refl
length-row_at c (p ∷ ps) = ap suc (length-row_at c ps)

-- what a node gives
pub node_rows_fit : (c : Cycle) (n : NodeOf) → IsNode n → length (row_of_node c n) ≡ length n.y
node_rows_fit c n h =
    fn_wide n.op (row_at c n.a) (row_at c n.b) (row_at c n.s) (length n.y)
    (rw (length-row_at c n.a, length-row_at c n.b, length-row_at c n.s) h)
