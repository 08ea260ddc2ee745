-- The rows of cells by those of their lines.
use Rattle.std.proofs.Common.{◌≡◌, ℕ, ◌*◌, ◌^◌, ◌≤◌, Bool, true, false, cond, eqb, not, ◌&&◌, [], ◌∷◌, length, refl, sym, ◌∙◌, ap, arith}
use Rattle.std.specs.Prelude.{ℤ, pos, map, ◌-ℤ◌, ◌||◌}
use Rattle.std.specs.Int.{int_div_euclid}
use Rattle.sby_bits.specs.Rows.{Row, num, fit, ext, top_bit, value}
use Rattle.sby_bits.specs.Words.{is_equal, moved_number, some_bit}
use Rattle.cell_table.specs.Cells.{any_shift_fn, binary_fn, bit_row, bitwise, divide_fn, either_one, is_compared, is_logic, is_reduced, left_shift_fn, same_bit, sign_shift_fn}
use Rattle.cell_table.specs.declared.kind.Binary.{Binary as Cell}
use Rattle.cell_table.specs.declared.kind.Binary.TheVariants as cell
use Rattle.cell_table.specs.declared.kind.Reduce.{Reduce}
use Rattle.cell_table.specs.declared.kind.Logic.{Logic}
use Rattle.cell_table.specs.declared.kind.Compare.{Compare}
use Rattle.cell_table.specs.declared.kind.Compare.TheVariants as compare
use Rattle.cell_table.specs.declared.kind.Divide.{Divide}
use Rattle.btor_core.specs.declared.line.Unary.{Unary}
use Rattle.btor_core.specs.declared.line.Binary.{Binary}
use Rattle.btor_core.specs.declared.line.Binary.TheVariants as operator
use Rattle.btor_core.specs.Meaning.{binary_row, unary_row}
use Rattle.btor_words.specs.Operators.{IsComparison, IsDivision, IsDown, IsLogic, IsOperator, IsReduction, turned_row}
use Rattle.btor_words.proofs.Rows.{again, binary_again, bit_resized, compare_longer, divide_longer, moved_any, moved_either, moved_sign, moved_up, same_size, turned_xor, zeros_above}

pub combined_row : (k : Cell) (o : Binary) (t : Bool) (w : ℕ) (l r x : Row) → IsOperator k o t → length l ≡ w → length r ≡ w → x ≡ binary_row o w l r → turned_row t x ≡ binary_fn k w (pos (num l)) (pos (num r))
combined_row k o t w l r x is wl wr e = ap (λ (z : Row). turned_row t z) e ∙ is.row w l r wl wr

pub binary_whole : (k : Cell) (v w : ℕ) (a b l r : Row) (s : Bool) → v ≡ w → l ≡ ext a s w → r ≡ ext b s w → binary_fn k v (pos (num l)) (pos (num r)) ≡ binary_fn k w (value s a) (value s b)
binary_whole k v w a b l r s ev el er = rw (ev, el, er) (binary_again k w (value s a) (value s b))

pub reduced_row : (k : Reduce) (o : Unary) (t : Bool) (a x : Row) → IsReduction k o t → x ≡ unary_row o 1 a → turned_row t x ≡ is_reduced k a ∷ []
reduced_row k o t a x is e = ap (λ (z : Row). turned_row t z) e ∙ is.row a

pub bit_whole : (y : ℕ) (b : Bool) (x : Row) → x ≡ b ∷ [] → ext x false y ≡ bit_row y b
bit_whole y b x e = ap (λ (z : Row). ext z false y) e ∙ bit_resized y b

pub logic_row : (k : Logic) (o : Binary) (y : ℕ) (a b l r x : Row) → IsLogic k o → l ≡ some_bit a ∷ [] → r ≡ some_bit b ∷ [] → x ≡ binary_row o 1 l r → ext x false y ≡ bit_row y (is_logic k a b)
logic_row k o y a b l r x is el er e = bit_whole y (is_logic k a b) x (e ∙ ap (λ (z : Row). binary_row o 1 z r) el ∙ ap (λ (z : Row). binary_row o 1 (some_bit a ∷ []) z) er ∙ is.row a b)

-- the bit of a comparison, its operands in either order
pub compared_turned : (k : Compare) (o : Binary) (t s : Bool) (w : ℕ) (l r : Row) → IsComparison k s t o → t ≡ true → length l ≡ w → length r ≡ w → binary_row o 1 r l ≡ is_compared k w (value s l) (value s r) ∷ []
compared_turned k o t s w l r is e wl wr = ap (λ (z : Bool). binary_row o 1 (cond z r l) (cond z l r)) (sym e) ∙ is.row w l r wl wr

pub compared_plain : (k : Compare) (o : Binary) (t s : Bool) (w : ℕ) (l r : Row) → IsComparison k s t o → t ≡ false → length l ≡ w → length r ≡ w → binary_row o 1 l r ≡ is_compared k w (value s l) (value s r) ∷ []
compared_plain k o t s w l r is e wl wr = ap (λ (z : Bool). binary_row o 1 (cond z r l) (cond z l r)) (sym e) ∙ is.row w l r wl wr

pub compare_whole : (k : Compare) (v w m y : ℕ) (a b l r x : Row) (s : Bool) → v ≡ w → w ≡ m → length a ≤ w → length b ≤ w → l ≡ ext a s w → r ≡ ext b s w → x ≡ is_compared k v (value s l) (value s r) ∷ []
    → ext x false y ≡ bit_row y (is_compared k m (value s a) (value s b))
compare_whole k v w m y a b l r x s ev em la lb el er e =
    let bit : is_compared k v (value s l) (value s r) ≡ is_compared k m (value s a) (value s b) = rw (ev, el, er, sym em) (compare_longer k w a b s la lb) in
    bit_whole y (is_compared k m (value s a) (value s b)) x (e ∙ ap (λ (z : Bool). z ∷ []) bit)

pub divide_whole : (k : Divide) (o : Binary) (w y : ℕ) (a b l r x : Row) (s : Bool) → IsDivision k s o → length a ≤ w → length b ≤ w → y ≤ w → l ≡ ext a s w → r ≡ ext b s w → x ≡ binary_row o w l r
    → ext x false y ≡ divide_fn k y (value s a) (value s b)
divide_whole k o w y a b l r x s is la lb h el er e =
    let whole : x ≡ divide_fn k w (value s l) (value s r) = e ∙ is.row w l r in
    rw (whole, el, er) (divide_longer k y w a b s la lb h)

pub up_whole : (w y : ℕ) (a b own l r x : Row) (s : Bool) → y ≤ w → length b ≤ w → own ≡ ext a s y → l ≡ ext own false w → r ≡ ext b false w → x ≡ fit w (pos (num l * 2 ^ num r)) → ext x false y ≡ left_shift_fn y (value s a) (num b)
up_whole w y a b own l r x s h k eo el er e = rw (e, el, er, eo) (moved_up y w a b s h k)

pub sign_whole : (o : Binary) (w y : ℕ) (a b l r x : Row) (s : Bool) → IsDown s o → y ≤ w → length a ≤ w → length b ≤ w → l ≡ ext a s w → r ≡ ext b false w → x ≡ binary_row o w l r → ext x false y ≡ sign_shift_fn y (value s a) (num b)
sign_whole o w y a b l r x s is h la lb el er e =
    let moved : x ≡ fit w (int_div_euclid (value s l) (pos (2 ^ num r))) = e ∙ is.row w l r in
    rw (moved, el, er) (moved_sign y w a b s h la lb)

pub down_row : (w : ℕ) (x by p : Row) → length by ≤ w → p ≡ ext by false w → binary_row operator.Srl w x p ≡ fit w (pos (moved_number (num x) (pos (num by))))
down_row w x by p h e = rw (e, zeros_above by w h) refl

pub up_row : (w v : ℕ) (x by n p : Row) → v ≤ w → n ≡ fit v (pos 0 -ℤ pos (num by)) → length n ≡ v → p ≡ ext n false w
    → binary_row operator.Sll w x p ≡ fit w (pos (num x * 2 ^ num (fit v (pos 0 -ℤ pos (num by)))))
up_row w v x by n p h en long e =
    let same : num p ≡ num n = ap (λ (z : Row). num z) e ∙ zeros_above n w (omega arith) in
    rw (same, en) refl

pub chosen_way : (t : Bool) (low high up sign : Row) → sign ≡ t ∷ [] → high ≡ up → cond (some_bit sign) high low ≡ cond t up low
chosen_way true low high up sign e h = rw (e, h) refl
chosen_way false low high up sign e h = rw e refl

pub either_row : (w v : ℕ) (x by low : Row) (signed : Bool) → signed ≡ true → length by ≡ v → low ≡ fit w (pos (moved_number (num x) (pos (num by))))
    → cond (top_bit by) (fit w (pos (num x * 2 ^ num (fit v (pos 0 -ℤ pos (num by)))))) low ≡ fit w (pos (moved_number (num x) (value signed by)))
either_row w v x by low signed es ev el = rw (el, es, sym ev) (moved_either w x by)

pub any_whole : (v w own m y : ℕ) (a o l x : Row) (s : Bool) (by : ℤ) → v ≡ w → own ≡ m → own ≤ w → y ≤ w → o ≡ ext a s own → l ≡ ext o false w → x ≡ fit v (pos (moved_number (num l) by)) → ext x false y ≡ any_shift_fn y m (value s a) by
any_whole v w own m y a o l x s by ev em h k eo el e = rw (e, ev, el, eo, sym em) (moved_any y own w a s by h k)

-- the cells that go bit by bit
module _ (w : ℕ) (a b : Row) (la : length a ≡ w) (lb : length b ≡ w) where
  and_row : bitwise ◌&&◌ a b ≡ bitwise ◌&&◌ (fit w (pos (num a))) (fit w (pos (num b)))
  and_row = rw (again w a la, again w b lb) refl

  or_row : bitwise ◌||◌ a b ≡ bitwise ◌||◌ (fit w (pos (num a))) (fit w (pos (num b)))
  or_row = rw (again w a la, again w b lb) refl

  xor_row : bitwise either_one a b ≡ bitwise either_one (fit w (pos (num a))) (fit w (pos (num b)))
  xor_row = rw (again w a la, again w b lb) refl

  xnor_row : map not (bitwise either_one a b) ≡ bitwise same_bit (fit w (pos (num a))) (fit w (pos (num b)))
  xnor_row = rw (again w a la, again w b lb) (turned_xor a b)

pub is_and : IsOperator cell.And operator.And false
is_and = record { fits = λ w. (refl, refl); row = and_row }

pub is_or : IsOperator cell.Or operator.Or false
is_or = record { fits = λ w. (refl, refl); row = or_row }

pub is_xor : IsOperator cell.Xor operator.Xor false
is_xor = record { fits = λ w. (refl, refl); row = xor_row }

pub is_xnor : IsOperator cell.Xnor operator.Xor true
is_xnor = record { fits = λ w. (refl, refl); row = xnor_row }

-- whether two words are one row
module _ (s : Bool) (w : ℕ) (a b : Row) (la : length a ≡ w) (lb : length b ≡ w) where
  same_row : is_equal a b ∷ [] ≡ eqb (num (fit w (value s a))) (num (fit w (value s b))) ∷ []
  same_row = rw (sym (same_size a s w la), sym (same_size b s w lb)) refl

  other_row : not (is_equal a b) ∷ [] ≡ not (eqb (num (fit w (value s a))) (num (fit w (value s b)))) ∷ []
  other_row = rw (sym (same_size a s w la), sym (same_size b s w lb)) refl

pub is_eq : (s : Bool) → IsComparison compare.Eq s false operator.Eq
is_eq s = record { fits = λ w. (refl, refl); row = same_row s }

pub is_eqx : (s : Bool) → IsComparison compare.Eqx s false operator.Eq
is_eqx s = record { fits = λ w. (refl, refl); row = same_row s }

pub is_ne : (s : Bool) → IsComparison compare.Ne s false operator.Neq
is_ne s = record { fits = λ w. (refl, refl); row = other_row s }

pub is_nex : (s : Bool) → IsComparison compare.Nex s false operator.Neq
is_nex s = record { fits = λ w. (refl, refl); row = other_row s }
