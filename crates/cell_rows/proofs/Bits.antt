-- Rows that are made bit by bit.
use Rattle.std.proofs.Common.{◌≡◌, ℕ, zero, suc, ◌<◌, Bool, false, not, ◌&&◌, [], ◌∷◌, length, get_or, refl, sym, ◌∙◌, ap, arith}
use Rattle.std.specs.Prelude.{ℤ, negsuc, ◌-ℤ◌}
use Rattle.std.proofs.lemmas.List.{ext_get_or}
use Rattle.sby_bits.specs.Rows.{Row, ext, fit, top_bit, value}
use Rattle.sby_bits.proofs.Numbers.{complement-at, length-fit, row_is, value-at}
use Rattle.sby_bits.proofs.RowLaws.{extended_bits}
use Rattle.cell_table.specs.Cells.{binary_fn, bitwise}
use Rattle.cell_table.specs.declared.kind.Binary.{Binary}
use Rattle.cell_table.specs.declared.kind.Binary.TheVariants.{And, Or, Xor, Xnor, Add, Sub, Mul}
use Rattle.cell_rows.specs.Bits.{IsBitwise, bit_fn}

pub complement_is : (y : ℕ) (a : Row) (signed fill : Bool) (r : Row) → length r ≡ y → fill ≡ (signed && top_bit a) → ((k : ℕ) → k < y → get_or r k false ≡ not (get_or a k fill)) → r ≡ fit y (negsuc 0 -ℤ value signed a)
complement_is y a signed fill r n f h = row_is r y (negsuc 0 -ℤ value signed a) n
    (λ k l. h k l ∙ ap (λ (b : Bool). not (get_or a k b)) f ∙ ap not (sym (value-at a signed k)) ∙ sym (complement-at (value signed a) k))

bitwise-at : (f : Bool → Bool → Bool) (r s : Row) (k : ℕ) → k < length r → k < length s → get_or (bitwise f r s) k false ≡ f (get_or r k false) (get_or s k false)
bitwise-at f [] s k h l = absurd (omega arith)
bitwise-at f (a ∷ r) [] k h l = absurd (omega arith)
bitwise-at f (a ∷ r) (b ∷ s) zero h l = refl
bitwise-at f (a ∷ r) (b ∷ s) (suc k) h l = bitwise-at f r s k (omega arith) (omega arith)

length-bitwise : (f : Bool → Bool → Bool) (r s : Row) → length r ≡ length s → length (bitwise f r s) ≡ length r
length-bitwise f [] s e = refl
length-bitwise f (a ∷ r) [] e = absurd (omega arith)
length-bitwise f (a ∷ r) (b ∷ s) e = let n = length-bitwise f r s (omega arith) in omega arith

pub bits_are : (y : ℕ) (a b : Row) (signed p q : Bool) → p ≡ (signed && top_bit a) → q ≡ (signed && top_bit b) → (f : Bool → Bool → Bool) (r : Row) → length r ≡ y →
    ((k : ℕ) → k < y → get_or r k false ≡ f (get_or a k p) (get_or b k q)) → r ≡ bitwise f (ext a signed y) (ext b signed y)
bits_are y a b signed p q pa qb f r n h =
    let la : length (ext a signed y) ≡ y = length-fit y (value signed a) in
    let lb : length (ext b signed y) ≡ y = length-fit y (value signed b) in
    ext_get_or false r (bitwise f (ext a signed y) (ext b signed y)) (n ∙ sym (length-bitwise f (ext a signed y) (ext b signed y) (la ∙ sym lb) ∙ la))
    (λ k l.
    let below : k < y = omega arith in
    h k below ∙ ap (λ (t : Bool). f (get_or a k t) (get_or b k q)) pa ∙ ap (λ (t : Bool). f (get_or a k (signed && top_bit a)) (get_or b k t)) qb
    ∙ sym (bitwise-at f (ext a signed y) (ext b signed y) k (omega arith) (omega arith)
    ∙ ap (λ (t : Bool). f t (get_or (ext b signed y) k false)) (extended_bits a signed y k below)
    ∙ ap (f (get_or a k (signed && top_bit a))) (extended_bits b signed y k below)))

pub bitwise_fits : (k : Binary) → IsBitwise k → (y : ℕ) (m n : ℤ) → bitwise (bit_fn k) (fit y m) (fit y n) ≡ binary_fn k y m n
bitwise_fits And is y m n = refl
bitwise_fits Or is y m n = refl
bitwise_fits Xor is y m n = refl
bitwise_fits Xnor is y m n = refl
bitwise_fits Add is y m n = absurd is
bitwise_fits Sub is y m n = absurd is
bitwise_fits Mul is y m n = absurd is
