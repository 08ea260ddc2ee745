-- Slices.
use Rattle.std.proofs.Common.{◌≡◌, ℕ, ◌<◌, ◌≤◌, min, List, ◌∷◌, length, Some, None, Result, Ok, Err, refl, subst, arith}
use Rattle.design_signals.specs.declared.sig_bit.SigBit.{SigBit}
use Rattle.rtlil_constant.specs.Constants.{Word, slice_of}
use Rattle.design_reader.specs.Grammar.{◌⊳◌, slice_word, slice_fault}
use Rattle.design_signals.specs.Parts.{slice_row}
use Rattle.design_reader.specs.declared.fault.ReadFaultKind.{ReadFaultKind}

abbrev Bits : Type 0
Bits = List SigBit

abbrev pub with_rows : List Bits → Bits → Result (List Bits) ReadFaultKind
with_rows rows part = Ok (part ∷ rows)

pub slice_no : (row : Bits) (rows : List Bits) (w : Word) (n m width : ℕ) (k : ReadFaultKind) → slice_of w ≡ Some (n, m) → width ≡ length row → slice_fault width n m ≡ Some k → (slice_word row w ⊳ λ part. with_rows rows part) ≡ Err k
slice_no row rows w n m width k e same f =
    let g : slice_fault (length row) n m ≡ Some k = subst (λ (x : ℕ). slice_fault x n m ≡ Some k) same f in
    rw (e, g) refl

pub slice_yes : (row : Bits) (rows : List Bits) (w : Word) (n m width high low : ℕ) → slice_of w ≡ Some (n, m) → width ≡ length row → slice_fault width n m ≡ None → high ≡ min n 18446744073709551615 → low ≡ min m 18446744073709551615
    → low ≤ high → high < 18446744073709551615 → (slice_word row w ⊳ λ part. with_rows rows part) ≡ Ok (slice_row row high low ∷ rows)
slice_yes row rows w n m width high low e same f h l le lt =
    let g : slice_fault (length row) n m ≡ None = subst (λ (x : ℕ). slice_fault x n m ≡ None) same f in
    let a : n ≡ high = omega arith in
    let b : m ≡ low = omega arith in
    rw (e, g, a, b) refl
