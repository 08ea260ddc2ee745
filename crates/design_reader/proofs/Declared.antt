-- Bits that are declared, and what keeps them so.
use Rattle.std.proofs.Common.{◌≡◌, ℕ, zero, suc, ◌+◌, ◌-◌, ◌≤◌, Bool, true, false, cond, Option, Some, None, List, [], ◌∷◌, ◌++◌, length, map, All, refl, sym, subst, arith}
use Rattle.std.specs.Prelude.{reverse, slice_get, ◌==◌}
use Rattle.std.proofs.lemmas.List.{reverse-append}
use Rattle.std.proofs.lemmas.List.Elements.{All-nil, All-cons, All-head, All-tail, All-append, All-take, All-drop, All-weaker, All-push}
use Rattle.cell_table.specs.declared.kind.Kind.{Kind}
use Rattle.design_core.specs.Ports.{names_parameter, parameter_number, port_number}
use Rattle.design_core.specs.Shape.{WireOf, CellOf, IsDeclared, IsNumbered, IsCellOf}
use Rattle.design_core.specs.declared.names.ParameterName.{ParameterName}
use Rattle.design_core.specs.declared.names.PortName.{PortName}
use Rattle.design_core.specs.declared.parts.Parameter.{Parameter}
use Rattle.design_core.specs.declared.parts.Port.{Port}
use Rattle.design_core.proofs.Designs.{IsCellOf-more}
use Rattle.design_core.proofs.Finding.{all-push, distinct-push}
use Rattle.design_signals.specs.Parts.{wire_row, slice_row}
use Rattle.design_signals.specs.declared.sig_bit.SigBit.{SigBit}
use Rattle.design_signals.specs.declared.sig_bit.SigBit.TheVariants.{Wire, Const, Free}
use Rattle.design_core.specs.declared.digit.Digit.{Digit}
use Rattle.design_core.specs.declared.digit.Digit.TheVariants.{Const as ConstDigit, Free as FreeDigit, Marker}
use Rattle.rtlil_constant.specs.Constants.{Word, is_open, open_digits}
use Rattle.design_reader.specs.Grammar.{plain_bit, plain_digit, numbered_bits, numbered_digits, has_parameter, has_port, kept_parameter, named_parameter, named_port, with_parameter, with_port, with_free}
use Rattle.design_reader.specs.Parts.{CellDraftOf, DraftOf}
use Rattle.design_reader.specs.Drafts.{AreDeclared, FitsCell, FitsParameter, FitsPort, FitsTarget, FitsRows}
use Rattle.design_reader.specs.declared.spot.Target.{Target}
use Rattle.design_reader.specs.declared.spot.Target.TheVariants.{Port as ToPort, Left, Right}

-- ---- more free bits

bit_more : (ws : List WireOf) (f g : ℕ) → f ≤ g → (b : SigBit) → IsDeclared ws f b → IsDeclared ws g b
bit_more ws f g le (Wire i b) h = h
bit_more ws f g le (Const b) h = tt
bit_more ws f g le (Free n) h = omega arith

digit_more : (f g : ℕ) → f ≤ g → (x : Digit) → IsNumbered f x → IsNumbered g x
digit_more f g le (ConstDigit b) h = tt
digit_more f g le (FreeDigit n) h = omega arith
digit_more f g le Marker h = tt

abbrev Bits : Type 0
Bits = List SigBit

row_more : (ws : List WireOf) (f g : ℕ) → f ≤ g → (row : Bits) → All (IsDeclared ws f) row → All (IsDeclared ws g) row
row_more ws f g le row h = All-weaker (IsDeclared ws f) (IsDeclared ws g) (bit_more ws f g le) row h

rows_more : (ws : List WireOf) (f g : ℕ) → f ≤ g → (rows : List Bits) → All (λ row. All (IsDeclared ws f) row) rows → All (λ row. All (IsDeclared ws g) row) rows
rows_more ws f g le rows h = All-weaker (λ (row : Bits). All (IsDeclared ws f) row) (λ (row : Bits). All (IsDeclared ws g) row) (row_more ws f g le) rows h

cell_more : (ws : List WireOf) (f g : ℕ) → f ≤ g → (c : CellOf) → IsCellOf ws f c → IsCellOf ws g c
cell_more ws f g le c h = IsCellOf-more ws ws f g (bit_more ws f g le) (digit_more f g le) c h

pub target_more : (d : DraftOf) (n : ℕ) (t : Target) → FitsTarget d t → FitsTarget (with_free d n) t
target_more d n (ToPort c name) h = (cell_more d.design.wires d.design.free (d.design.free + n) (omega arith) c.cell h.0, h.1)
target_more d n Left h = tt
target_more d n (Right left) h = row_more d.design.wires d.design.free (d.design.free + n) (omega arith) left h

-- ---- bits of a signal

pub wire_declared : (ws : List WireOf) (free w : ℕ) (x : WireOf) → slice_get ws w ≡ Some x → (n : ℕ) → n ≤ x.width → All (IsDeclared ws free) (wire_row w n)
wire_declared ws free w x e zero le = All-nil (IsDeclared ws free)
wire_declared ws free w x e (suc n) le = All-cons (IsDeclared ws free) (Wire w n) (wire_row w n) (x, e, omega arith) (wire_declared ws free w x e n (omega arith))

abbrev by_open : (ws : List WireOf) (free n : ℕ) (c : ℕ) (digits : List ℕ) → Bool → Type 0
by_open ws free n c digits v = n + cond v (1 + open_digits digits) (open_digits digits) ≤ free → All (IsDeclared ws free) (cond v (Free n ∷ numbered_bits (n + 1) digits) (plain_bit c ∷ numbered_bits n digits))

pub numbered_declared : (ws : List WireOf) (free n : ℕ) (digits : List ℕ) → n + open_digits digits ≤ free → All (IsDeclared ws free) (numbered_bits n digits)
numbered_declared ws free n [] le = All-nil (IsDeclared ws free)
numbered_declared ws free n (c ∷ digits) le =
    elim (is_open c) as (λ v. by_open ws free n c digits v) [
      | true ↦ λ h. All-cons (IsDeclared ws free) (Free n) (numbered_bits (n + 1) digits) (omega arith) (numbered_declared ws free (n + 1) digits (omega arith))
      | false ↦ λ h. All-cons (IsDeclared ws free) (plain_bit c) (numbered_bits n digits) tt (numbered_declared ws free n digits h)
    ] le

pub plain_declared : (ws : List WireOf) (free : ℕ) (digits : List ℕ) → All (IsDeclared ws free) (map plain_bit digits)
plain_declared ws free [] = All-nil (IsDeclared ws free)
plain_declared ws free (c ∷ digits) = All-cons (IsDeclared ws free) (plain_bit c) (map plain_bit digits) tt (plain_declared ws free digits)

pub reverse_all : {X : Type 0} (P : X → Type 0) (xs : List X) → All P xs → All P (reverse xs)
reverse_all P [] h = h
reverse_all P (x ∷ xs) h = subst (All P) (sym (reverse-append (x ∷ []) xs)) (All-append P (reverse xs) (x ∷ []) (reverse_all P xs (All-tail P x xs h)) (All-cons P x [] (All-head P x xs h) (All-nil P)))

-- ---- rows

pub rows_with : (d : DraftOf) (row : Bits) (rows : List Bits) → AreDeclared d row → FitsRows d rows → FitsRows d (row ∷ rows)
rows_with d row rows h k = All-cons (λ r. AreDeclared d r) row rows h k

pub rows_none : (d : DraftOf) → FitsRows d []
rows_none d = All-nil (λ r. AreDeclared d r)

pub rows_one : (d : DraftOf) (row : Bits) (rows : List Bits) → FitsRows d (row ∷ rows) → AreDeclared d row
rows_one d row rows h = All-head (λ r. AreDeclared d r) row rows h

pub rows_rest : (d : DraftOf) (row : Bits) (rows : List Bits) → FitsRows d (row ∷ rows) → FitsRows d rows
rows_rest d row rows h = All-tail (λ r. AreDeclared d r) row rows h

pub rows_joined : (d : DraftOf) (row above : Bits) (rows : List Bits) → FitsRows d (row ∷ above ∷ rows) → FitsRows d ((above ++ row) ∷ rows)
rows_joined d row above rows h =
    let others = rows_rest d row (above ∷ rows) h in
    rows_with d (above ++ row) rows (All-append (IsDeclared d.design.wires d.design.free) above row (rows_one d above rows others) (rows_one d row (above ∷ rows) h)) (rows_rest d above rows others)

pub rows_sliced : (d : DraftOf) (row : Bits) (rows : List Bits) (n m : ℕ) → FitsRows d (row ∷ rows) → FitsRows d (slice_row row n m ∷ rows)
rows_sliced d row rows n m h =
    let bit = IsDeclared d.design.wires d.design.free in
    rows_with d (slice_row row n m) rows (All-take bit (n + 1 - m) _ (All-drop bit (length row - (n + 1)) row (rows_one d row rows h))) (rows_rest d row rows h)

pub rows_more_free : (d : DraftOf) (n : ℕ) (rows : List Bits) → FitsRows d rows → FitsRows (with_free d n) rows
rows_more_free d n rows h = rows_more d.design.wires d.design.free (d.design.free + n) (omega arith) rows h

-- ---- parts of a cell

pub cell_with_port : (d : DraftOf) (c : CellDraftOf) (label : Option PortName) (row : Bits) → FitsCell d c → FitsPort c label → AreDeclared d row → FitsCell d (with_port c label row)
cell_with_port d c None row h free k = h
cell_with_port d c (Some p) row h free k = record {
  ports = All-push (λ (x : Port). All (IsDeclared d.design.wires d.design.free) x.signal) c.cell.ports (record { name = p; signal = reverse row }) h.ports (reverse_all (IsDeclared d.design.wires d.design.free) row k);
  parameters = h.parameters;
  one_port = distinct-push (λ (x : Port). port_number x.name) (record { name = p; signal = reverse row }) (port_number p) refl c.cell.ports h.one_port free;
  one_parameter = h.one_parameter;
  named = h.named;
}

-- a name alone changes nothing of it
cell_with_foreign : (d : DraftOf) (c : CellDraftOf) (name : Word) (label : Option PortName) → FitsCell d c → FitsCell d (named_port c name label)
cell_with_foreign d c name None h = record { ports = h.ports; parameters = h.parameters; one_port = h.one_port; one_parameter = h.one_parameter; named = h.named }
cell_with_foreign d c name (Some p) h = h

plain_number : (free c : ℕ) → IsNumbered free (plain_digit c)
plain_number free c =
    elim (c == 48) as (λ v. IsNumbered free (cond v (ConstDigit false) (cond (c == 49) (ConstDigit true) Marker))) [
      | true ↦ tt
      | false ↦ elim (c == 49) as (λ v. IsNumbered free (cond v (ConstDigit true) Marker)) [ true ↦ tt | false ↦ tt ]
    ]

plain_numbers : (free : ℕ) (digits : List ℕ) → All (IsNumbered free) (map plain_digit digits)
plain_numbers free [] = All-nil (IsNumbered free)
plain_numbers free (c ∷ digits) = All-cons (IsNumbered free) (plain_digit c) (map plain_digit digits) (plain_number free c) (plain_numbers free digits)

abbrev digits_open : (free n : ℕ) (c : ℕ) (digits : List ℕ) → Bool → Type 0
digits_open free n c digits v = n + cond v (1 + open_digits digits) (open_digits digits) ≤ free → All (IsNumbered free) (cond v (FreeDigit n ∷ numbered_digits (n + 1) digits) (plain_digit c ∷ numbered_digits n digits))

free_numbers : (free n : ℕ) (digits : List ℕ) → n + open_digits digits ≤ free → All (IsNumbered free) (numbered_digits n digits)
free_numbers free n [] le = All-nil (IsNumbered free)
free_numbers free n (c ∷ digits) le =
    elim (is_open c) as (λ v. digits_open free n c digits v) [
      | true ↦ λ h. All-cons (IsNumbered free) (FreeDigit n) (numbered_digits (n + 1) digits) (omega arith) (free_numbers free (n + 1) digits (omega arith))
      | false ↦ λ h. All-cons (IsNumbered free) (plain_digit c) (numbered_digits n digits) (plain_number free c) (free_numbers free n digits h)
    ] le

with_digits : (ws : List WireOf) (free : ℕ) (c : CellDraftOf) (p : ParameterName) (digits : List Digit) → IsCellOf ws free c.cell → FitsParameter c (Some p) → All (IsNumbered free) digits
    → IsCellOf ws free (with_parameter c p digits).cell
with_digits ws free c p digits h fresh k = record {
  ports = h.ports;
  parameters = All-push (λ (x : Parameter). All (IsNumbered free) x.digits) c.cell.parameters (record { name = p; digits = digits }) h.parameters k;
  one_port = h.one_port;
  one_parameter = distinct-push (λ (x : Parameter). parameter_number x.name) (record { name = p; digits = digits }) (parameter_number p) refl c.cell.parameters h.one_parameter fresh.1;
  named = all-push (λ (x : Parameter). names_parameter c.cell.kind x.name) (record { name = p; digits = digits }) c.cell.parameters h.named fresh.0;
}

pub cell_with_plain : (d : DraftOf) (c : CellDraftOf) (p : ParameterName) (digits : List ℕ) → FitsCell d c → FitsParameter c (Some p) → FitsCell d (with_parameter c p (map plain_digit (reverse digits)))
cell_with_plain d c p digits h fresh = with_digits d.design.wires d.design.free c p _ h fresh (plain_numbers d.design.free (reverse digits))

pub cell_with_free : (d : DraftOf) (c : CellDraftOf) (p : ParameterName) (digits : List ℕ) → FitsCell d c → FitsParameter c (Some p)
    → FitsCell (with_free d (open_digits digits)) (with_parameter c p (reverse (numbered_digits d.design.free digits)))
cell_with_free d c p digits h fresh =
    let more = d.design.free + open_digits digits in
    with_digits d.design.wires more c p _ (cell_more d.design.wires d.design.free more (omega arith) c.cell h) fresh
    (reverse_all (IsNumbered more) (numbered_digits d.design.free digits) (free_numbers more d.design.free digits (omega arith)))

-- ---- the only row as a signal

pub signal_declared : (d : DraftOf) (rows : List Bits) (signal : Bits) → length rows ≡ 1 → FitsRows d rows → ((row : Bits) → rows ≡ row ∷ [] → signal ≡ reverse row) → AreDeclared d signal
signal_declared d [] signal one h made = absurd (omega arith)
signal_declared d (row ∷ above ∷ rows) signal one h made = absurd (omega arith)
signal_declared d (row ∷ []) signal one h made =
    subst (λ (x : Bits). AreDeclared d x) (sym (made row refl)) (reverse_all (IsDeclared d.design.wires d.design.free) row (rows_one d row [] h))

pub port_fits : (d : DraftOf) (rows : List Bits) (signal : Bits) (c new : CellDraftOf) (label : Option PortName) → length rows ≡ 1 → FitsRows d rows → ((row : Bits) → rows ≡ row ∷ [] → signal ≡ reverse row)
    → ((row : Bits) → signal ≡ reverse row → new ≡ with_port c label row) → FitsCell d c → FitsPort c label → FitsCell d new
port_fits d [] signal c new label one h made added fits free = absurd (omega arith)
port_fits d (row ∷ above ∷ rows) signal c new label one h made added fits free = absurd (omega arith)
port_fits d (row ∷ []) signal c new label one h made added fits free =
    subst (λ (x : CellDraftOf). FitsCell d x) (sym (added row (made row refl))) (cell_with_port d c label row fits free (rows_one d row [] h))

-- ---- a parameter or a port that is named

kept_names : (kind : Kind) (found : Option ParameterName) (p : ParameterName) → kept_parameter kind found ≡ Some p → names_parameter kind p ≡ true
kept_names kind None p e = absurd cc
kept_names kind (Some q) p e =
    elim (names_parameter kind q) as (λ v. names_parameter kind q ≡ v → cond v (Some q) None ≡ Some p → names_parameter kind p ≡ true) [
      | true ↦ λ f g. let same : q ≡ p = cc in subst (λ (x : ParameterName). names_parameter kind x ≡ true) same f
      | false ↦ λ f g. absurd cc
    ] refl e

pub parameter_begun : (d : DraftOf) (c : CellDraftOf) (name : Word) (found label : Option ParameterName) → label ≡ kept_parameter c.cell.kind found → has_parameter c name label ≡ false → FitsCell d c
    → FitsCell d (named_parameter c name label) × FitsParameter (named_parameter c name label) label
parameter_begun d c name found None e absent h = (h, tt)
parameter_begun d c name found (Some p) e absent h = (h, (kept_names c.cell.kind found p (sym e), absent))

pub port_begun : (d : DraftOf) (c : CellDraftOf) (name : Word) (label : Option PortName) → has_port c name label ≡ false → FitsCell d c
    → (FitsCell d (named_port c name label) × FitsPort (named_port c name label) label) × FitsRows d []
port_begun d c name None absent h = ((cell_with_foreign d c name None h, tt), rows_none d)
port_begun d c name (Some p) absent h = ((h, absent), rows_none d)
