-- Registers by their lines of the table, and cells that hold nothing.
use Rattle.std.proofs.Common.{◌≡◌, ℕ, Bool, true, false, cond, not, ◌&&◌, ◌||◌, List, [], ◌∷◌, refl, ap, sym, ◌∙◌}
use Rattle.std.specs.List.{list_any}
use Rattle.std.proofs.lemmas.Bool.{false≢true, true≢false}
use Rattle.sby_bits.specs.Rows.{Row}
use Rattle.cell_table.specs.declared.kind.Any.TheVariants.{Const as AnyConst, Seq as AnySeq}
use Rattle.cell_table.specs.declared.kind.Kind.{Kind}
use Rattle.cell_table.specs.declared.kind.Kind.TheVariants.{Unary as UnaryCell, Binary as BinaryCell, Reduce as ReduceCell, Logic as LogicCell, Compare as CompareCell, ShiftLeft, ShiftRight, ShiftSign, ShiftAny, Divide as DivideCell, Mux, Pmux, Bmux, Slice, Concat, Ff, Dff, Dffe, Sdff, Sdffe, Sdffce, Adff, Adffe, Statement as StatementCell, Any as AnyCell, InitState, LeftOut as LeftOutCell, Unknown}
use Rattle.design_core.specs.Cells.{next_row, next_state}
use Rattle.design_core.specs.Ports.{is_port}
use Rattle.design_core.specs.Table.{ports_of, role_of}
use Rattle.design_core.specs.declared.names.PortName.{PortName}
use Rattle.design_core.specs.declared.names.PortName.TheVariants.{A, D, En, Srst, Arst}
use Rattle.design_core.specs.declared.table.PortLine.{PortLine}
use Rattle.design_core.specs.declared.table.PortWidth.{PortWidth}
use Rattle.design_core.specs.declared.table.PortWidth.TheVariants.{One, Of, Product, Choice, Sum}
use Rattle.design_core.specs.declared.table.Role.{Role}
use Rattle.design_core.specs.declared.table.Role.TheVariants.{Combinational, Register, AsyncResetRegister, Constant, Initial, Source, Statement, Unsupported}
use Rattle.design_meaning.specs.Meaning.{is_register}
use Rattle.word_model.specs.Kinds.{asks, is_reset_value}
use Rattle.word_model.proofs.Cells.{kept_next}

-- what is asked of a register's controls and rows: what they are where the table asks for them, and where it doesn't
pub record IsLine (k : Kind) (e r E R : Bool) (d v D' V : Row) : Type 0 where
  pub enabled : asks k En ≡ true → e ≡ E
  pub always : asks k En ≡ false → e ≡ true
  pub reset : asks k Srst ≡ true → (r ≡ R) × (v ≡ V)
  pub reset_at_once : asks k Srst ≡ false → asks k Arst ≡ true → (r ≡ R) × (v ≡ V)
  pub never : asks k Srst ≡ false → asks k Arst ≡ false → r ≡ false
  pub taken : d ≡ D'

same-next : (f e r E R : Bool) (d v D' V q : Row) → e ≡ E → r ≡ R → d ≡ D' → v ≡ V → kept_next f e r d v q ≡ kept_next f E R D' V q
same-next f e r E R d v D' V q he hr hd hv =
    ap (λ (x : Bool). kept_next f x r d v q) he
    ∙ (ap (λ (x : Bool). kept_next f E x d v q) hr ∙ (ap (λ (x : Row). kept_next f E R x v q) hd ∙ ap (λ (x : Row). kept_next f E R D' x q) hv))

module _ (e r E R : Bool) (d v D' V q : Row) where
  pub line-next : (k : Kind) → is_register (role_of k) ≡ true → IsLine k e r E R d v D' V → kept_next (is_reset_value (next_state k false true)) e r d v q ≡ next_row (next_state k E R) D' V q
  line-next Ff t h = same-next false e r true false d v D' v q (h.always refl) (h.never refl refl) h.taken refl
  line-next Dff t h = same-next false e r true false d v D' v q (h.always refl) (h.never refl refl) h.taken refl
  line-next Dffe t h = same-next false e r E false d v D' v q (h.enabled refl) (h.never refl refl) h.taken refl ∙ by E
    where
      by : (E' : Bool) → cond E' D' q ≡ next_row (next_state Dffe E' R) D' V q
      by true = refl
      by false = refl
  line-next Sdff t h = same-next true e r true R d v D' V q (h.always refl) (h.reset refl).0 h.taken (h.reset refl).1 ∙ by R
    where
      by : (R' : Bool) → cond R' V D' ≡ next_row (next_state Sdff E R') D' V q
      by true = refl
      by false = refl
  line-next Sdffe t h = same-next true e r E R d v D' V q (h.enabled refl) (h.reset refl).0 h.taken (h.reset refl).1 ∙ by R E
    where
      by : (R' E' : Bool) → cond R' V (cond E' D' q) ≡ next_row (next_state Sdffe E' R') D' V q
      by true E' = refl
      by false true = refl
      by false false = refl
  line-next Sdffce t h = same-next false e r E R d v D' V q (h.enabled refl) (h.reset refl).0 h.taken (h.reset refl).1 ∙ by E R
    where
      by : (E' R' : Bool) → cond E' (cond R' V D') q ≡ next_row (next_state Sdffce E' R') D' V q
      by true true = refl
      by true false = refl
      by false R' = refl
  line-next Adff t h = same-next true e r true R d v D' V q (h.always refl) (h.reset_at_once refl refl).0 h.taken (h.reset_at_once refl refl).1 ∙ by R
    where
      by : (R' : Bool) → cond R' V D' ≡ next_row (next_state Adff E R') D' V q
      by true = refl
      by false = refl
  line-next Adffe t h = same-next true e r E R d v D' V q (h.enabled refl) (h.reset_at_once refl refl).0 h.taken (h.reset_at_once refl refl).1 ∙ by R E
    where
      by : (R' E' : Bool) → cond R' V (cond E' D' q) ≡ next_row (next_state Adffe E' R') D' V q
      by true E' = refl
      by false true = refl
      by false false = refl
  line-next (UnaryCell k) t h = absurd cc
  line-next (BinaryCell k) t h = absurd cc
  line-next (ReduceCell k) t h = absurd cc
  line-next (LogicCell k) t h = absurd cc
  line-next (CompareCell k) t h = absurd cc
  line-next ShiftLeft t h = absurd cc
  line-next ShiftRight t h = absurd cc
  line-next ShiftSign t h = absurd cc
  line-next ShiftAny t h = absurd cc
  line-next (DivideCell k) t h = absurd cc
  line-next Mux t h = absurd cc
  line-next Pmux t h = absurd cc
  line-next Bmux t h = absurd cc
  line-next Slice t h = absurd cc
  line-next Concat t h = absurd cc
  line-next (StatementCell k) t h = absurd cc
  line-next (AnyCell AnyConst) t h = absurd cc
  line-next (AnyCell AnySeq) t h = absurd cc
  line-next InitState t h = absurd cc
  line-next (LeftOutCell k) t h = absurd cc
  line-next Unknown t h = absurd cc

abbrev pub is_one : PortWidth → Bool
is_one One = true
is_one (Of q) = false
is_one (Product x y) = false
is_one (Choice x y) = false
is_one (Sum x y) = false

-- the line asks one bit at the port
abbrev pub is_bit : Kind → PortName → Bool
is_bit k name = list_any (λ (l : PortLine). is_port l.name name && is_one l.width) (ports_of k)

abbrev bits : Kind → Bool
bits k = (not (asks k En) || is_bit k En) && ((not (asks k Srst) || is_bit k Srst) && (not (asks k Arst) || is_bit k Arst))

bits-hold : (k : Kind) → bits k ≡ true
bits-hold (UnaryCell k) = refl
bits-hold (BinaryCell k) = refl
bits-hold (ReduceCell k) = refl
bits-hold (LogicCell k) = refl
bits-hold (CompareCell k) = refl
bits-hold ShiftLeft = refl
bits-hold ShiftRight = refl
bits-hold ShiftSign = refl
bits-hold ShiftAny = refl
bits-hold (DivideCell k) = refl
bits-hold Mux = refl
bits-hold Pmux = refl
bits-hold Bmux = refl
bits-hold Slice = refl
bits-hold Concat = refl
bits-hold Ff = refl
bits-hold Dff = refl
bits-hold Dffe = refl
bits-hold Sdff = refl
bits-hold Sdffe = refl
bits-hold Sdffce = refl
bits-hold Adff = refl
bits-hold Adffe = refl
bits-hold (StatementCell k) = refl
bits-hold (AnyCell k) = refl
bits-hold InitState = refl
bits-hold (LeftOutCell k) = refl
bits-hold Unknown = refl

both : (a b : Bool) → (a && b) ≡ true → (a ≡ true) × (b ≡ true)
both true true h = (refl, refl)
both true false h = absurd cc
both false b h = absurd cc

implied : (a b : Bool) → (not a || b) ≡ true → a ≡ true → b ≡ true
implied true b h e = h
implied false b h e = absurd (false≢true e)

pub enable-bit : (k : Kind) → asks k En ≡ true → is_bit k En ≡ true
enable-bit k h = implied (asks k En) (is_bit k En) (both (not (asks k En) || is_bit k En) _ (bits-hold k)).0 h

resets : (k : Kind) → ((not (asks k Srst) || is_bit k Srst) && (not (asks k Arst) || is_bit k Arst)) ≡ true
resets k = (both (not (asks k En) || is_bit k En) _ (bits-hold k)).1

pub reset-bit : (k : Kind) → asks k Srst ≡ true → is_bit k Srst ≡ true
reset-bit k h = implied (asks k Srst) (is_bit k Srst) (both (not (asks k Srst) || is_bit k Srst) (not (asks k Arst) || is_bit k Arst) (resets k)).0 h

pub reset-at-once-bit : (k : Kind) → asks k Arst ≡ true → is_bit k Arst ≡ true
reset-at-once-bit k h = implied (asks k Arst) (is_bit k Arst) (both (not (asks k Srst) || is_bit k Srst) (not (asks k Arst) || is_bit k Arst) (resets k)).1 h

-- of a register, which reset the table asks for
pub reset-role : (k : Kind) → asks k Srst ≡ true → role_of k ≡ Register
reset-role Sdff h = refl
reset-role Sdffe h = refl
reset-role Sdffce h = refl
reset-role Ff h = absurd cc
reset-role Dff h = absurd cc
reset-role Dffe h = absurd cc
reset-role Adff h = absurd cc
reset-role Adffe h = absurd cc
reset-role (UnaryCell k) h = absurd cc
reset-role (BinaryCell k) h = absurd cc
reset-role (ReduceCell k) h = absurd cc
reset-role (LogicCell k) h = absurd cc
reset-role (CompareCell k) h = absurd cc
reset-role ShiftLeft h = absurd cc
reset-role ShiftRight h = absurd cc
reset-role ShiftSign h = absurd cc
reset-role ShiftAny h = absurd cc
reset-role (DivideCell k) h = absurd cc
reset-role Mux h = absurd cc
reset-role Pmux h = absurd cc
reset-role Bmux h = absurd cc
reset-role Slice h = absurd cc
reset-role Concat h = absurd cc
reset-role (StatementCell k) h = absurd cc
reset-role (AnyCell k) h = absurd cc
reset-role InitState h = absurd cc
reset-role (LeftOutCell k) h = absurd cc
reset-role Unknown h = absurd cc

pub reset-at-once-role : (k : Kind) → asks k Arst ≡ true → role_of k ≡ AsyncResetRegister
reset-at-once-role Adff h = refl
reset-at-once-role Adffe h = refl
reset-at-once-role Sdff h = absurd cc
reset-at-once-role Sdffe h = absurd cc
reset-at-once-role Sdffce h = absurd cc
reset-at-once-role Ff h = absurd cc
reset-at-once-role Dff h = absurd cc
reset-at-once-role Dffe h = absurd cc
reset-at-once-role (UnaryCell k) h = absurd cc
reset-at-once-role (BinaryCell k) h = absurd cc
reset-at-once-role (ReduceCell k) h = absurd cc
reset-at-once-role (LogicCell k) h = absurd cc
reset-at-once-role (CompareCell k) h = absurd cc
reset-at-once-role ShiftLeft h = absurd cc
reset-at-once-role ShiftRight h = absurd cc
reset-at-once-role ShiftSign h = absurd cc
reset-at-once-role ShiftAny h = absurd cc
reset-at-once-role (DivideCell k) h = absurd cc
reset-at-once-role Mux h = absurd cc
reset-at-once-role Pmux h = absurd cc
reset-at-once-role Bmux h = absurd cc
reset-at-once-role Slice h = absurd cc
reset-at-once-role Concat h = absurd cc
reset-at-once-role (StatementCell k) h = absurd cc
reset-at-once-role (AnyCell k) h = absurd cc
reset-at-once-role InitState h = absurd cc
reset-at-once-role (LeftOutCell k) h = absurd cc
reset-at-once-role Unknown h = absurd cc

-- what the other cells hold next, by their roles
abbrev pub other_next : Role → Row → Row → Row
other_next Combinational q register = []
other_next Register q register = register
other_next AsyncResetRegister q register = register
other_next Constant q register = q
other_next Initial q register = false ∷ []
other_next Source q register = []
other_next Statement q register = []
other_next Unsupported q register = []

pub role-next : (k : Kind) (E R : Bool) (d V q : Row) → next_row (next_state k E R) d V q ≡ other_next (role_of k) q (next_row (next_state k E R) d V q)
role-next (UnaryCell k) E R d V q = refl
role-next (BinaryCell k) E R d V q = refl
role-next (ReduceCell k) E R d V q = refl
role-next (LogicCell k) E R d V q = refl
role-next (CompareCell k) E R d V q = refl
role-next ShiftLeft E R d V q = refl
role-next ShiftRight E R d V q = refl
role-next ShiftSign E R d V q = refl
role-next ShiftAny E R d V q = refl
role-next (DivideCell k) E R d V q = refl
role-next Mux E R d V q = refl
role-next Pmux E R d V q = refl
role-next Bmux E R d V q = refl
role-next Slice E R d V q = refl
role-next Concat E R d V q = refl
role-next Ff E R d V q = refl
role-next Dff E R d V q = refl
role-next Dffe E R d V q = refl
role-next Sdff E R d V q = refl
role-next Sdffe E R d V q = refl
role-next Sdffce E R d V q = refl
role-next Adff E R d V q = refl
role-next Adffe E R d V q = refl
role-next (StatementCell k) E R d V q = refl
role-next (AnyCell AnyConst) E R d V q = refl
role-next (AnyCell AnySeq) E R d V q = refl
role-next InitState E R d V q = refl
role-next (LeftOutCell k) E R d V q = refl
role-next Unknown E R d V q = refl
