-- Which of a combinational type's widths the table names for its ports.
use Rattle.std.proofs.Common.{◌≡◌, ℕ, zero, suc, ◌<◌, Bool, true, false, not, eqb, ◌&&◌, ◌||◌, List, [], ◌∷◌, length, Contains, refl, ap, sym, subst, ◌∙◌, arith}
use Rattle.std.specs.List.{list_any}
use Rattle.std.proofs.lemmas.Bool.{eqb-true, false≢true}
use Rattle.cell_table.specs.declared.kind.Any.TheVariants.{Const as AnyConst, Seq as AnySeq}
use Rattle.cell_table.specs.declared.kind.Kind.{Kind}
use Rattle.cell_table.specs.declared.kind.Kind.TheVariants.{Unary as UnaryCell, Binary as BinaryCell, Reduce as ReduceCell, Logic as LogicCell, Compare as CompareCell, ShiftLeft, ShiftRight, ShiftSign, ShiftAny, Divide as DivideCell, Mux, Pmux, Bmux, Slice, Concat, Ff, Dff, Dffe, Sdff, Sdffe, Sdffce, Adff, Adffe, Statement as StatementCell, Any as AnyCell, InitState, LeftOut as LeftOutCell, Unknown}
use Rattle.design_core.specs.Ports.{is_parameter, is_port, names_parameter}
use Rattle.design_core.specs.Table.{ports_of, role_of, width_of}
use Rattle.design_core.specs.declared.names.ParameterName.{ParameterName}
use Rattle.design_core.specs.declared.names.ParameterName.TheVariants.{AWidth, BWidth, YWidth, Width}
use Rattle.design_core.specs.declared.names.PortName.{PortName}
use Rattle.design_core.specs.declared.names.PortName.TheVariants.{A, B, Y}
use Rattle.design_core.specs.declared.table.PortLine.{PortLine}
use Rattle.design_core.specs.declared.table.PortWidth.{PortWidth}
use Rattle.design_core.specs.declared.table.PortWidth.TheVariants.{One, Of, Product, Choice, Sum}
use Rattle.design_core.specs.declared.table.Role.TheVariants.{Combinational}

abbrev pub is_of : PortWidth → ParameterName → Bool
is_of One p = false
is_of (Of q) p = is_parameter q p
is_of (Product x y) p = false
is_of (Choice x y) p = false
is_of (Sum x y) p = false

-- a line gives the port the parameter's width
abbrev pub agrees : Kind → PortName → ParameterName → Bool
agrees k name p = list_any (λ (l : PortLine). is_port l.name name && is_of l.width p) (ports_of k)

abbrev pub fits : Kind → Bool
fits k =
    (not (names_parameter k YWidth) || agrees k Y YWidth) && ((not (names_parameter k Width) || agrees k Y Width)
    && ((not (names_parameter k AWidth) || agrees k A AWidth) && (not (names_parameter k BWidth) || agrees k B BWidth)))

pub fitting : (k : Kind) → role_of k ≡ Combinational → fits k ≡ true
fitting (UnaryCell k) r = refl
fitting (BinaryCell k) r = refl
fitting (ReduceCell k) r = refl
fitting (LogicCell k) r = refl
fitting (CompareCell k) r = refl
fitting ShiftLeft r = refl
fitting ShiftRight r = refl
fitting ShiftSign r = refl
fitting ShiftAny r = refl
fitting (DivideCell k) r = refl
fitting Mux r = refl
fitting Pmux r = refl
fitting Bmux r = refl
fitting Slice r = refl
fitting Concat r = refl
fitting Ff r = absurd cc
fitting Dff r = absurd cc
fitting Dffe r = absurd cc
fitting Sdff r = absurd cc
fitting Sdffe r = absurd cc
fitting Sdffce r = absurd cc
fitting Adff r = absurd cc
fitting Adffe r = absurd cc
fitting (StatementCell k) r = absurd cc
fitting (AnyCell AnyConst) r = absurd cc
fitting (AnyCell AnySeq) r = absurd cc
fitting InitState r = absurd cc
fitting (LeftOutCell k) r = absurd cc
fitting Unknown r = absurd cc

both : (a b : Bool) → (a && b) ≡ true → (a ≡ true) × (b ≡ true)
both true true h = (refl, refl)
both true false h = absurd cc
both false b h = absurd cc

implied : (a b : Bool) → (not a || b) ≡ true → a ≡ true → b ≡ true
implied true b h e = h
implied false b h e = absurd (false≢true e)

pub result-fits : (k : Kind) → role_of k ≡ Combinational → names_parameter k YWidth ≡ true → agrees k Y YWidth ≡ true
result-fits k r h = implied (names_parameter k YWidth) (agrees k Y YWidth) (both (not (names_parameter k YWidth) || agrees k Y YWidth) _ (fitting k r)).0 h

pub word-fits : (k : Kind) → role_of k ≡ Combinational → names_parameter k Width ≡ true → agrees k Y Width ≡ true
word-fits k r h = implied (names_parameter k Width) (agrees k Y Width) (both (not (names_parameter k Width) || agrees k Y Width) _ (both (not (names_parameter k YWidth) || agrees k Y YWidth) _ (fitting k r)).1).0 h

last-two : (k : Kind) → role_of k ≡ Combinational → ((not (names_parameter k AWidth) || agrees k A AWidth) && (not (names_parameter k BWidth) || agrees k B BWidth)) ≡ true
last-two k r = (both (not (names_parameter k Width) || agrees k Y Width) _ (both (not (names_parameter k YWidth) || agrees k Y YWidth) _ (fitting k r)).1).1

pub a-fits : (k : Kind) → role_of k ≡ Combinational → names_parameter k AWidth ≡ true → agrees k A AWidth ≡ true
a-fits k r h = implied (names_parameter k AWidth) (agrees k A AWidth) (both (not (names_parameter k AWidth) || agrees k A AWidth) (not (names_parameter k BWidth) || agrees k B BWidth) (last-two k r)).0 h

pub b-fits : (k : Kind) → role_of k ≡ Combinational → names_parameter k BWidth ≡ true → agrees k B BWidth ≡ true
b-fits k r h = implied (names_parameter k BWidth) (agrees k B BWidth) (both (not (names_parameter k AWidth) || agrees k A AWidth) (not (names_parameter k BWidth) || agrees k B BWidth) (last-two k r)).1 h

-- a line with this port and this width
pub line-of : (name : PortName) (p : ParameterName) (lines : List PortLine) → list_any (λ (l : PortLine). is_port l.name name && is_of l.width p) lines ≡ true
    → (l : PortLine) × Contains lines l × (is_port l.name name ≡ true) × (is_of l.width p ≡ true)
line-of name p [] h = absurd (false≢true h)
line-of name p (l ∷ lines) h = by (is_port l.name name && is_of l.width p) refl h (λ g. line-of name p lines g)
  where
    by : (b : Bool) → (is_port l.name name && is_of l.width p) ≡ b → (b || list_any (λ (x : PortLine). is_port x.name name && is_of x.width p) lines) ≡ true
        → (list_any (λ (x : PortLine). is_port x.name name && is_of x.width p) lines ≡ true → (x : PortLine) × Contains lines x × (is_port x.name name ≡ true) × (is_of x.width p ≡ true))
        → (x : PortLine) × Contains (l ∷ lines) x × (is_port x.name name ≡ true) × (is_of x.width p ≡ true)
    by true e g rest = let r = both (is_port l.name name) (is_of l.width p) e in (l, (0, omega arith, refl), r.0, r.1)
    by false e g rest = let r = rest g in (r.0, (let at = r.1 in let lt = at.1 in (suc at.0, omega (arith, lt), at.2)), r.2, r.3)
