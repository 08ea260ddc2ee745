-- The widths of a flat design's cells, as making nodes and registers needs them.
use Rattle.std.proofs.Common.{◌≡◌, inl, inr, ℕ, zero, suc, ◌+◌, ◌<◌, ◌≤◌, Bool, true, false, cond, not, leb, ◌&&◌, ◌||◌, List, [], ◌∷◌, length, map, Option, Some, None, refl, ap, sym, subst, ◌∙◌, arith}
use Rattle.std.proofs.lemmas.Bool.{false≢true, leb-true, true≢false}
use Rattle.std.proofs.lemmas.List.{length-map}
use Rattle.cell_table.specs.declared.kind.Any.TheVariants.{Const as AnyConst, Seq as AnySeq}
use Rattle.cell_table.specs.declared.kind.Kind.{Kind}
use Rattle.cell_table.specs.declared.kind.Kind.TheVariants.{Unary as UnaryCell, Binary as BinaryCell, Reduce as ReduceCell, Logic as LogicCell, Compare as CompareCell, ShiftLeft, ShiftRight, ShiftSign, ShiftAny, Divide as DivideCell, Mux, Pmux, Bmux, Slice, Concat, Ff, Dff, Dffe, Sdff, Sdffe, Sdffce, Adff, Adffe, Statement as StatementCell, Any as AnyCell, InitState, LeftOut as LeftOutCell, Unknown}
use Rattle.design_check.specs.Faults.{IsFlat}
use Rattle.design_core.specs.Asked.{is_inside, number_at, number_of, output_of, signal_of}
use Rattle.design_core.specs.Places.{place_of}
use Rattle.design_core.specs.Ports.{digits_at, names_parameter, signal_at}
use Rattle.design_core.specs.Shape.{CellOf, DesignOf, IsDesign}
use Rattle.design_core.specs.Table.{form_of, output_port, role_of, width_limit}
use Rattle.design_core.specs.declared.digit.Digit.{Digit}
use Rattle.design_core.specs.declared.names.ParameterName.{ParameterName}
use Rattle.design_core.specs.declared.names.ParameterName.TheVariants.{AWidth, ArstValue, Offset, SrstValue, Width, YWidth}
use Rattle.design_core.specs.declared.names.PortName.{PortName}
use Rattle.design_core.specs.declared.names.PortName.TheVariants.{A, Arst, D, Q, Srst, Y}
use Rattle.design_core.specs.declared.parts.Parameter.{Parameter}
use Rattle.design_core.specs.declared.table.ParameterForm.{ParameterForm}
use Rattle.design_core.specs.declared.table.ParameterForm.TheVariants.{Flag}
use Rattle.design_core.specs.declared.table.Role.{Role}
use Rattle.design_core.specs.declared.table.Role.TheVariants.{Combinational, Register, AsyncResetRegister, Constant, Initial, Source, Statement, Unsupported}
use Rattle.design_meaning.specs.Meaning.{IsCell, is_register}
use Rattle.word_model.specs.Kinds.{asks}
use Rattle.word_model.specs.Layout.{parameter_places, signal_places}
use Rattle.word_model.specs.Registers.{HasOneWidth, value_of}
use Rattle.word_model.specs.Served.{IsServed}
use Rattle.word_model.proofs.Asking.{cell-is, inside, is_number_form, limit-most, plain, port-limit, there-named, true-is, value-width}
use Rattle.word_model.proofs.Fits.{agrees}
use Rattle.word_model.proofs.Lines.{is_bit, reset-at-once-role}
use Rattle.word_model.proofs.Following.{bit-long}
use Rattle.word_model.proofs.Nodal.{named-width}

both : (a b : Bool) → (a && b) ≡ true → (a ≡ true) × (b ≡ true)
both true true h = (refl, refl)
both true false h = absurd cc
both false b h = absurd cc

implied : (a b : Bool) → (not a || b) ≡ true → a ≡ true → b ≡ true
implied true b h e = h
implied false b h e = absurd (false≢true e)

-- `$slice` alone has an offset, which stands inside A
offset-inside : (k : Kind) (ps : List Parameter) → names_parameter k Offset ≡ true → is_inside k ps ≡ true → (number_at ps Offset ≤ number_at ps AWidth) × (agrees k A AWidth ≡ true)
offset-inside (UnaryCell k) ps h g = absurd (false≢true h)
offset-inside (BinaryCell k) ps h g = absurd (false≢true h)
offset-inside (ReduceCell k) ps h g = absurd (false≢true h)
offset-inside (LogicCell k) ps h g = absurd (false≢true h)
offset-inside (CompareCell k) ps h g = absurd (false≢true h)
offset-inside ShiftLeft ps h g = absurd (false≢true h)
offset-inside ShiftRight ps h g = absurd (false≢true h)
offset-inside ShiftSign ps h g = absurd (false≢true h)
offset-inside ShiftAny ps h g = absurd (false≢true h)
offset-inside (DivideCell k) ps h g = absurd (false≢true h)
offset-inside Mux ps h g = absurd (false≢true h)
offset-inside Pmux ps h g = absurd (false≢true h)
offset-inside Bmux ps h g = absurd (false≢true h)
offset-inside Slice ps h g = (let most : number_at ps Offset + number_at ps YWidth ≤ number_at ps AWidth = leb-true (number_at ps Offset + number_at ps YWidth) (number_at ps AWidth) g in omega (arith, most), refl)
offset-inside Concat ps h g = absurd (false≢true h)
offset-inside Ff ps h g = absurd (false≢true h)
offset-inside Dff ps h g = absurd (false≢true h)
offset-inside Dffe ps h g = absurd (false≢true h)
offset-inside Sdff ps h g = absurd (false≢true h)
offset-inside Sdffe ps h g = absurd (false≢true h)
offset-inside Sdffce ps h g = absurd (false≢true h)
offset-inside Adff ps h g = absurd (false≢true h)
offset-inside Adffe ps h g = absurd (false≢true h)
offset-inside (StatementCell k) ps h g = absurd (false≢true h)
offset-inside (AnyCell AnyConst) ps h g = absurd (false≢true h)
offset-inside (AnyCell AnySeq) ps h g = absurd (false≢true h)
offset-inside InitState ps h g = absurd (false≢true h)
offset-inside (LeftOutCell k) ps h g = absurd (false≢true h)
offset-inside Unknown ps h g = absurd (false≢true h)

-- of a register D and Q are words, and its reset has a value
abbrev pub register_line : Kind → Bool
register_line k =
    not (is_register (role_of k)) || (agrees k D Width && (agrees k Q Width
    && ((not (asks k Srst) || names_parameter k SrstValue) && (not (asks k Arst) || names_parameter k ArstValue))))

register-lines : (k : Kind) → register_line k ≡ true
register-lines (UnaryCell k) = refl
register-lines (BinaryCell k) = refl
register-lines (ReduceCell k) = refl
register-lines (LogicCell k) = refl
register-lines (CompareCell k) = refl
register-lines ShiftLeft = refl
register-lines ShiftRight = refl
register-lines ShiftSign = refl
register-lines ShiftAny = refl
register-lines (DivideCell k) = refl
register-lines Mux = refl
register-lines Pmux = refl
register-lines Bmux = refl
register-lines Slice = refl
register-lines Concat = refl
register-lines Ff = refl
register-lines Dff = refl
register-lines Dffe = refl
register-lines Sdff = refl
register-lines Sdffe = refl
register-lines Sdffce = refl
register-lines Adff = refl
register-lines Adffe = refl
register-lines (StatementCell k) = refl
register-lines (AnyCell AnyConst) = refl
register-lines (AnyCell AnySeq) = refl
register-lines InitState = refl
register-lines (LeftOutCell k) = refl
register-lines Unknown = refl

-- a cell that holds a row but is no register has a word at Y; `$initstate` a bit
constant-line : (k : Kind) → role_of k ≡ Initial → is_bit k Y ≡ true
constant-line (UnaryCell k) h = absurd cc
constant-line (BinaryCell k) h = absurd cc
constant-line (ReduceCell k) h = absurd cc
constant-line (LogicCell k) h = absurd cc
constant-line (CompareCell k) h = absurd cc
constant-line ShiftLeft h = absurd cc
constant-line ShiftRight h = absurd cc
constant-line ShiftSign h = absurd cc
constant-line ShiftAny h = absurd cc
constant-line (DivideCell k) h = absurd cc
constant-line Mux h = absurd cc
constant-line Pmux h = absurd cc
constant-line Bmux h = absurd cc
constant-line Slice h = absurd cc
constant-line Concat h = absurd cc
constant-line Ff h = absurd cc
constant-line Dff h = absurd cc
constant-line Dffe h = absurd cc
constant-line Sdff h = absurd cc
constant-line Sdffe h = absurd cc
constant-line Sdffce h = absurd cc
constant-line Adff h = absurd cc
constant-line Adffe h = absurd cc
constant-line (StatementCell k) h = absurd cc
constant-line (AnyCell AnyConst) h = absurd cc
constant-line (AnyCell AnySeq) h = absurd cc
constant-line InitState h = refl
constant-line (LeftOutCell k) h = absurd cc
constant-line Unknown h = absurd cc

module _ (d : DesignOf) (shape : IsDesign d) (flat : IsFlat d) (i : ℕ) (c : CellOf) (at : IsCell d i c) where
  unnamed : (name : ParameterName) → names_parameter c.kind name ≡ false → number_at c.parameters name ≡ 0
  unnamed name h = by (digits_at c.parameters name) refl
    where
      by : (o : Option (List Digit)) → digits_at c.parameters name ≡ o → number_at c.parameters name ≡ 0
      by None e = ap number_of e
      by (Some xs) e = absurd (true≢false (sym (there-named c.kind c.parameters name xs (true-is _ (cell-is d shape flat i c at).named) e) ∙ h))

  few : (name : PortName) → length (signal_at c.ports name) ≤ 4096
  few name = omega (arith, port-limit d shape flat i c at name, limit-most c.kind)

  offset-few : number_at c.parameters Offset ≤ 4096
  offset-few = by (names_parameter c.kind Offset) refl
    where
      by : (b : Bool) → names_parameter c.kind Offset ≡ b → number_at c.parameters Offset ≤ 4096
      by true e =
          let r = offset-inside c.kind c.parameters e (inside d shape flat i c at) in
          let wide : length (signal_at c.ports A) ≡ number_at c.parameters AWidth = named-width d shape flat i c at A AWidth r.1 in
          let most = r.0 in
          omega (arith, most, wide, few A)
      by false e = omega (arith, unnamed Offset e)

  pub served : IsServed d c
  served = record {
    cell = cell-is d shape flat i c at;
    few = few;
    flags = λ name e. plain d shape flat i c at name (ap is_number_form e);
    offset_plain = plain d shape flat i c at Offset refl;
    offset_few = offset-few;
  }

  output-few : (r : Role) → role_of c.kind ≡ r → length (signal_of c (output_port r)) ≤ 4096
  output-few Combinational e = few Y
  output-few Register e = few Q
  output-few AsyncResetRegister e = few Q
  output-few Constant e = few Y
  output-few Initial e = few Y
  output-few Source e = few Y
  output-few Statement e = omega arith
  output-few Unsupported e = omega arith

  pub outputs-few : length (output_of c) ≤ 4096
  outputs-few = output-few (role_of c.kind) refl

  pub initial-width : role_of c.kind ≡ Initial → length (output_of c) ≡ 1
  initial-width role = ap (λ (r : Role). length (signal_of c (output_port r))) role ∙ bit-long d shape flat i c at Y (constant-line c.kind role)

  module _ (register : is_register (role_of c.kind) ≡ true) where
    line : (agrees c.kind D Width && (agrees c.kind Q Width && ((not (asks c.kind Srst) || names_parameter c.kind SrstValue) && (not (asks c.kind Arst) || names_parameter c.kind ArstValue)))) ≡ true
    line = implied (is_register (role_of c.kind)) _ (register-lines c.kind) register

    rest : (agrees c.kind Q Width && ((not (asks c.kind Srst) || names_parameter c.kind SrstValue) && (not (asks c.kind Arst) || names_parameter c.kind ArstValue))) ≡ true
    rest = (both (agrees c.kind D Width) _ line).1

    values : ((not (asks c.kind Srst) || names_parameter c.kind SrstValue) && (not (asks c.kind Arst) || names_parameter c.kind ArstValue)) ≡ true
    values = (both (agrees c.kind Q Width) _ rest).1

    data-width : length (signal_at c.ports D) ≡ number_at c.parameters Width
    data-width = named-width d shape flat i c at D Width (both (agrees c.kind D Width) _ line).0

    by-role : (r : Role) → is_register r ≡ true → length (signal_at c.ports Q) ≡ number_at c.parameters Width → length (signal_of c (output_port r)) ≡ number_at c.parameters Width
    by-role Combinational t h = absurd (false≢true t)
    by-role Register t h = h
    by-role AsyncResetRegister t h = h
    by-role Constant t h = absurd (false≢true t)
    by-role Initial t h = absurd (false≢true t)
    by-role Source t h = absurd (false≢true t)
    by-role Statement t h = absurd (false≢true t)
    by-role Unsupported t h = absurd (false≢true t)

    pub output-width : length (output_of c) ≡ number_at c.parameters Width
    output-width = by-role (role_of c.kind) register (named-width d shape flat i c at Q Width (both (agrees c.kind Q Width) _ rest).0)

    reset-value : asks c.kind Srst ≡ true → length (parameter_places d c SrstValue) ≡ number_at c.parameters Width
    reset-value h =
        value-width d shape flat i c at SrstValue refl
        (implied (asks c.kind Srst) (names_parameter c.kind SrstValue) (both (not (asks c.kind Srst) || names_parameter c.kind SrstValue) (not (asks c.kind Arst) || names_parameter c.kind ArstValue) values).0 h)

    pub at-once-value : asks c.kind Arst ≡ true → length (parameter_places d c ArstValue) ≡ number_at c.parameters Width
    at-once-value h =
        value-width d shape flat i c at ArstValue refl
        (implied (asks c.kind Arst) (names_parameter c.kind ArstValue) (both (not (asks c.kind Srst) || names_parameter c.kind SrstValue) (not (asks c.kind Arst) || names_parameter c.kind ArstValue) values).1 h)

    value-is : (s a : Bool) → asks c.kind Srst ≡ s → asks c.kind Arst ≡ a
        → length (cond s (parameter_places d c SrstValue) (cond a (parameter_places d c ArstValue) (signal_places d (signal_at c.ports D)))) ≡ number_at c.parameters Width
    value-is true a hs ha = reset-value hs
    value-is false true hs ha = at-once-value ha
    value-is false false hs ha = length-map (signal_at c.ports D) (place_of d) ∙ data-width

    pub one-width : HasOneWidth d c
    one-width = record { d = data-width ∙ sym output-width; value = value-is (asks c.kind Srst) (asks c.kind Arst) refl refl ∙ sym output-width }

-- a register whose reset shows at once asks for it
pub at-once-asks : (k : Kind) → role_of k ≡ AsyncResetRegister → asks k Arst ≡ true
at-once-asks (UnaryCell k) h = absurd cc
at-once-asks (BinaryCell k) h = absurd cc
at-once-asks (ReduceCell k) h = absurd cc
at-once-asks (LogicCell k) h = absurd cc
at-once-asks (CompareCell k) h = absurd cc
at-once-asks ShiftLeft h = absurd cc
at-once-asks ShiftRight h = absurd cc
at-once-asks ShiftSign h = absurd cc
at-once-asks ShiftAny h = absurd cc
at-once-asks (DivideCell k) h = absurd cc
at-once-asks Mux h = absurd cc
at-once-asks Pmux h = absurd cc
at-once-asks Bmux h = absurd cc
at-once-asks Slice h = absurd cc
at-once-asks Concat h = absurd cc
at-once-asks Ff h = absurd cc
at-once-asks Dff h = absurd cc
at-once-asks Dffe h = absurd cc
at-once-asks Sdff h = absurd cc
at-once-asks Sdffe h = absurd cc
at-once-asks Sdffce h = absurd cc
at-once-asks Adff h = refl
at-once-asks Adffe h = refl
at-once-asks (StatementCell k) h = absurd cc
at-once-asks (AnyCell AnyConst) h = absurd cc
at-once-asks (AnyCell AnySeq) h = absurd cc
at-once-asks InitState h = absurd cc
at-once-asks (LeftOutCell k) h = absurd cc
at-once-asks Unknown h = absurd cc

pub at-once-few : (d : DesignOf) (shape : IsDesign d) (flat : IsFlat d) (i : ℕ) (c : CellOf) (at : IsCell d i c) → role_of c.kind ≡ AsyncResetRegister → length (parameter_places d c ArstValue) ≤ 4096
at-once-few d shape flat i c at role =
    let register : is_register (role_of c.kind) ≡ true = ap is_register role in
    omega (arith, at-once-value d shape flat i c at register (at-once-asks c.kind role), output-width d shape flat i c at register, outputs-few d shape flat i c at)
