-- A model that is made of a flat design's parts is a model.
use Rattle.std.proofs.Common.{◌≡◌, ◌⊎◌, inl, inr, ℕ, zero, suc, ◌+◌, ◌<◌, ◌≤◌, ◌^◌, Bool, true, false, cond, not, ◌&&◌, ◌||◌, List, [], ◌∷◌, ◌++◌, length, map, Option, Some, None, Contains, All, refl, ap, sym, subst, ◌∙◌, arith}
use Rattle.std.specs.Prelude.{slice_get}
use Rattle.std.specs.List.{enumerate_from, filter, flat_map, range_with_len}
use Rattle.std.proofs.lemmas.Bool.{false≢true}
use Rattle.std.proofs.lemmas.List.{length-map}
use Rattle.std.proofs.lemmas.List.Elements.{All-contains}
use Rattle.cell_table.specs.declared.kind.Any.TheVariants.{Const as AnyConst, Seq as AnySeq}
use Rattle.cell_table.specs.declared.kind.Kind.{Kind}
use Rattle.cell_table.specs.declared.kind.Kind.TheVariants.{Unary as UnaryCell, Binary as BinaryCell, Reduce as ReduceCell, Logic as LogicCell, Compare as CompareCell, ShiftLeft, ShiftRight, ShiftSign, ShiftAny, Divide as DivideCell, Mux, Pmux, Bmux, Slice, Concat, Ff, Dff, Dffe, Sdff, Sdffe, Sdffce, Adff, Adffe, Statement as StatementCell, Any as AnyCell, InitState, LeftOut as LeftOutCell, Unknown}
use Rattle.design_check.specs.Faults.{IsFlat, flag}
use Rattle.design_core.specs.Asked.{number_at, output_of, signal_of}
use Rattle.design_core.specs.Places.{place_of, places}
use Rattle.design_core.specs.Ports.{digits_at, names_parameter, signal_at}
use Rattle.design_core.specs.Shape.{CellOf, ConnectOf, DesignOf, IsDeclared, IsDesign, IsNumbered}
use Rattle.design_core.specs.Table.{output_port, role_of}
use Rattle.design_core.specs.declared.digit.Digit.{Digit}
use Rattle.design_core.specs.declared.digit.Digit.TheVariants.{Const as ConstDigit, Free as FreeDigit, Marker}
use Rattle.design_core.specs.declared.names.ParameterName.{ParameterName}
use Rattle.design_core.specs.declared.names.ParameterName.TheVariants.{ArstPolarity, ArstValue, EnPolarity, SrstPolarity, SrstValue, Width}
use Rattle.design_core.specs.declared.names.PortName.{PortName}
use Rattle.design_core.specs.declared.names.PortName.TheVariants.{A, Arst, D, En, Srst, Y}
use Rattle.design_core.specs.declared.table.Role.{Role}
use Rattle.design_core.specs.declared.table.Role.TheVariants.{Combinational, Register, AsyncResetRegister, Constant, Initial, Source, Statement, Unsupported}
use Rattle.design_core.proofs.Lists.{Contains-from_place, place-from_Contains}
use Rattle.design_core.proofs.Places.{bit_number-most, place_of-within}
use Rattle.design_graph.specs.Order.{IsOrder}
use Rattle.design_graph.specs.declared.driver.Driver.{Driver}
use Rattle.design_graph.specs.declared.driver.Driver.TheVariants.{Cell, Connect}
use Rattle.design_graph.proofs.Declared.{All-digits_at, All-signal_at, cell-declared, outputs-declared}
use Rattle.design_meaning.specs.Meaning.{IsCell, is_assert, is_assume, is_cover, is_register}
use Rattle.design_meaning.specs.Runs.{kept_bits}
use Rattle.design_signals.specs.declared.sig_bit.SigBit.{SigBit}
use Rattle.design_states.proofs.Giving.{from-lists}
use Rattle.model_core.proofs.Lists.{all_from}
use Rattle.model_core.specs.Served.{IsModel, IsNode}
use Rattle.model_core.specs.Shape.{IsRegister, IsStatement, ModelOf, NodeOf, RegisterOf, given, sources, states}
use Rattle.model_core.specs.declared.model.Control.{Control}
use Rattle.model_core.specs.declared.model.Statement.{Statement as StatementOf}
use Rattle.word_model.specs.Built.{IsBuilt, statement_of}
use Rattle.word_model.specs.Kinds.{asks}
use Rattle.word_model.specs.Layout.{bit_place, digit_place, digits_places, kept_place, kept_places, parameter_places, signal_places, zero_place}
use Rattle.word_model.specs.Nodes.{IsNodeOf, IsNodeOfRole, cell_node, reset_node}
use Rattle.word_model.specs.Registers.{always, control, enable_of, never, plain_register, registers_of, registers_of_role, reset_of, table_register, value_of}
use Rattle.word_model.proofs.Alike.{from-filter}
use Rattle.word_model.proofs.Asking.{value-width, width-some}
use Rattle.word_model.proofs.Fits.{agrees}
use Rattle.word_model.proofs.Following.{bit-long, enumerated-back, only-one}
use Rattle.word_model.proofs.Framed.{beside}
use Rattle.word_model.proofs.Lines.{reset-at-once-bit}
use Rattle.word_model.proofs.Meant.{starts-listed}
use Rattle.word_model.proofs.Modelled.{all-known, known-below, once-all}
use Rattle.word_model.proofs.Nodal.{named-width}
use Rattle.word_model.proofs.Once.{kept-end}
use Rattle.word_model.proofs.Ordered.{reads-before}
use Rattle.word_model.proofs.Owning.{in-range, map-member}
use Rattle.word_model.proofs.Sized.{cell-node-sized}
use Rattle.word_model.proofs.Widths.{at-once-asks, at-once-value, initial-width, one-width, output-width, outputs-few}

-- a register's and an `$anyconst`'s words have WIDTH bits
word-named : (k : Kind) → (is_register (role_of k) ≡ true) ⊎ (role_of k ≡ Constant) → names_parameter k Width ≡ true
word-named (UnaryCell k) (inl h) = absurd (false≢true h)
word-named (UnaryCell k) (inr h) = absurd cc
word-named (BinaryCell k) (inl h) = absurd (false≢true h)
word-named (BinaryCell k) (inr h) = absurd cc
word-named (ReduceCell k) (inl h) = absurd (false≢true h)
word-named (ReduceCell k) (inr h) = absurd cc
word-named (LogicCell k) (inl h) = absurd (false≢true h)
word-named (LogicCell k) (inr h) = absurd cc
word-named (CompareCell k) (inl h) = absurd (false≢true h)
word-named (CompareCell k) (inr h) = absurd cc
word-named ShiftLeft (inl h) = absurd (false≢true h)
word-named ShiftLeft (inr h) = absurd cc
word-named ShiftRight (inl h) = absurd (false≢true h)
word-named ShiftRight (inr h) = absurd cc
word-named ShiftSign (inl h) = absurd (false≢true h)
word-named ShiftSign (inr h) = absurd cc
word-named ShiftAny (inl h) = absurd (false≢true h)
word-named ShiftAny (inr h) = absurd cc
word-named (DivideCell k) (inl h) = absurd (false≢true h)
word-named (DivideCell k) (inr h) = absurd cc
word-named Mux h = refl
word-named Pmux h = refl
word-named Bmux h = refl
word-named Slice (inl h) = absurd (false≢true h)
word-named Slice (inr h) = absurd cc
word-named Concat (inl h) = absurd (false≢true h)
word-named Concat (inr h) = absurd cc
word-named Ff h = refl
word-named Dff h = refl
word-named Dffe h = refl
word-named Sdff h = refl
word-named Sdffe h = refl
word-named Sdffce h = refl
word-named Adff h = refl
word-named Adffe h = refl
word-named (StatementCell k) (inl h) = absurd (false≢true h)
word-named (StatementCell k) (inr h) = absurd cc
word-named (AnyCell AnyConst) h = refl
word-named (AnyCell AnySeq) h = refl
word-named InitState (inl h) = absurd (false≢true h)
word-named InitState (inr h) = absurd cc
word-named (LeftOutCell k) (inl h) = absurd (false≢true h)
word-named (LeftOutCell k) (inr h) = absurd cc
word-named Unknown (inl h) = absurd (false≢true h)
word-named Unknown (inr h) = absurd cc

constant-word : (k : Kind) → role_of k ≡ Constant → agrees k Y Width ≡ true
constant-word (UnaryCell k) h = absurd cc
constant-word (BinaryCell k) h = absurd cc
constant-word (ReduceCell k) h = absurd cc
constant-word (LogicCell k) h = absurd cc
constant-word (CompareCell k) h = absurd cc
constant-word ShiftLeft h = absurd cc
constant-word ShiftRight h = absurd cc
constant-word ShiftSign h = absurd cc
constant-word ShiftAny h = absurd cc
constant-word (DivideCell k) h = absurd cc
constant-word Mux h = absurd cc
constant-word Pmux h = absurd cc
constant-word Bmux h = absurd cc
constant-word Slice h = absurd cc
constant-word Concat h = absurd cc
constant-word Ff h = absurd cc
constant-word Dff h = absurd cc
constant-word Dffe h = absurd cc
constant-word Sdff h = absurd cc
constant-word Sdffe h = absurd cc
constant-word Sdffce h = absurd cc
constant-word Adff h = absurd cc
constant-word Adffe h = absurd cc
constant-word (StatementCell k) h = absurd cc
constant-word (AnyCell AnyConst) h = refl
constant-word (AnyCell AnySeq) h = absurd cc
constant-word InitState h = absurd cc
constant-word (LeftOutCell k) h = absurd cc
constant-word Unknown h = absurd cc

length-range : (a n : ℕ) → length (range_with_len a n) ≡ n
length-range a zero = refl
length-range a (suc n) = ap suc (length-range (a + 1) n)

module _ (d : DesignOf) (shape : IsDesign d) (flat : IsFlat d) (size : ℕ) (whole : size ≡ places d + kept_bits d) where
  signal-below : (bits : List SigBit) → All (IsDeclared d.wires d.free) bits → All (λ p. p < size) (signal_places d bits)
  signal-below bits h =
      all_from (λ p. p < size) (signal_places d bits)
      (λ k p at.
      let m = map-member (place_of d) bits p (Contains-from_place (signal_places d bits) k p at) in
      let e = m.2 in
      omega (arith, e, whole, place_of-within d m.0 (All-contains (IsDeclared d.wires d.free) bits m.0 h m.1)))

  bit-below : (bits : List SigBit) → All (IsDeclared d.wires d.free) bits → bit_place d bits < size
  bit-below [] h = omega (arith, whole)
  bit-below (b ∷ bits) h = omega (arith, whole, place_of-within d b (All-contains (IsDeclared d.wires d.free) (b ∷ bits) b h (0, omega arith, refl)))

  digit-below : (y : Digit) → IsNumbered d.free y → digit_place d y < size
  digit-below (ConstDigit b) h = omega (arith, whole, bit_number-most d b)
  digit-below (FreeDigit n) h = omega (arith, whole, h)
  digit-below Marker h = omega (arith, whole)

  digits-below : (o : Option (List Digit)) → ((xs : List Digit) → o ≡ Some xs → All (IsNumbered d.free) xs) → All (λ p. p < size) (digits_places d o)
  digits-below None h = λ k p lt. absurd (omega (arith, lt))
  digits-below (Some xs) h =
      all_from (λ p. p < size) (map (digit_place d) xs)
      (λ k p at.
      let m = map-member (digit_place d) xs p (Contains-from_place (map (digit_place d) xs) k p at) in
      let e = m.2 in
      omega (arith, e, digit-below m.0 (All-contains (IsNumbered d.free) xs m.0 (h xs refl) m.1)))

  module _ (i : ℕ) (x : CellOf) (at : IsCell d i x) where
    port-below : (name : PortName) → All (λ p. p < size) (signal_places d (signal_at x.ports name))
    port-below name = signal-below (signal_at x.ports name) (All-signal_at (IsDeclared d.wires d.free) x.ports name (cell-declared d shape i x at).ports)

    port-bit-below : (name : PortName) → bit_place d (signal_at x.ports name) < size
    port-bit-below name = bit-below (signal_at x.ports name) (All-signal_at (IsDeclared d.wires d.free) x.ports name (cell-declared d shape i x at).ports)

    parameter-below : (name : ParameterName) → All (λ p. p < size) (parameter_places d x name)
    parameter-below name = digits-below (digits_at x.parameters name) (λ xs e. All-digits_at (IsNumbered d.free) x.parameters name (cell-declared d shape i x at).parameters xs e)

    output-below : All (λ p. p < size) (signal_places d (output_of x))
    output-below = signal-below (output_of x) (outputs-declared d.wires d.free x (cell-declared d shape i x at))

    control-below : (port : PortName) (polarity : ParameterName) → (control d x port polarity).place < size
    control-below port polarity = port-bit-below port

    enable-below : (enable_of d x).place < size
    enable-below = by (asks x.kind En)
      where
        by : (t : Bool) → (cond t (control d x En EnPolarity) (always d)).place < size
        by true = port-bit-below En
        by false = omega (arith, whole)

    reset-below : (reset_of d x).place < size
    reset-below = by (asks x.kind Srst) (asks x.kind Arst)
      where
        by : (s t : Bool) → (cond s (control d x Srst SrstPolarity) (cond t (control d x Arst ArstPolarity) (never d))).place < size
        by true t = port-bit-below Srst
        by false true = port-bit-below Arst
        by false false = omega (arith, whole)

    value-below : All (λ p. p < size) (value_of d x)
    value-below = by (asks x.kind Srst) (asks x.kind Arst)
      where
        by : (s t : Bool) → All (λ p. p < size) (cond s (parameter_places d x SrstValue) (cond t (parameter_places d x ArstValue) (signal_places d (signal_at x.ports D))))
        by true t = parameter-below SrstValue
        by false true = parameter-below ArstValue
        by false false = port-below D

    table-served : is_register (role_of x.kind) ≡ true → (q : List ℕ) → length q ≡ length (output_of x) → IsRegister size (table_register d x q)
    table-served register q long = record {
      some = omega (arith, long, output-width d shape flat i x at register, width-some d shape flat i x at Width refl (word-named x.kind (inl register)));
      narrow = omega (arith, long, outputs-few d shape flat i x at);
      d = length-map (signal_at x.ports D) (place_of d) ∙ ((one-width d shape flat i x at register).d ∙ sym long);
      value = (one-width d shape flat i x at register).value ∙ sym long;
      d_below = port-below D;
      value_below = value-below;
      enable = enable-below;
      reset = reset-below;
    }

    plain-served : (q row : List ℕ) → 1 ≤ length q → length q ≤ 4096 → length row ≡ length q → All (λ p. p < size) row → IsRegister size (plain_register d q row)
    plain-served q row some narrow long below = record {
      some = some;
      narrow = narrow;
      d = long;
      value = long;
      d_below = below;
      value_below = below;
      enable = omega (arith, whole);
      reset = omega (arith, whole);
    }

    constant-long : role_of x.kind ≡ Constant → 1 ≤ length (output_of x)
    constant-long e =
        let wide : length (output_of x) ≡ number_at x.parameters Width =
        ap (λ (r : Role). length (signal_of x (output_port r))) e ∙ named-width d shape flat i x at Y Width (constant-word x.kind e) in
        omega (arith, wide, width-some d shape flat i x at Width refl (word-named x.kind (inr e)))

    zero-below : All (λ p. p < size) (zero_place d ∷ [])
    zero-below = all_from (λ p. p < size) (zero_place d ∷ []) (λ k p h. let same = only-one (zero_place d) p (Contains-from_place (zero_place d ∷ []) k p h) in omega (arith, same, whole))

    register-served : (r : Role) → role_of x.kind ≡ r → (g : RegisterOf) → Contains (registers_of_role r d i x) g → IsRegister size g
    register-served Combinational e g h = let lt = h.1 in absurd (omega (arith, lt))
    register-served Register e g h =
        subst (λ (z : RegisterOf). IsRegister size z) (only-one (table_register d x (signal_places d (output_of x))) g h)
        (table-served (ap is_register e) (signal_places d (output_of x)) (length-map (output_of x) (place_of d)))
    register-served AsyncResetRegister e g h =
        subst (λ (z : RegisterOf). IsRegister size z) (only-one (table_register d x (kept_places d i (length (output_of x)))) g h)
        (table-served (ap is_register e) (kept_places d i (length (output_of x)))
        (length-map (range_with_len 0 (length (output_of x))) (kept_place d i) ∙ length-range 0 (length (output_of x))))
    register-served Constant e g h =
        let wide = length-map (output_of x) (place_of d) in
        subst (λ (z : RegisterOf). IsRegister size z) (only-one (plain_register d (signal_places d (output_of x)) (signal_places d (output_of x))) g h)
        (plain-served (signal_places d (output_of x)) (signal_places d (output_of x)) (omega (arith, wide, constant-long e)) (omega (arith, wide, outputs-few d shape flat i x at)) refl output-below)
    register-served Initial e g h =
        let wide = length-map (output_of x) (place_of d) in
        let one = initial-width d shape flat i x at e in
        subst (λ (z : RegisterOf). IsRegister size z) (only-one (plain_register d (signal_places d (output_of x)) (zero_place d ∷ [])) g h)
        (plain-served (signal_places d (output_of x)) (zero_place d ∷ []) (omega (arith, wide, one)) (omega (arith, wide, one)) (sym (wide ∙ one)) zero-below)
    register-served Source e g h = let lt = h.1 in absurd (omega (arith, lt))
    register-served Statement e g h = let lt = h.1 in absurd (omega (arith, lt))
    register-served Unsupported e g h = let lt = h.1 in absurd (omega (arith, lt))

    -- a reset's node has one width
    reset-node : role_of x.kind ≡ AsyncResetRegister → IsNode (reset_node d i x)
    reset-node e = by (flag x ArstPolarity)
      where
        kept-long : length (kept_places d i (length (output_of x))) ≡ length (output_of x)
        kept-long = length-map (range_with_len 0 (length (output_of x))) (kept_place d i) ∙ length-range 0 (length (output_of x))

        value-long : length (parameter_places d x ArstValue) ≡ length (output_of x)
        value-long = at-once-value d shape flat i x at (ap is_register e) (at-once-asks x.kind e) ∙ sym (output-width d shape flat i x at (ap is_register e))

        out-some : 1 ≤ length (output_of x)
        out-some = omega (arith, output-width d shape flat i x at (ap is_register e), width-some d shape flat i x at Width refl (word-named x.kind (inl (ap is_register e))))

        out-few : length (output_of x) ≤ 4096
        out-few = outputs-few d shape flat i x at

        out-long : length (signal_places d (output_of x)) ≡ length (output_of x)
        out-long = length-map (output_of x) (place_of d)

        select : length (signal_places d (signal_at x.ports Arst)) ≡ 1
        select = length-map (signal_at x.ports Arst) (place_of d) ∙ bit-long d shape flat i x at Arst (reset-at-once-bit x.kind (at-once-asks x.kind e))

        by : (t : Bool) → ((1 ≤ length (cond t (kept_places d i (length (output_of x))) (parameter_places d x ArstValue))) × (length (cond t (kept_places d i (length (output_of x))) (parameter_places d x ArstValue)) ≤ 4096))
            × (length (cond t (parameter_places d x ArstValue) (kept_places d i (length (output_of x)))) ≡ length (cond t (kept_places d i (length (output_of x))) (parameter_places d x ArstValue)))
            × (length (signal_places d (signal_at x.ports Arst)) ≡ 1) × (length (signal_places d (output_of x)) ≡ length (cond t (kept_places d i (length (output_of x))) (parameter_places d x ArstValue)))
        by true = ((omega (arith, kept-long, out-some), omega (arith, kept-long, out-few)), value-long ∙ sym kept-long, select, out-long ∙ sym kept-long)
        by false = ((omega (arith, value-long, out-some), omega (arith, value-long, out-few)), kept-long ∙ sym value-long, select, out-long ∙ sym value-long)

    statement-served : IsStatement size (statement_of d x)
    statement-served = (port-bit-below A, port-bit-below En)

module _ (d : DesignOf) (shape : IsDesign d) (flat : IsFlat d) (order : List Driver) (ordered : IsOrder d order) (m : ModelOf) (built : IsBuilt d order m) where
  node-served : (r : Driver) (y : NodeOf) → IsNodeOf d r y → IsNode y
  node-served (Cell i) y is = by (role_of is.0.kind) refl is.2
    where
      by : (role : Role) → role_of is.0.kind ≡ role → IsNodeOfRole role d i is.0 y → IsNode y
      by Combinational e n = subst (λ (z : NodeOf). IsNode z) (sym n) (cell-node-sized d shape flat i is.0 is.1 e)
      by Register e n = absurd n
      by AsyncResetRegister e n = subst (λ (z : NodeOf). IsNode z) (sym n) (reset-node d shape flat m.size built.size i is.0 is.1 e)
      by Constant e n = absurd n
      by Initial e n = absurd n
      by Source e n = absurd n
      by Statement e n = absurd n
      by Unsupported e n = absurd n
  node-served (Connect i k) y is = subst (λ (z : NodeOf). IsNode z) (sym is.6) ((omega arith, omega arith), refl, refl, refl)

  registers-served : All (IsRegister m.size) m.registers
  registers-served =
      all_from (IsRegister m.size) m.registers
      (λ k g at.
      let has = Contains-from_place m.registers k g at in
      let r = from-lists (registers_of d) (enumerate_from 0 d.cells) g (subst (λ (l : List RegisterOf). Contains l g) built.registers has) in
      let back = enumerated-back 0 d.cells r.0 r.1 r.2 in
      let place : r.0 ≡ r.1.0 = (let n = back.0 in omega (arith, n)) in
      register-served d shape flat m.size built.size r.1.0 r.1.1 (subst (λ (n : ℕ). slice_get d.cells n ≡ Some r.1.1) place back.1) (role_of r.1.1.kind) refl g r.3)

  statements-served : (test : CellOf → Bool) (ss : List StatementOf) → ss ≡ map (statement_of d) (filter test d.cells) → All (IsStatement m.size) ss
  statements-served test ss e =
      all_from (IsStatement m.size) ss
      (λ k s at.
      let c = map-member (statement_of d) (filter test d.cells) s (subst (λ (l : List StatementOf). Contains l s) e (Contains-from_place ss k s at)) in
      let p = place-from_Contains (filter test d.cells) c.0 c.1 in
      let q = from-filter test d.cells p.0 c.0 p.1 in
      subst (λ (z : StatementOf). IsStatement m.size z) c.2 (statement-served d shape flat m.size built.size q.0 c.0 q.1))

  pub modelled : IsModel m
  modelled = record {
    limit = let lt = built.limit in omega (arith, lt);
    nodes =
        all_from IsNode m.nodes
        (λ k y at.
        let r = beside m.nodes order (Cell 0) (sym built.nodes.size) k y at in
        node-served r.0 y (built.nodes.each k r.0 y r.1 at));
    registers = registers-served;
    starts = starts-listed d shape flat order ordered m built;
    asserts = statements-served (λ c. is_assert c.kind) m.asserts built.asserts;
    assumes = statements-served (λ c. is_assume c.kind) m.assumes built.assumes;
    covers = statements-served (λ c. is_cover c.kind) m.covers built.covers;
    below = all_from (λ p. p < m.size) (sources m ++ given m.nodes) (λ k p at. known-below d shape flat order ordered m built p (Contains-from_place (sources m ++ given m.nodes) k p at));
    all = λ p lt. all-known d shape flat order ordered m built p lt;
    once = once-all d shape flat order ordered m built;
    order = λ n y at p h. reads-before d shape flat order ordered m built n y at p h;
  }
