-- The variables of a model's frames are at most its design's cost.
use Rattle.std.proofs.Common.{◌≡◌, ◌⊎◌, inl, inr, ℕ, zero, suc, ◌+◌, ◌*◌, ◌≤◌, Bool, true, false, cond, not, List, length, map, Option, Some, None, refl, ap, sym, subst, ◌∙◌, arith}
use Rattle.std.specs.Prelude.{slice_get}
use Rattle.std.specs.List.{enumerate_from, filter, flat_map, list_any, range_with_len, sum_by}
use Rattle.std.proofs.lemmas.List.{length-append, length-map}
use Rattle.std.proofs.lemmas.List.Sums.{count_by-le-length, length-filter}
use Rattle.cell_table.specs.declared.kind.Kind.{Kind}
use Rattle.cell_table.specs.declared.kind.Kind.TheVariants.{Unary as UnaryCell, Binary as BinaryCell, Reduce as ReduceCell, Logic as LogicCell, Compare as CompareCell, ShiftLeft, ShiftRight, ShiftSign, ShiftAny, Divide as DivideCell, Mux, Pmux, Bmux, Slice, Concat, Ff, Dff, Dffe, Sdff, Sdffe, Sdffce, Adff, Adffe, Statement as StatementCell, Any as AnyCell, InitState, LeftOut as LeftOutCell, Unknown}
use Rattle.cell_table.specs.declared.kind.Any.TheVariants.{Const as AnyConst, Seq as AnySeq}
use Rattle.design_check.specs.Faults.{IsFlat, flag}
use Rattle.design_core.specs.Asked.{number_at, output_of, signal_of}
use Rattle.design_core.specs.Places.{place_of}
use Rattle.design_core.specs.Ports.{signal_at}
use Rattle.design_core.specs.Shape.{CellOf, DesignOf, IsDesign, WireOf, wire_bits}
use Rattle.design_core.specs.Table.{output_port, port, ports_of, role_of}
use Rattle.design_core.specs.declared.names.ParameterName.TheVariants.{ASigned, BSigned, Offset, ArstPolarity, ArstValue}
use Rattle.design_core.specs.declared.names.PortName.{PortName}
use Rattle.design_core.specs.declared.names.PortName.TheVariants.{A, B, S}
use Rattle.design_core.specs.declared.table.PortWidth.TheVariants.{One}
use Rattle.design_core.specs.declared.table.Role.{Role}
use Rattle.design_core.specs.declared.table.Role.TheVariants.{Combinational, Register, AsyncResetRegister, Constant, Initial, Source, Statement, Unsupported}
use Rattle.design_core.proofs.Lists.{Contains-from_place}
use Rattle.design_graph.specs.Order.{IsOrder}
use Rattle.design_graph.specs.declared.driver.Driver.{Driver}
use Rattle.design_graph.specs.declared.driver.Driver.TheVariants.{Cell, Connect}
use Rattle.design_meaning.specs.Meaning.{IsCell, is_assert, is_assume, is_cover, is_register}
use Rattle.design_meaning.specs.States.{Kept, Signal, given, input_bits, is_wire_bit, open_bits, state_bits, state_of, state_of_role}
use Rattle.design_signals.specs.declared.sig_bit.SigBit.{SigBit}
use Rattle.design_signals.specs.declared.sig_bit.SigBit.TheVariants.{Free, Wire}
use Rattle.frame_gates.specs.Costs.{frame_vars, next_gates, node_gates}
use Rattle.model_core.specs.Served.{HasWidths}
use Rattle.model_core.specs.Shape.{ModelOf, NodeOf, RegisterOf, states}
use Rattle.model_core.specs.declared.op.Op.{Op}
use Rattle.model_core.specs.declared.op.Op.TheVariants as op
use Rattle.word_model.specs.Built.{IsBuilt, statement_of}
use Rattle.word_model.specs.Layout.{kept_places, parameter_places, signal_places, state_place}
use Rattle.word_model.specs.Nodes.{IsNodeOf, IsNodeOfRole, cell_node, op_of, reset_node}
use Rattle.word_model.proofs.Asking.{port-width}
use Rattle.word_model.proofs.Following.{enumerated}
use Rattle.word_model.proofs.Making.{kept-long}
use Rattle.word_model.proofs.Meant.{states-listed}
use Rattle.word_model.proofs.Nodal.{output-is}
use Rattle.word_model.proofs.Sized.{cell-node-sized}
use Rattle.word_model.proofs.Widths.{at-once-asks, at-once-value, output-width}
use Rattle.model_laws.specs.Cost.{cell_cost, cost, port_bits}
use Rattle.model_laws.proofs.Priced.{gates_within, kind-most, node-most, one_if, operands-most, port-most, state_width}
use Rattle.model_laws.proofs.Sums.{enumerated-sum, flat-long, sum-alike, sum-beside, sum-most, sum-parts, sum-twice, sum-within}

range-long : (a n : ℕ) → length (range_with_len a n) ≡ n
range-long a zero = refl
range-long a (suc n) = ap suc (range-long (a + 1) n)

-- a node reads at least one bit at A
some-read : (o : Op) (a b s y : ℕ) → HasWidths o a b s y → 1 ≤ a
some-read op.Copy a b s y h = h.0.0
some-read (op.Unary k signed) a b s y h = h.0.0
some-read (op.Binary k signed) a b s y h = h.0.0
some-read (op.Reduce k) a b s y h = h.0.0
some-read (op.Logic k) a b s y h = h.0.0
some-read (op.Compare k signed) a b s y h = h.0.0
some-read (op.ShiftLeft signed) a b s y h = h.0.0
some-read (op.ShiftRight signed) a b s y h = h.0.0
some-read (op.ShiftSign signed) a b s y h = h.0.0
some-read (op.ShiftAny signed by_signed) a b s y h = h.0.0
some-read (op.Divide k signed) a b s y h = h.0.0
some-read op.Mux a b s y h = h.0.0
some-read op.Pmux a b s y h = h.0.0
some-read op.Bmux a b s y h = h.0.0
some-read (op.Slice offset) a b s y h = h.0.0
some-read op.Concat a b s y h = h.0.0

-- a statement has A of one bit
statement-line : (k : Kind) → role_of k ≡ Statement → slice_get (ports_of k) 0 ≡ Some (port A One)
statement-line (UnaryCell k) h = absurd cc
statement-line (BinaryCell k) h = absurd cc
statement-line (ReduceCell k) h = absurd cc
statement-line (LogicCell k) h = absurd cc
statement-line (CompareCell k) h = absurd cc
statement-line ShiftLeft h = absurd cc
statement-line ShiftRight h = absurd cc
statement-line ShiftSign h = absurd cc
statement-line ShiftAny h = absurd cc
statement-line (DivideCell k) h = absurd cc
statement-line Mux h = absurd cc
statement-line Pmux h = absurd cc
statement-line Bmux h = absurd cc
statement-line Slice h = absurd cc
statement-line Concat h = absurd cc
statement-line Ff h = absurd cc
statement-line Dff h = absurd cc
statement-line Dffe h = absurd cc
statement-line Sdff h = absurd cc
statement-line Sdffe h = absurd cc
statement-line Sdffce h = absurd cc
statement-line Adff h = absurd cc
statement-line Adffe h = absurd cc
statement-line (StatementCell k) h = refl
statement-line (AnyCell AnyConst) h = absurd cc
statement-line (AnyCell AnySeq) h = absurd cc
statement-line InitState h = absurd cc
statement-line (LeftOutCell k) h = absurd cc
statement-line Unknown h = absurd cc

output-most : (c : CellOf) → length (output_of c) ≤ port_bits c
output-most c = by (output_port (role_of c.kind))
  where
    by : (name : Option PortName) → length (signal_of c name) ≤ port_bits c
    by None = omega arith
    by (Some name) = port-most c name

-- the state bits of a cell, and the gates of its node
abbrev pub held : CellOf → ℕ
held c = state_width (role_of c.kind) (length (output_of c))

abbrev pub gates : CellOf → ℕ
gates c = gates_within (role_of c.kind) (cell_cost c) (length (output_of c))

state-long : (p : ℕ × CellOf) → length (state_of p) ≡ held p.1
state-long p = by (role_of p.1.kind)
  where
    out : List SigBit
    out = output_of p.1

    signals : length (map (λ b. Signal b) (output_of p.1)) ≡ length (output_of p.1)
    signals = length-map (output_of p.1) (λ b. Signal b)

    by : (r : Role) → length (state_of_role r (map (λ b. Signal b) (output_of p.1)) (map (λ k. Kept p.0 k) (range_with_len 0 (length (output_of p.1))))) ≡ state_width r (length (output_of p.1))
    by Combinational = refl
    by Register = signals
    by AsyncResetRegister = length-map (range_with_len 0 (length (output_of p.1))) (λ k. Kept p.0 k) ∙ range-long 0 (length (output_of p.1))
    by Constant = signals
    by Initial = signals
    by Source = refl
    by Statement = refl
    by Unsupported = refl

open-few : (d : DesignOf) (p : ℕ × WireOf) → length (open_bits d p) ≤ p.1.width
open-few d p =
    let is_open = λ (b : ℕ). not (list_any (is_wire_bit p.0 b) (given d)) in
    omega (arith, length-map (filter is_open (range_with_len 0 p.1.width)) (λ b. Wire p.0 b), length-filter is_open (range_with_len 0 p.1.width), count_by-le-length is_open (range_with_len 0 p.1.width), range-long 0 p.1.width)

inputs-few : (d : DesignOf) → length (input_bits d) ≤ wire_bits d + d.free
inputs-few d =
    let wires = enumerate_from 0 d.wires in
    omega (
      arith,
      length-append (flat_map (open_bits d) wires) (map (λ n. Free n) (range_with_len 0 d.free)),
      flat-long (open_bits d) wires,
      sum-most (λ p. length (open_bits d p)) (λ (p : ℕ × WireOf). p.1.width) wires (open-few d),
      enumerated-sum (λ (w : WireOf). w.width) 0 d.wires,
      length-map (range_with_len 0 d.free) (λ n. Free n),
      range-long 0 d.free,
    )

gates-in : Option CellOf → ℕ
gates-in None = 0
gates-in (Some c) = gates c

module _ (d : DesignOf) (shape : IsDesign d) (flat : IsFlat d) where
  -- the gates of a driver's node
  driver-gates : Driver → ℕ
  driver-gates (Cell i) = gates-in (slice_get d.cells i)
  driver-gates (Connect i k) = 0

  combinational-most : (i : ℕ) (c : CellOf) → IsCell d i c → role_of c.kind ≡ Combinational → node_gates (cell_node d c) ≤ cell_cost c
  combinational-most i c at role =
      let a = length-map (signal_at c.ports A) (place_of d) in
      let b = length-map (signal_at c.ports B) (place_of d) in
      let y = length-map (output_of c) (place_of d) ∙ ap length (output-is d shape flat i c at role) in
      node-most c.kind (flag c ASigned) (flag c BSigned) (number_at c.parameters Offset) (length (signal_places d (signal_at c.ports A))) (length (signal_places d (signal_at c.ports B)))
      (length (signal_places d (output_of c))) (port_bits c) role
      (some-read (op_of c) (length (signal_places d (signal_at c.ports A))) (length (signal_places d (signal_at c.ports B))) (length (signal_places d (signal_at c.ports S))) (length (signal_places d (output_of c)))
      (cell-node-sized d shape flat i c at role))
      (omega (arith, a, b, y, operands-most c))

  reset-most : (i : ℕ) (c : CellOf) → IsCell d i c → role_of c.kind ≡ AsyncResetRegister → node_gates (reset_node d i c) ≡ length (output_of c)
  reset-most i c at role = by (flag c ArstPolarity)
    where
      kept : length (kept_places d i (length (output_of c))) ≡ length (output_of c)
      kept = kept-long d i (length (output_of c))

      value : length (parameter_places d c ArstValue) ≡ length (output_of c)
      value = at-once-value d shape flat i c at (ap is_register role) (at-once-asks c.kind role) ∙ sym (output-width d shape flat i c at (ap is_register role))

      by : (t : Bool) → length (cond t (kept_places d i (length (output_of c))) (parameter_places d c ArstValue)) ≡ length (output_of c)
      by true = kept
      by false = value

  node-within : (r : Driver) (n : NodeOf) → IsNodeOf d r n → node_gates n ≤ driver-gates r
  unfolding driver-gates gates-in
  node-within (Cell i) n is =
      subst (λ (o : Option CellOf). node_gates n ≤ gates-in o) (sym is.1) (by (role_of is.0.kind) refl is.2)
    where
      by : (role : Role) → role_of is.0.kind ≡ role → IsNodeOfRole role d i is.0 n → node_gates n ≤ gates_within role (cell_cost is.0) (length (output_of is.0))
      by Combinational e h = subst (λ (y : NodeOf). node_gates y ≤ cell_cost is.0) (sym h) (combinational-most i is.0 is.1 e)
      by Register e h = absurd h
      by AsyncResetRegister e h = subst (λ (y : NodeOf). node_gates y ≤ length (output_of is.0)) (sym h) (omega (arith, reset-most i is.0 is.1 e))
      by Constant e h = absurd h
      by Initial e h = absurd h
      by Source e h = absurd h
      by Statement e h = absurd h
      by Unsupported e h = absurd h
  node-within (Connect i k) n is = omega (arith, ap node_gates is.6)

  cell-within : (k : ℕ) (c : CellOf) → IsCell d k c → 3 * held c + gates c + 2 * one_if (is_assert c.kind) + 2 * one_if (is_assume c.kind) + one_if (is_cover c.kind) ≤ cell_cost c
  cell-within k c at =
      kind-most c.kind (length (output_of c)) (port_bits c) (output-most c)
      (λ role.
      let line = Contains-from_place (ports_of c.kind) 0 (port A One) (statement-line c.kind role) in
      let wide : length (signal_at c.ports A) ≡ 1 = port-width d shape flat k c at (port A One) line in
      omega (arith, wide, port-most c A))

  module _ (order : List Driver) (ordered : IsOrder d order) (m : ModelOf) (built : IsBuilt d order m) where
    states-long : length (states m) ≡ sum_by held d.cells
    states-long =
        ap length (states-listed d shape flat order ordered m built)
        ∙ (length-map (state_bits d) (state_place d)
        ∙ (flat-long state_of (enumerate_from 0 d.cells)
        ∙ (sum-alike (λ p. length (state_of p)) (λ (p : ℕ × CellOf). held p.1) (enumerate_from 0 d.cells) state-long
        ∙ enumerated-sum held 0 d.cells)))

    next-long : next_gates m ≡ 2 * length (states m)
    next-long = sum-twice (λ (r : RegisterOf). length r.q) m.registers ∙ ap (λ (n : ℕ). 2 * n) (sym (flat-long (λ (r : RegisterOf). r.q) m.registers))

    order-most : sum_by driver-gates order ≤ sum_by gates d.cells
    unfolding driver-gates gates-in
    order-most =
        let most = sum-within driver-gates (λ (p : ℕ × CellOf). gates p.1) (λ (r : Driver) (p : ℕ × CellOf). r ≡ Cell p.0) order (enumerate_from 0 d.cells) in-cells apart in
        omega (arith, most, enumerated-sum gates 0 d.cells)
      where
        in-cells : (k : ℕ) (r : Driver) → slice_get order k ≡ Some r
            → (driver-gates r ≡ 0) ⊎ ((j : ℕ) × (p : ℕ × CellOf) × (slice_get (enumerate_from 0 d.cells) j ≡ Some p) × (r ≡ Cell p.0) × (driver-gates r ≤ gates p.1))
        in-cells k (Cell i) at =
            let is = ordered.drivers k (Cell i) at in
            let same : driver-gates (Cell i) ≡ gates is.0 = ap gates-in is.1 in
            inr (i, (i, is.0), enumerated 0 d.cells i i is.0 (omega arith) is.1, refl, omega (arith, same))
        in-cells k (Connect i j) at = inl refl

        apart : (k l : ℕ) (r s : Driver) (p : ℕ × CellOf) → slice_get order k ≡ Some r → slice_get order l ≡ Some s → r ≡ Cell p.0 → s ≡ Cell p.0 → k ≡ l
        apart k l r s p at bt er es = ordered.once k l s (subst (λ (q : Driver). slice_get order k ≡ Some q) (er ∙ sym es) at) bt

    nodes-most : sum_by node_gates m.nodes ≤ sum_by gates d.cells
    nodes-most =
        let most = sum-beside node_gates driver-gates m.nodes order built.nodes.size (λ k n r at is. node-within r n (built.nodes.each k r n is at)) in
        omega (arith, most, order-most)

    asserts-long : length m.asserts ≡ sum_by (λ c. one_if (is_assert c.kind)) d.cells
    asserts-long =
        ap length built.asserts ∙ (length-map (filter (λ (c : CellOf). is_assert c.kind) d.cells) (statement_of d) ∙ length-filter (λ (c : CellOf). is_assert c.kind) d.cells)

    assumes-long : length m.assumes ≡ sum_by (λ c. one_if (is_assume c.kind)) d.cells
    assumes-long =
        ap length built.assumes ∙ (length-map (filter (λ (c : CellOf). is_assume c.kind) d.cells) (statement_of d) ∙ length-filter (λ (c : CellOf). is_assume c.kind) d.cells)

    covers-long : length m.covers ≡ sum_by (λ c. one_if (is_cover c.kind)) d.cells
    covers-long =
        ap length built.covers ∙ (length-map (filter (λ (c : CellOf). is_cover c.kind) d.cells) (statement_of d) ∙ length-filter (λ (c : CellOf). is_cover c.kind) d.cells)

    pub variables-within : 1 + length (states m) + (next_gates m + frame_vars m + 2 * length m.assumes + 2 * length m.asserts + length m.covers + 8) ≤ cost d
    variables-within =
        let ins = ap length built.inputs ∙ length-map (input_bits d) (place_of d) in
        let parts = sum-parts held gates (λ (c : CellOf). one_if (is_assert c.kind)) (λ (c : CellOf). one_if (is_assume c.kind)) (λ (c : CellOf). one_if (is_cover c.kind)) cell_cost d.cells cell-within in
        omega (arith, ins, inputs-few d, states-long, next-long, nodes-most, asserts-long, assumes-long, covers-long, parts)
