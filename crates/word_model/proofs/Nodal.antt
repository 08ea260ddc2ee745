-- What the node of a cell gives in a cycle is what the cell gives.
use Rattle.std.proofs.Common.{◌≡◌, ℕ, suc, Bool, true, false, cond, not, eqb, List, [], ◌∷◌, length, map, Contains, refl, ap, sym, subst, ◌∙◌}
use Rattle.std.specs.List.{find}
use Rattle.std.proofs.lemmas.Bool.{eqb-true, false≢true}
use Rattle.std.proofs.lemmas.List.{length-map}
use Rattle.sby_bits.specs.Rows.{Row, num}
use Rattle.design_check.specs.Faults.{IsFlat, flag}
use Rattle.design_core.specs.Asked.{number_at, output_of, signal_of}
use Rattle.design_core.specs.Cells.{Parameters, Ports, cell_fn, is_set}
use Rattle.design_core.specs.Places.{place_of}
use Rattle.design_core.specs.Ports.{is_port, names_parameter, port_number, signal_at, signal_in}
use Rattle.design_core.specs.Shape.{CellOf, DesignOf, IsDesign}
use Rattle.design_core.specs.Table.{output_port, ports_of, role_of, width_of}
use Rattle.design_core.specs.declared.names.ParameterName.{ParameterName}
use Rattle.design_core.specs.declared.names.ParameterName.TheVariants.{ASigned, BSigned, AWidth, BWidth, YWidth, Width, Offset}
use Rattle.design_core.specs.declared.names.PortName.{PortName}
use Rattle.design_core.specs.declared.names.PortName.TheVariants.{A, B, S, Y}
use Rattle.design_core.specs.declared.parts.Port.{Port}
use Rattle.design_core.specs.declared.table.PortLine.{PortLine}
use Rattle.design_core.specs.declared.table.PortWidth.{PortWidth}
use Rattle.design_core.specs.declared.table.PortWidth.TheVariants.{One, Of, Product, Choice, Sum}
use Rattle.design_core.specs.declared.table.Role.{Role}
use Rattle.design_core.specs.declared.table.Role.TheVariants.{Combinational}
use Rattle.design_meaning.specs.Meaning.{IsCell, bit_in, parameters_in, ports_in, row_in}
use Rattle.design_signals.specs.declared.sig_bit.SigBit.{SigBit}
use Rattle.model_core.specs.Meaning.{Cycle, node_fn, row_at, row_of_node}
use Rattle.word_model.specs.Layout.{signal_places, valued, zero_place}
use Rattle.word_model.specs.Kinds.{op_of_kind}
use Rattle.word_model.specs.Nodes.{cell_node, op_of}
use Rattle.word_model.proofs.Asking.{one-name, one-sign, plain, port-width}
use Rattle.word_model.proofs.Cells.{IsParsed, node-cell}
use Rattle.word_model.proofs.Fits.{a-fits, agrees, b-fits, is_of, line-of, result-fits, word-fits}
use Rattle.word_model.proofs.Reading.{flag-read, number-read, row-read}

width-is : (f : ParameterName → ℕ) (w : PortWidth) (p : ParameterName) → is_of w p ≡ true → width_of f w ≡ f p
width-is f One p h = absurd (false≢true h)
width-is f (Of q) p h = ap f (one-name q p h)
width-is f (Product x y) p h = absurd (false≢true h)
width-is f (Choice x y) p h = absurd (false≢true h)
width-is f (Sum x y) p h = absurd (false≢true h)

pub signal-named : (ports : List Port) (p q : PortName) → is_port p q ≡ true → signal_at ports p ≡ signal_at ports q
signal-named ports p q h = ap (λ (n : ℕ). signal_in (find (λ (x : Port). eqb (port_number x.name) n) ports)) (eqb-true (port_number p) (port_number q) h)

module _ (d : DesignOf) (shape : IsDesign d) (flat : IsFlat d) (i : ℕ) (x : CellOf) (at : IsCell d i x) where
  -- a port whose line gives it a parameter's width
  pub named-width : (name : PortName) (p : ParameterName) → agrees x.kind name p ≡ true → length (signal_at x.ports name) ≡ number_at x.parameters p
  named-width name p h =
      let r = line-of name p (ports_of x.kind) h in
      ap length (sym (signal-named x.ports r.0.name name r.2))
      ∙ (port-width d shape flat i x at r.0 r.1 ∙ width-is (number_at x.parameters) r.0.width p r.3)

  pub output-is : role_of x.kind ≡ Combinational → output_of x ≡ signal_at x.ports Y
  output-is e = ap (λ (r : Role). signal_of x (output_port r)) e

  module _ (role : role_of x.kind ≡ Combinational) (c : Cycle) (low : c (zero_place d) ≡ false) (high : c (suc (zero_place d)) ≡ true) where
    output-long : (p : ParameterName) → agrees x.kind Y p ≡ true → length (signal_places d (output_of x)) ≡ number_at x.parameters p
    output-long p h = length-map (output_of x) (place_of d) ∙ (ap length (output-is role) ∙ named-width Y p h)

    row-long : (name : PortName) (p : ParameterName) → agrees x.kind name p ≡ true → length (ports_in (valued d c) x name) ≡ number_at x.parameters p
    row-long name p h = length-map (signal_at x.ports name) (bit_in (valued d c)) ∙ named-width name p h

    parsed : IsParsed x.kind (parameters_in (valued d c) x) (ports_in (valued d c) x) (flag x ASigned) (flag x BSigned) (number_at x.parameters Offset) (length (signal_places d (output_of x)))
    parsed = record {
      a_signed = sym (flag-read (valued d c) x ASigned (plain d shape flat i x at ASigned refl));
      b_signed = sym (flag-read (valued d c) x BSigned (plain d shape flat i x at BSigned refl));
      one_sign = λ e. one-sign d shape flat i x at e;
      offset = sym (number-read (valued d c) x Offset (plain d shape flat i x at Offset refl));
      result = λ e. output-long YWidth (result-fits x.kind role e) ∙ sym (number-read (valued d c) x YWidth (plain d shape flat i x at YWidth refl));
      word = λ e. output-long Width (word-fits x.kind role e) ∙ sym (number-read (valued d c) x Width (plain d shape flat i x at Width refl));
      a_width = λ e. row-long A AWidth (a-fits x.kind role e) ∙ sym (number-read (valued d c) x AWidth (plain d shape flat i x at AWidth refl));
      b_width = λ e. row-long B BWidth (b-fits x.kind role e) ∙ sym (number-read (valued d c) x BWidth (plain d shape flat i x at BWidth refl));
    }

    rows : (name : PortName) → row_at c (signal_places d (signal_at x.ports name)) ≡ ports_in (valued d c) x name
    rows name = sym (row-read d c low high (signal_at x.ports name))

    pub cell-gives : row_of_node c (cell_node d x) ≡ cell_fn x.kind (parameters_in (valued d c) x) (ports_in (valued d c) x)
    cell-gives =
        ap (λ (r : Row). node_fn (op_of x) (length (signal_places d (output_of x))) r (row_at c (signal_places d (signal_at x.ports B))) (row_at c (signal_places d (signal_at x.ports S)))) (rows A)
        ∙ (ap (λ (r : Row). node_fn (op_of x) (length (signal_places d (output_of x))) (ports_in (valued d c) x A) r (row_at c (signal_places d (signal_at x.ports S)))) (rows B)
        ∙ (ap (λ (r : Row). node_fn (op_of x) (length (signal_places d (output_of x))) (ports_in (valued d c) x A) (ports_in (valued d c) x B) r) (rows S)
        ∙ node-cell (parameters_in (valued d c) x) (ports_in (valued d c) x) (flag x ASigned) (flag x BSigned) (number_at x.parameters Offset) (length (signal_places d (output_of x))) x.kind role parsed))
