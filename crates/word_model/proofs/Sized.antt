-- The rows of a model's nodes, registers and statements have the widths that are served.
use Rattle.std.proofs.Common.{◌≡◌, ◌⊎◌, inl, inr, ℕ, zero, suc, ◌+◌, ◌*◌, ◌^◌, ◌<◌, ◌≤◌, Bool, true, false, cond, List, [], ◌∷◌, ◌++◌, length, map, Option, Some, None, Contains, All, refl, ap, sym, subst, ◌∙◌, arith}
use Rattle.std.specs.Prelude.{slice_get}
use Rattle.std.proofs.lemmas.Nat.{pow_pos}
use Rattle.std.proofs.lemmas.Bool.{false≢true, leb-true}
use Rattle.std.proofs.lemmas.List.{length-map}
use Rattle.cell_table.specs.declared.kind.Unary.TheVariants.{Not, Pos, Neg}
use Rattle.cell_table.specs.declared.kind.Binary.TheVariants.{And, Or, Xor, Xnor, Add, Sub, Mul}
use Rattle.cell_table.specs.declared.kind.Compare.TheVariants.{Eq, Ne, Eqx, Nex, Lt, Le, Gt, Ge}
use Rattle.cell_table.specs.declared.kind.Any.TheVariants.{Const as AnyConst, Seq as AnySeq}
use Rattle.cell_table.specs.declared.kind.Kind.{Kind}
use Rattle.cell_table.specs.declared.kind.Kind.TheVariants.{Unary as UnaryCell, Binary as BinaryCell, Reduce as ReduceCell, Logic as LogicCell, Compare as CompareCell, ShiftLeft, ShiftRight, ShiftSign, ShiftAny, Divide as DivideCell, Mux, Pmux, Bmux, Slice, Concat, Ff, Dff, Dffe, Sdff, Sdffe, Sdffce, Adff, Adffe, Statement as StatementCell, Any as AnyCell, InitState, LeftOut as LeftOutCell, Unknown}
use Rattle.design_check.specs.Faults.{IsFlat, flag}
use Rattle.design_core.specs.Asked.{is_inside, number_at, output_of}
use Rattle.design_core.specs.Places.{place_of}
use Rattle.design_core.specs.Ports.{names_parameter, signal_at}
use Rattle.design_core.specs.Shape.{CellOf, DesignOf, IsDesign}
use Rattle.design_core.specs.Table.{form_of, ports_of, role_of, width_limit, width_of}
use Rattle.design_core.specs.declared.names.ParameterName.{ParameterName}
use Rattle.design_core.specs.declared.names.ParameterName.TheVariants.{ASigned, AWidth, BSigned, BWidth, YWidth, Width, SWidth, Offset}
use Rattle.design_core.specs.declared.names.PortName.{PortName}
use Rattle.design_core.specs.declared.names.PortName.TheVariants.{A, B, S, Y}
use Rattle.design_core.specs.declared.parts.Parameter.{Parameter}
use Rattle.design_core.specs.declared.table.PortLine.{PortLine}
use Rattle.design_core.specs.declared.table.Role.TheVariants.{Combinational}
use Rattle.design_core.proofs.Lists.{Contains-from_place}
use Rattle.design_meaning.specs.Meaning.{IsCell}
use Rattle.model_core.specs.Served.{HasWidths, IsNode}
use Rattle.model_core.specs.Shape.{NodeOf}
use Rattle.word_model.specs.Kinds.{asks, op_of_kind}
use Rattle.word_model.specs.Layout.{signal_places}
use Rattle.word_model.specs.Nodes.{cell_node}
use Rattle.word_model.proofs.Asking.{inside, port-limit, port-none, port-width, width-some}
use Rattle.word_model.proofs.Nodal.{output-is}

-- what the table says of the widths at A, B, S and Y, by the parameters
pub record IsSized (k : Kind) (f : ParameterName → ℕ) (a b s y : ℕ) : Type 0 where
  pub at_a : (n : ℕ) (l : PortLine) → slice_get (ports_of k) n ≡ Some l → l.name ≡ A → a ≡ width_of f l.width
  pub at_b : (n : ℕ) (l : PortLine) → slice_get (ports_of k) n ≡ Some l → l.name ≡ B → b ≡ width_of f l.width
  pub at_s : (n : ℕ) (l : PortLine) → slice_get (ports_of k) n ≡ Some l → l.name ≡ S → s ≡ width_of f l.width
  pub at_y : (n : ℕ) (l : PortLine) → slice_get (ports_of k) n ≡ Some l → l.name ≡ Y → y ≡ width_of f l.width
  pub no_b : asks k B ≡ false → b ≡ 0
  pub no_s : asks k S ≡ false → s ≡ 0
  pub a_most : a ≤ width_limit k
  pub b_most : b ≤ width_limit k
  pub s_most : s ≤ width_limit k
  pub y_most : y ≤ width_limit k
  pub some : (p : ParameterName) → form_of p ≡ form_of AWidth → names_parameter k p ≡ true → 1 ≤ f p

positive : (a b : ℕ) → 1 ≤ a → 1 ≤ b → 1 ≤ a * b
positive zero b h g = absurd (omega arith)
positive (suc a) zero h g = absurd (omega arith)
positive (suc a) (suc b) h g = omega arith

power-some : (n : ℕ) → 1 ≤ 2 ^ n
power-some n = omega (arith, pow_pos n)

module _ (f : ParameterName → ℕ) (a b s y offset : ℕ) (sa sb : Bool) where
  pub sized : (k : Kind) → role_of k ≡ Combinational → IsSized k f a b s y → (k ≡ Slice → offset + f YWidth ≤ f AWidth) → HasWidths (op_of_kind k sa sb offset) a b s y
  sized (UnaryCell Not) r h slice = (
    (let e = h.at_a 0 _ refl refl in let p = h.some AWidth refl refl in omega (arith, e, p), h.a_most),
    (let e = h.at_y 1 _ refl refl in let p = h.some YWidth refl refl in omega (arith, e, p), h.y_most),
    h.no_b refl,
    h.no_s refl,
  )
  sized (UnaryCell Pos) r h slice = (
    (let e = h.at_a 0 _ refl refl in let p = h.some AWidth refl refl in omega (arith, e, p), h.a_most),
    (let e = h.at_y 1 _ refl refl in let p = h.some YWidth refl refl in omega (arith, e, p), h.y_most),
    h.no_b refl,
    h.no_s refl,
  )
  sized (UnaryCell Neg) r h slice = (
    (let e = h.at_a 0 _ refl refl in let p = h.some AWidth refl refl in omega (arith, e, p), h.a_most),
    (let e = h.at_y 1 _ refl refl in let p = h.some YWidth refl refl in omega (arith, e, p), h.y_most),
    h.no_b refl,
    h.no_s refl,
  )
  sized (BinaryCell And) r h slice = (
    (let e = h.at_a 0 _ refl refl in let p = h.some AWidth refl refl in omega (arith, e, p), h.a_most),
    (let e = h.at_b 1 _ refl refl in let p = h.some BWidth refl refl in omega (arith, e, p), h.b_most),
    (let e = h.at_y 2 _ refl refl in let p = h.some YWidth refl refl in omega (arith, e, p), h.y_most),
    h.no_s refl,
  )
  sized (BinaryCell Or) r h slice = (
    (let e = h.at_a 0 _ refl refl in let p = h.some AWidth refl refl in omega (arith, e, p), h.a_most),
    (let e = h.at_b 1 _ refl refl in let p = h.some BWidth refl refl in omega (arith, e, p), h.b_most),
    (let e = h.at_y 2 _ refl refl in let p = h.some YWidth refl refl in omega (arith, e, p), h.y_most),
    h.no_s refl,
  )
  sized (BinaryCell Xor) r h slice = (
    (let e = h.at_a 0 _ refl refl in let p = h.some AWidth refl refl in omega (arith, e, p), h.a_most),
    (let e = h.at_b 1 _ refl refl in let p = h.some BWidth refl refl in omega (arith, e, p), h.b_most),
    (let e = h.at_y 2 _ refl refl in let p = h.some YWidth refl refl in omega (arith, e, p), h.y_most),
    h.no_s refl,
  )
  sized (BinaryCell Xnor) r h slice = (
    (let e = h.at_a 0 _ refl refl in let p = h.some AWidth refl refl in omega (arith, e, p), h.a_most),
    (let e = h.at_b 1 _ refl refl in let p = h.some BWidth refl refl in omega (arith, e, p), h.b_most),
    (let e = h.at_y 2 _ refl refl in let p = h.some YWidth refl refl in omega (arith, e, p), h.y_most),
    h.no_s refl,
  )
  sized (BinaryCell Add) r h slice = (
    (let e = h.at_a 0 _ refl refl in let p = h.some AWidth refl refl in omega (arith, e, p), h.a_most),
    (let e = h.at_b 1 _ refl refl in let p = h.some BWidth refl refl in omega (arith, e, p), h.b_most),
    (let e = h.at_y 2 _ refl refl in let p = h.some YWidth refl refl in omega (arith, e, p), h.y_most),
    h.no_s refl,
  )
  sized (BinaryCell Sub) r h slice = (
    (let e = h.at_a 0 _ refl refl in let p = h.some AWidth refl refl in omega (arith, e, p), h.a_most),
    (let e = h.at_b 1 _ refl refl in let p = h.some BWidth refl refl in omega (arith, e, p), h.b_most),
    (let e = h.at_y 2 _ refl refl in let p = h.some YWidth refl refl in omega (arith, e, p), h.y_most),
    h.no_s refl,
  )
  sized (BinaryCell Mul) r h slice = (
    (let e = h.at_a 0 _ refl refl in let p = h.some AWidth refl refl in omega (arith, e, p), h.a_most),
    (let e = h.at_b 1 _ refl refl in let p = h.some BWidth refl refl in omega (arith, e, p), h.b_most),
    (let e = h.at_y 2 _ refl refl in let p = h.some YWidth refl refl in omega (arith, e, p), h.y_most),
    h.no_s refl,
  )
  sized (ReduceCell k) r h slice = (
    (let e = h.at_a 0 _ refl refl in let p = h.some AWidth refl refl in omega (arith, e, p), h.a_most),
    (let e = h.at_y 1 _ refl refl in let p = h.some YWidth refl refl in omega (arith, e, p), h.y_most),
    h.no_b refl,
    h.no_s refl,
  )
  sized (LogicCell k) r h slice = (
    (let e = h.at_a 0 _ refl refl in let p = h.some AWidth refl refl in omega (arith, e, p), h.a_most),
    (let e = h.at_b 1 _ refl refl in let p = h.some BWidth refl refl in omega (arith, e, p), h.b_most),
    (let e = h.at_y 2 _ refl refl in let p = h.some YWidth refl refl in omega (arith, e, p), h.y_most),
    h.no_s refl,
  )
  sized (CompareCell Eq) r h slice = (
    (let e = h.at_a 0 _ refl refl in let p = h.some AWidth refl refl in omega (arith, e, p), h.a_most),
    (let e = h.at_b 1 _ refl refl in let p = h.some BWidth refl refl in omega (arith, e, p), h.b_most),
    (let e = h.at_y 2 _ refl refl in let p = h.some YWidth refl refl in omega (arith, e, p), h.y_most),
    h.no_s refl,
  )
  sized (CompareCell Ne) r h slice = (
    (let e = h.at_a 0 _ refl refl in let p = h.some AWidth refl refl in omega (arith, e, p), h.a_most),
    (let e = h.at_b 1 _ refl refl in let p = h.some BWidth refl refl in omega (arith, e, p), h.b_most),
    (let e = h.at_y 2 _ refl refl in let p = h.some YWidth refl refl in omega (arith, e, p), h.y_most),
    h.no_s refl,
  )
  sized (CompareCell Eqx) r h slice = (
    (let e = h.at_a 0 _ refl refl in let p = h.some AWidth refl refl in omega (arith, e, p), h.a_most),
    (let e = h.at_b 1 _ refl refl in let p = h.some BWidth refl refl in omega (arith, e, p), h.b_most),
    (let e = h.at_y 2 _ refl refl in let p = h.some YWidth refl refl in omega (arith, e, p), h.y_most),
    h.no_s refl,
  )
  sized (CompareCell Nex) r h slice = (
    (let e = h.at_a 0 _ refl refl in let p = h.some AWidth refl refl in omega (arith, e, p), h.a_most),
    (let e = h.at_b 1 _ refl refl in let p = h.some BWidth refl refl in omega (arith, e, p), h.b_most),
    (let e = h.at_y 2 _ refl refl in let p = h.some YWidth refl refl in omega (arith, e, p), h.y_most),
    h.no_s refl,
  )
  sized (CompareCell Lt) r h slice = (
    (let e = h.at_a 0 _ refl refl in let p = h.some AWidth refl refl in omega (arith, e, p), h.a_most),
    (let e = h.at_b 1 _ refl refl in let p = h.some BWidth refl refl in omega (arith, e, p), h.b_most),
    (let e = h.at_y 2 _ refl refl in let p = h.some YWidth refl refl in omega (arith, e, p), (let most : y ≤ 128 = h.y_most in omega (arith, most))),
    h.no_s refl,
  )
  sized (CompareCell Le) r h slice = (
    (let e = h.at_a 0 _ refl refl in let p = h.some AWidth refl refl in omega (arith, e, p), h.a_most),
    (let e = h.at_b 1 _ refl refl in let p = h.some BWidth refl refl in omega (arith, e, p), h.b_most),
    (let e = h.at_y 2 _ refl refl in let p = h.some YWidth refl refl in omega (arith, e, p), (let most : y ≤ 128 = h.y_most in omega (arith, most))),
    h.no_s refl,
  )
  sized (CompareCell Gt) r h slice = (
    (let e = h.at_a 0 _ refl refl in let p = h.some AWidth refl refl in omega (arith, e, p), h.a_most),
    (let e = h.at_b 1 _ refl refl in let p = h.some BWidth refl refl in omega (arith, e, p), h.b_most),
    (let e = h.at_y 2 _ refl refl in let p = h.some YWidth refl refl in omega (arith, e, p), (let most : y ≤ 128 = h.y_most in omega (arith, most))),
    h.no_s refl,
  )
  sized (CompareCell Ge) r h slice = (
    (let e = h.at_a 0 _ refl refl in let p = h.some AWidth refl refl in omega (arith, e, p), h.a_most),
    (let e = h.at_b 1 _ refl refl in let p = h.some BWidth refl refl in omega (arith, e, p), h.b_most),
    (let e = h.at_y 2 _ refl refl in let p = h.some YWidth refl refl in omega (arith, e, p), (let most : y ≤ 128 = h.y_most in omega (arith, most))),
    h.no_s refl,
  )
  sized ShiftLeft r h slice = (
    (let e = h.at_a 0 _ refl refl in let p = h.some AWidth refl refl in omega (arith, e, p), h.a_most),
    (let e = h.at_b 1 _ refl refl in let p = h.some BWidth refl refl in omega (arith, e, p), h.b_most),
    (let e = h.at_y 2 _ refl refl in let p = h.some YWidth refl refl in omega (arith, e, p), h.y_most),
    h.no_s refl,
  )
  sized ShiftRight r h slice = (
    (let e = h.at_a 0 _ refl refl in let p = h.some AWidth refl refl in omega (arith, e, p), h.a_most),
    (let e = h.at_b 1 _ refl refl in let p = h.some BWidth refl refl in omega (arith, e, p), h.b_most),
    (let e = h.at_y 2 _ refl refl in let p = h.some YWidth refl refl in omega (arith, e, p), h.y_most),
    h.no_s refl,
  )
  sized ShiftSign r h slice = (
    (let e = h.at_a 0 _ refl refl in let p = h.some AWidth refl refl in omega (arith, e, p), h.a_most),
    (let e = h.at_b 1 _ refl refl in let p = h.some BWidth refl refl in omega (arith, e, p), h.b_most),
    (let e = h.at_y 2 _ refl refl in let p = h.some YWidth refl refl in omega (arith, e, p), h.y_most),
    h.no_s refl,
  )
  sized ShiftAny r h slice = (
    (let e = h.at_a 0 _ refl refl in let p = h.some AWidth refl refl in omega (arith, e, p), h.a_most),
    (let e = h.at_b 1 _ refl refl in let p = h.some BWidth refl refl in omega (arith, e, p), h.b_most),
    (let e = h.at_y 2 _ refl refl in let p = h.some YWidth refl refl in omega (arith, e, p), h.y_most),
    h.no_s refl,
  )
  sized (DivideCell k) r h slice = (
    (let e = h.at_a 0 _ refl refl in let p = h.some AWidth refl refl in omega (arith, e, p), h.a_most),
    (let e = h.at_b 1 _ refl refl in let p = h.some BWidth refl refl in omega (arith, e, p), h.b_most),
    (let e = h.at_y 2 _ refl refl in let p = h.some YWidth refl refl in omega (arith, e, p), h.y_most),
    h.no_s refl,
  )
  sized Mux r h slice = (
      let a' = h.at_a 0 _ refl refl in
      let b' = h.at_b 1 _ refl refl in
      let s' = h.at_s 2 _ refl refl in
      let y' = h.at_y 3 _ refl refl in
      let p = h.some Width refl refl in
      ((omega (arith, a', p), h.a_most), omega (arith, a', b'), s', omega (arith, a', y')))
  sized Pmux r h slice = (
      let a' = h.at_a 0 _ refl refl in
      let b' = h.at_b 1 _ refl refl in
      let s' = h.at_s 2 _ refl refl in
      let y' = h.at_y 3 _ refl refl in
      let p = h.some Width refl refl in
      let q = h.some SWidth refl refl in
      let product : b ≡ a * s = b' ∙ (ap (λ n. n * f SWidth) (sym a') ∙ ap (λ n. a * n) (sym s')) in
      ((omega (arith, a', p), h.a_most), (let e = positive (f Width) (f SWidth) p q in omega (arith, b', e), h.b_most), (omega (arith, s', q), h.s_most), product, omega (arith, a', y')))
  sized Bmux r h slice = (
      let a' = h.at_a 0 _ refl refl in
      let s' = h.at_s 1 _ refl refl in
      let y' = h.at_y 2 _ refl refl in
      let p = h.some Width refl refl in
      let q = h.some SWidth refl refl in
      let product : a ≡ y * 2 ^ s = a' ∙ (ap (λ n. n * 2 ^ f SWidth) (sym y') ∙ ap (λ n. y * 2 ^ n) (sym s')) in
      ((let e = positive (f Width) (2 ^ f SWidth) p (power-some (f SWidth)) in omega (arith, a', e), h.a_most), (omega (arith, s', q), h.s_most), (omega (arith, y', p), h.y_most), product, h.no_b refl))
  sized Slice r h slice = (
      let a' = h.at_a 0 _ refl refl in
      let y' = h.at_y 1 _ refl refl in
      let p = h.some AWidth refl refl in
      let q = h.some YWidth refl refl in
      let in_a = slice refl in
      ((omega (arith, a', p), h.a_most), (omega (arith, y', q), h.y_most), omega (arith, a', y', in_a), h.no_b refl, h.no_s refl))
  sized Concat r h slice = (
      let a' = h.at_a 0 _ refl refl in
      let b' = h.at_b 1 _ refl refl in
      let y' = h.at_y 2 _ refl refl in
      let p = h.some AWidth refl refl in
      let q = h.some BWidth refl refl in
      ((omega (arith, a', p), h.a_most), (omega (arith, b', q), h.b_most), (omega (arith, y', p), h.y_most), omega (arith, a', b', y'), h.no_s refl))
  sized Ff r h slice = absurd cc
  sized Dff r h slice = absurd cc
  sized Dffe r h slice = absurd cc
  sized Sdff r h slice = absurd cc
  sized Sdffe r h slice = absurd cc
  sized Sdffce r h slice = absurd cc
  sized Adff r h slice = absurd cc
  sized Adffe r h slice = absurd cc
  sized (StatementCell k) r h slice = absurd cc
  sized (AnyCell AnyConst) r h slice = absurd cc
  sized (AnyCell AnySeq) r h slice = absurd cc
  sized InitState r h slice = absurd cc
  sized (LeftOutCell k) r h slice = absurd cc
  sized Unknown r h slice = absurd cc

module _ (d : DesignOf) (shape : IsDesign d) (flat : IsFlat d) (i : ℕ) (x : CellOf) (at : IsCell d i x) where
  port-line : (name : PortName) (n : ℕ) (l : PortLine) → slice_get (ports_of x.kind) n ≡ Some l → l.name ≡ name → length (signal_places d (signal_at x.ports name)) ≡ width_of (number_at x.parameters) l.width
  port-line name n l h e =
      length-map (signal_at x.ports name) (place_of d)
      ∙ (ap (λ (p : PortName). length (signal_at x.ports p)) (sym e) ∙ port-width d shape flat i x at l (Contains-from_place (ports_of x.kind) n l h))

  port-most : (name : PortName) → length (signal_places d (signal_at x.ports name)) ≤ width_limit x.kind
  port-most name = omega (arith, length-map (signal_at x.ports name) (place_of d), port-limit d shape flat i x at name)

  port-no : (name : PortName) → asks x.kind name ≡ false → length (signal_places d (signal_at x.ports name)) ≡ 0
  port-no name h = ap (λ l. length (signal_places d l)) (port-none d shape flat i x at name h)

  slice-inside : (k : Kind) (ps : List Parameter) → is_inside k ps ≡ true → k ≡ Slice → number_at ps Offset + number_at ps YWidth ≤ number_at ps AWidth
  slice-inside k ps h e = leb-true (number_at ps Offset + number_at ps YWidth) (number_at ps AWidth) (subst (λ (z : Kind). is_inside z ps ≡ true) e h)

  pub cell-node-sized : role_of x.kind ≡ Combinational → IsNode (cell_node d x)
  cell-node-sized role =
      subst (λ (y : ℕ). HasWidths (op_of_kind x.kind (flag x ASigned) (flag x BSigned) (number_at x.parameters Offset)) (length (signal_places d (signal_at x.ports A))) (length (signal_places d (signal_at x.ports B))) (length (signal_places d (signal_at x.ports S))) y)
      (ap (λ l. length (signal_places d l)) (sym (output-is d shape flat i x at role)))
      (sized (number_at x.parameters) (length (signal_places d (signal_at x.ports A))) (length (signal_places d (signal_at x.ports B))) (length (signal_places d (signal_at x.ports S))) (length (signal_places d (signal_at x.ports Y))) (number_at x.parameters Offset) (flag x ASigned) (flag x BSigned) x.kind role
      (record {
        at_a = port-line A;
        at_b = port-line B;
        at_s = port-line S;
        at_y = port-line Y;
        no_b = port-no B;
        no_s = port-no S;
        a_most = port-most A;
        b_most = port-most B;
        s_most = port-most S;
        y_most = port-most Y;
        some = λ p e h. width-some d shape flat i x at p e h;
      })
      (slice-inside x.kind x.parameters (inside d shape flat i x at)))
