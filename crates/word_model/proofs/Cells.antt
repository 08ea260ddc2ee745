-- A node gives what its cell gives: one line for each type.
use Rattle.std.proofs.Common.{◌≡◌, ℕ, max, Bool, true, false, cond, not, List, [], ◌∷◌, length, refl, ap, sym, ◌∙◌}
use Rattle.sby_bits.specs.Rows.{Row, num, value}
use Rattle.cell_table.specs.Cells.{same_bit, unary_fn, binary_fn, is_compared, left_shift_fn, right_shift_fn, sign_shift_fn, any_shift_fn, divide_fn, bit_row, is_reduced, is_logic, mux_fn, pmux_fn, bmux_fn, slice_fn}
use Rattle.cell_table.specs.declared.kind.Any.TheVariants.{Const as AnyConst, Seq as AnySeq}
use Rattle.cell_table.specs.declared.kind.Kind.{Kind}
use Rattle.cell_table.specs.declared.kind.Kind.TheVariants.{Unary as UnaryCell, Binary as BinaryCell, Reduce as ReduceCell, Logic as LogicCell, Compare as CompareCell, ShiftLeft, ShiftRight, ShiftSign, ShiftAny, Divide as DivideCell, Mux, Pmux, Bmux, Slice, Concat, Ff, Dff, Dffe, Sdff, Sdffe, Sdffce, Adff, Adffe, Statement as StatementCell, Any as AnyCell, InitState, LeftOut as LeftOutCell, Unknown}
use Rattle.design_core.specs.Cells.{Parameters, Ports, cell_fn, is_active, is_set, next_state, next_row}
use Rattle.design_core.specs.Ports.{names_parameter}
use Rattle.design_core.specs.Table.{asks_one_sign, role_of}
use Rattle.design_core.specs.declared.names.ParameterName.TheVariants.{ASigned, BSigned, AWidth, BWidth, YWidth, Width, Offset}
use Rattle.design_core.specs.declared.names.PortName.TheVariants.{A, B, S, En, Srst, Arst}
use Rattle.design_core.specs.declared.table.Role.TheVariants.{Combinational}
use Rattle.design_meaning.specs.Meaning.{is_register}
use Rattle.model_core.specs.Meaning.{node_fn}
use Rattle.word_model.specs.Kinds.{asks, is_reset_value, op_of_kind}

-- the parsed parameters are those of the cell, and the rows have their widths
pub record IsParsed (k : Kind) (p : Parameters) (i : Ports) (sa sb : Bool) (at y : ℕ) : Type 0 where
  pub a_signed : sa ≡ is_set (p ASigned)
  pub b_signed : sb ≡ is_set (p BSigned)
  pub one_sign : asks_one_sign k ≡ true → sa ≡ sb
  pub offset : at ≡ num (p Offset)
  pub result : names_parameter k YWidth ≡ true → y ≡ num (p YWidth)
  pub word : names_parameter k Width ≡ true → y ≡ num (p Width)
  pub a_width : names_parameter k AWidth ≡ true → length (i A) ≡ num (p AWidth)
  pub b_width : names_parameter k BWidth ≡ true → length (i B) ≡ num (p BWidth)

module _ (p : Parameters) (i : Ports) (sa sb : Bool) (offset y : ℕ) where
  pub node-cell : (k : Kind) → role_of k ≡ Combinational → IsParsed k p i sa sb offset y → node_fn (op_of_kind k sa sb offset) y (i A) (i B) (i S) ≡ cell_fn k p i
  node-cell (UnaryCell k) r h =
      ap (λ (n : ℕ). unary_fn k n (value sa (i A))) (h.result refl) ∙ ap (λ (s : Bool). unary_fn k (num (p YWidth)) (value s (i A))) h.a_signed
  node-cell (BinaryCell k) r h =
      ap (λ (n : ℕ). binary_fn k n (value sa (i A)) (value sa (i B))) (h.result refl)
      ∙ (ap (λ (s : Bool). binary_fn k (num (p YWidth)) (value sa (i A)) (value s (i B))) (h.one_sign refl ∙ h.b_signed)
      ∙ ap (λ (s : Bool). binary_fn k (num (p YWidth)) (value s (i A)) (value (is_set (p BSigned)) (i B))) h.a_signed)
  node-cell (ReduceCell k) r h = ap (λ (n : ℕ). bit_row n (is_reduced k (i A))) (h.result refl)
  node-cell (LogicCell k) r h = ap (λ (n : ℕ). bit_row n (is_logic k (i A) (i B))) (h.result refl)
  node-cell (CompareCell k) r h =
      ap (λ (n : ℕ). bit_row n (is_compared k (max (length (i A)) (length (i B))) (value sa (i A)) (value sa (i B)))) (h.result refl)
      ∙ (ap (λ (n : ℕ). bit_row (num (p YWidth)) (is_compared k (max n (length (i B))) (value sa (i A)) (value sa (i B)))) (h.a_width refl)
      ∙ (ap (λ (n : ℕ). bit_row (num (p YWidth)) (is_compared k (max (num (p AWidth)) n) (value sa (i A)) (value sa (i B)))) (h.b_width refl)
      ∙ (ap (λ (s : Bool). bit_row (num (p YWidth)) (is_compared k (max (num (p AWidth)) (num (p BWidth))) (value sa (i A)) (value s (i B)))) (h.one_sign refl ∙ h.b_signed)
      ∙ ap (λ (s : Bool). bit_row (num (p YWidth)) (is_compared k (max (num (p AWidth)) (num (p BWidth))) (value s (i A)) (value (is_set (p BSigned)) (i B)))) h.a_signed)))
  node-cell ShiftLeft r h =
      ap (λ (n : ℕ). left_shift_fn n (value sa (i A)) (num (i B))) (h.result refl) ∙ ap (λ (s : Bool). left_shift_fn (num (p YWidth)) (value s (i A)) (num (i B))) h.a_signed
  node-cell ShiftRight r h =
      ap (λ (n : ℕ). right_shift_fn n (max (length (i A)) n) (value sa (i A)) (num (i B))) (h.result refl)
      ∙ (ap (λ (n : ℕ). right_shift_fn (num (p YWidth)) (max n (num (p YWidth))) (value sa (i A)) (num (i B))) (h.a_width refl)
      ∙ ap (λ (s : Bool). right_shift_fn (num (p YWidth)) (max (num (p AWidth)) (num (p YWidth))) (value s (i A)) (num (i B))) h.a_signed)
  node-cell ShiftSign r h =
      ap (λ (n : ℕ). sign_shift_fn n (value sa (i A)) (num (i B))) (h.result refl) ∙ ap (λ (s : Bool). sign_shift_fn (num (p YWidth)) (value s (i A)) (num (i B))) h.a_signed
  node-cell ShiftAny r h =
      ap (λ (n : ℕ). any_shift_fn n (max (length (i A)) n) (value sa (i A)) (value sb (i B))) (h.result refl)
      ∙ (ap (λ (n : ℕ). any_shift_fn (num (p YWidth)) (max n (num (p YWidth))) (value sa (i A)) (value sb (i B))) (h.a_width refl)
      ∙ (ap (λ (s : Bool). any_shift_fn (num (p YWidth)) (max (num (p AWidth)) (num (p YWidth))) (value s (i A)) (value sb (i B))) h.a_signed
      ∙ ap (λ (s : Bool). any_shift_fn (num (p YWidth)) (max (num (p AWidth)) (num (p YWidth))) (value (is_set (p ASigned)) (i A)) (value s (i B))) h.b_signed))
  node-cell (DivideCell k) r h =
      ap (λ (n : ℕ). divide_fn k n (value sa (i A)) (value sa (i B))) (h.result refl)
      ∙ (ap (λ (s : Bool). divide_fn k (num (p YWidth)) (value sa (i A)) (value s (i B))) (h.one_sign refl ∙ h.b_signed)
      ∙ ap (λ (s : Bool). divide_fn k (num (p YWidth)) (value s (i A)) (value (is_set (p BSigned)) (i B))) h.a_signed)
  node-cell Mux r h = refl
  node-cell Pmux r h = ap (λ (n : ℕ). pmux_fn n (i A) (i B) (i S)) (h.word refl)
  node-cell Bmux r h = ap (λ (n : ℕ). bmux_fn n (i A) (i S)) (h.word refl)
  node-cell Slice r h =
      ap (λ (n : ℕ). slice_fn n offset (i A)) (h.result refl) ∙ ap (λ (n : ℕ). slice_fn (num (p YWidth)) n (i A)) h.offset
  node-cell Concat r h = refl
  node-cell Ff r h = absurd cc
  node-cell Dff r h = absurd cc
  node-cell Dffe r h = absurd cc
  node-cell Sdff r h = absurd cc
  node-cell Sdffe r h = absurd cc
  node-cell Sdffce r h = absurd cc
  node-cell Adff r h = absurd cc
  node-cell Adffe r h = absurd cc
  node-cell (StatementCell k) r h = absurd cc
  node-cell (AnyCell AnyConst) r h = absurd cc
  node-cell (AnyCell AnySeq) r h = absurd cc
  node-cell InitState r h = absurd cc
  node-cell (LeftOutCell k) r h = absurd cc
  node-cell Unknown r h = absurd cc

-- a control bit at its level is the control at its polarity
pub active-same : (polarity : Row) (level b : Bool) → level ≡ is_set polarity → same_bit b level ≡ is_active polarity (b ∷ [])
active-same polarity level b e = ap (λ (t : Bool). same_bit b t) e ∙ by (is_set polarity) b
  where
    by : (t x : Bool) → same_bit x t ≡ cond t (is_set (x ∷ [])) (not (is_set (x ∷ [])))
    by true true = refl
    by true false = refl
    by false true = refl
    by false false = refl

-- ---- registers, by what the controls say

-- the next row of a model's register, by its rows and whether it is enabled and reset
abbrev pub kept_next : Bool → Bool → Bool → Row → Row → Row → Row
kept_next first enabled reset d value q = cond first (cond reset value (cond enabled d q)) (cond enabled (cond reset value d) q)
