-- Which widths of A, B, S and Y a node has, by what it does.
use Rattle.std.specs.Prelude.{◌≡◌, ℕ, ◌+◌, ◌*◌, ◌^◌, ◌<◌, ◌≤◌, length, slice_get, Some, take, Contains, All, ◌++◌}
use Rattle.cell_table.specs.declared.kind.Unary.{Unary}
use Rattle.cell_table.specs.declared.kind.Unary.TheVariants.{Not, Pos, Neg}
use Rattle.cell_table.specs.declared.kind.Binary.{Binary}
use Rattle.cell_table.specs.declared.kind.Binary.TheVariants.{And, Or, Xor, Xnor, Add, Sub, Mul}
use Rattle.cell_table.specs.declared.kind.Compare.{Compare}
use Rattle.cell_table.specs.declared.kind.Compare.TheVariants.{Eq, Ne, Eqx, Nex, Lt, Le, Gt, Ge}
use Rattle.model_core.specs.Shape.{NodeOf, ModelOf, AreBelow, IsDistinct, IsRegister, IsStatement, given, reads, sources, states}
use Rattle.model_core.specs.declared.op.Op.{Op}
use Rattle.model_core.specs.declared.op.Op.TheVariants as op

-- from 1 to 4096 bits; from 1 to 128, in arithmetic
abbrev pub IsWidth : ℕ → Type 0
IsWidth n = (1 ≤ n) × (n ≤ 4096)

abbrev pub IsNarrow : ℕ → Type 0
IsNarrow n = (1 ≤ n) × (n ≤ 128)

abbrev pub unary_limit : Unary → ℕ
unary_limit Not = 4096
unary_limit Pos = 4096
unary_limit Neg = 128

abbrev pub binary_limit : Binary → ℕ
binary_limit And = 4096
binary_limit Or = 4096
binary_limit Xor = 4096
binary_limit Xnor = 4096
binary_limit Add = 128
binary_limit Sub = 128
binary_limit Mul = 128

abbrev pub compare_limit : Compare → ℕ
compare_limit Eq = 4096
compare_limit Ne = 4096
compare_limit Eqx = 4096
compare_limit Nex = 4096
compare_limit Lt = 128
compare_limit Le = 128
compare_limit Gt = 128
compare_limit Ge = 128

-- each row in use has at least one bit, and at most this many
abbrev pub IsWithin : ℕ → ℕ → Type 0
IsWithin most n = (1 ≤ n) × (n ≤ most)

-- the widths at A, B, S and Y; a row that isn't in use has none
abbrev pub HasWidths : Op → ℕ → ℕ → ℕ → ℕ → Type 0
HasWidths op.Copy a b s y = IsWidth a × (y ≡ a) × (b ≡ 0) × (s ≡ 0)
HasWidths (op.Unary k signed) a b s y = IsWithin (unary_limit k) a × IsWithin (unary_limit k) y × (b ≡ 0) × (s ≡ 0)
HasWidths (op.Binary k signed) a b s y = IsWithin (binary_limit k) a × IsWithin (binary_limit k) b × IsWithin (binary_limit k) y × (s ≡ 0)
HasWidths (op.Reduce k) a b s y = IsWidth a × IsWidth y × (b ≡ 0) × (s ≡ 0)
HasWidths (op.Logic k) a b s y = IsWidth a × IsWidth b × IsWidth y × (s ≡ 0)
HasWidths (op.Compare k signed) a b s y = IsWithin (compare_limit k) a × IsWithin (compare_limit k) b × IsWidth y × (s ≡ 0)
HasWidths (op.ShiftLeft signed) a b s y = IsNarrow a × IsNarrow b × IsNarrow y × (s ≡ 0)
HasWidths (op.ShiftRight signed) a b s y = IsNarrow a × IsNarrow b × IsNarrow y × (s ≡ 0)
HasWidths (op.ShiftSign signed) a b s y = IsNarrow a × IsNarrow b × IsNarrow y × (s ≡ 0)
HasWidths (op.ShiftAny signed by_signed) a b s y = IsNarrow a × IsNarrow b × IsNarrow y × (s ≡ 0)
HasWidths (op.Divide k signed) a b s y = IsNarrow a × IsNarrow b × IsNarrow y × (s ≡ 0)
HasWidths op.Mux a b s y = IsWidth a × (b ≡ a) × (s ≡ 1) × (y ≡ a)
HasWidths op.Pmux a b s y = IsWidth a × IsWidth b × IsWidth s × (b ≡ a * s) × (y ≡ a)
HasWidths op.Bmux a b s y = IsWidth a × IsWidth s × IsWidth y × (a ≡ y * 2 ^ s) × (b ≡ 0)
HasWidths (op.Slice offset) a b s y = IsWidth a × IsWidth y × (offset + y ≤ a) × (b ≡ 0) × (s ≡ 0)
HasWidths op.Concat a b s y = IsWidth a × IsWidth b × IsWidth y × (y ≡ a + b) × (s ≡ 0)

abbrev pub IsNode : NodeOf → Type 0
IsNode n = HasWidths n.op (length n.a) (length n.b) (length n.s) (length n.y)

-- What holds of every model: each place stands exactly once among the constants, the state bits, the inputs and what nodes give, and each
-- node reads only sources and what earlier nodes give.
pub record IsModel (m : ModelOf) : Type 0 where
  pub limit : m.size ≤ 2 ^ 32
  pub nodes : All IsNode m.nodes
  pub registers : All (IsRegister m.size) m.registers
  pub starts : length m.starts ≡ length (states m)
  pub asserts : All (IsStatement m.size) m.asserts
  pub assumes : All (IsStatement m.size) m.assumes
  pub covers : All (IsStatement m.size) m.covers
  pub below : AreBelow m.size (sources m ++ given m.nodes)
  pub all : (p : ℕ) → p < m.size → Contains (sources m ++ given m.nodes) p
  pub once : IsDistinct (sources m ++ given m.nodes)
  pub order : (i : ℕ) (n : NodeOf) → slice_get m.nodes i ≡ Some n → (p : ℕ) → Contains (reads n) p → Contains (sources m ++ given (take i m.nodes)) p
