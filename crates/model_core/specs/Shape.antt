-- The parts of a model as contracts see them: lists and places. A place is that of a bit, counted from 0.
use Rattle.std.specs.Prelude.{◌≡◌, ℕ, suc, ◌<◌, ◌≤◌, Bool, List, ◌∷◌, ◌++◌, length, Option, Some, slice_get, All}
use Rattle.std.specs.List.{flat_map}
use Rattle.model_core.specs.declared.model.Control.{Control}
use Rattle.model_core.specs.declared.model.Statement.{Statement}
use Rattle.model_core.specs.declared.op.Op.{Op}

-- a node: what it does, its operands' places at A, B and S, and the places of its output
pub record NodeOf : Type 0 where
  pub op : Op
  pub a : List ℕ
  pub b : List ℕ
  pub s : List ℕ
  pub y : List ℕ

-- What is kept from cycle to cycle: the row at `q` is next the row at `value` where it is reset, else that at `d` where it is enabled,
-- else itself; where `reset_first` isn't set, it has to be enabled to be reset.
pub record RegisterOf : Type 0 where
  pub q : List ℕ
  pub d : List ℕ
  pub value : List ℕ
  pub enable : Control
  pub reset : Control
  pub reset_first : Bool

-- A model: how many places it has, the place of the constant 0, after which that of 1 stands, nodes in an order in which each can be
-- computed, registers with the digits of their first cycle, bit by bit, the places of inputs, and the statements.
pub record ModelOf : Type 0 where
  pub size : ℕ
  pub zero : ℕ
  pub nodes : List NodeOf
  pub registers : List RegisterOf
  pub starts : List (Option Bool)
  pub inputs : List ℕ
  pub asserts : List Statement
  pub assumes : List Statement
  pub covers : List Statement

-- the places of all state bits, register by register
abbrev pub states : ModelOf → List ℕ
states m = flat_map (λ r. r.q) m.registers

-- the places that no node gives a value: the constants, the state bits and the inputs
abbrev pub sources : ModelOf → List ℕ
sources m = m.zero ∷ suc m.zero ∷ (states m ++ m.inputs)

-- the places to which nodes give a value
abbrev pub given : List NodeOf → List ℕ
given nodes = flat_map (λ n. n.y) nodes

-- what a node reads
abbrev pub reads : NodeOf → List ℕ
reads n = n.a ++ (n.b ++ n.s)

-- the places are below this
abbrev pub AreBelow : ℕ → List ℕ → Type 0
AreBelow size places = All (λ p. p < size) places

-- no two of these are the same
abbrev pub IsDistinct : List ℕ → Type 0
IsDistinct ps = (i j p : ℕ) → slice_get ps i ≡ Some p → slice_get ps j ≡ Some p → i ≡ j

abbrev pub IsControl : ℕ → Control → Type 0
IsControl size c = c.place < size

-- the rows of a register have one width, from 1 to 4096
pub record IsRegister (size : ℕ) (r : RegisterOf) : Type 0 where
  pub some : 1 ≤ length r.q
  pub narrow : length r.q ≤ 4096
  pub d : length r.d ≡ length r.q
  pub value : length r.value ≡ length r.q
  pub d_below : AreBelow size r.d
  pub value_below : AreBelow size r.value
  pub enable : IsControl size r.enable
  pub reset : IsControl size r.reset

abbrev pub IsStatement : ℕ → Statement → Type 0
IsStatement size s = (s.a < size) × (s.en < size)
