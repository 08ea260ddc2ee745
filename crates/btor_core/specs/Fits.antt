-- What makes lines a model: their numbers rise, what they read stands before them, and widths are as each operator asks.
use Rattle.std.specs.Prelude.{◌≡◌, ◌≢◌, ℕ, suc, ◌+◌, ◌-◌, ◌^◌, ◌<◌, ◌≤◌, Bool, List, ◌∷◌, ◌++◌, length, All}
use Rattle.btor_core.specs.declared.line.Unary.{Unary}
use Rattle.btor_core.specs.declared.line.Unary.TheVariants as unary
use Rattle.btor_core.specs.declared.line.Binary.{Binary}
use Rattle.btor_core.specs.declared.line.Binary.TheVariants as binary
use Rattle.btor_core.specs.declared.line.Node.{Node}
use Rattle.btor_core.specs.declared.line.Node.TheVariants as node
use Rattle.btor_core.specs.declared.line.Body.{Body}
use Rattle.btor_core.specs.declared.line.Body.TheVariants as body
use Rattle.btor_core.specs.declared.line.Line.{Line}
use Rattle.btor_core.specs.declared.line.Word.{Word}
use Rattle.btor_core.specs.Shape.{BtorOf, TieOf, constant_bits, inits, nexts, sort_at, state_at, width_at}

-- a bit-vector has from 1 to 4096 bits
abbrev pub IsWidth : ℕ → Type 0
IsWidth w = (1 ≤ w) × (w ≤ 4096)

-- an operator's width by its operands'
abbrev pub UnaryFits : Unary → ℕ → ℕ → Type 0
UnaryFits unary.Not w a = w ≡ a
UnaryFits unary.Neg w a = w ≡ a
UnaryFits unary.Redand w a = w ≡ 1
UnaryFits unary.Redor w a = w ≡ 1
UnaryFits unary.Redxor w a = w ≡ 1

abbrev pub BinaryFits : Binary → ℕ → ℕ → ℕ → Type 0
BinaryFits binary.And w a b = (w ≡ a) × (b ≡ a)
BinaryFits binary.Or w a b = (w ≡ a) × (b ≡ a)
BinaryFits binary.Xor w a b = (w ≡ a) × (b ≡ a)
BinaryFits binary.Add w a b = (w ≡ a) × (b ≡ a)
BinaryFits binary.Sub w a b = (w ≡ a) × (b ≡ a)
BinaryFits binary.Mul w a b = (w ≡ a) × (b ≡ a)
BinaryFits binary.Udiv w a b = (w ≡ a) × (b ≡ a)
BinaryFits binary.Urem w a b = (w ≡ a) × (b ≡ a)
BinaryFits binary.Sdiv w a b = (w ≡ a) × (b ≡ a)
BinaryFits binary.Srem w a b = (w ≡ a) × (b ≡ a)
BinaryFits binary.Sll w a b = (w ≡ a) × (b ≡ a)
BinaryFits binary.Srl w a b = (w ≡ a) × (b ≡ a)
BinaryFits binary.Sra w a b = (w ≡ a) × (b ≡ a)
BinaryFits binary.Eq w a b = (w ≡ 1) × (b ≡ a)
BinaryFits binary.Neq w a b = (w ≡ 1) × (b ≡ a)
BinaryFits binary.Ult w a b = (w ≡ 1) × (b ≡ a)
BinaryFits binary.Ulte w a b = (w ≡ 1) × (b ≡ a)
BinaryFits binary.Slt w a b = (w ≡ 1) × (b ≡ a)
BinaryFits binary.Slte w a b = (w ≡ 1) × (b ≡ a)
BinaryFits binary.Concat w a b = w ≡ a + b

-- a slice from the upper to the lower place; a word that is longer by some bits; a choice by one bit
abbrev pub SliceFits : ℕ → ℕ → ℕ → ℕ → Type 0
SliceFits w a upper lower = (lower ≤ upper) × (upper < a) × (w + lower ≡ suc upper)

abbrev pub IteFits : ℕ → ℕ → ℕ → ℕ → Type 0
IteFits w s a b = (s ≡ 1) × (a ≡ w) × (b ≡ w)

-- a line before these that come has a value
abbrev pub HasValue : List Line → ℕ → Type 0
HasValue before a = 1 ≤ width_at before a

-- a constant's bits stand in the table after those of the constants before it; operands have values, whose widths fit
abbrev pub NodeFits : List Bool → List Line → ℕ → Node → Type 0
NodeFits constants before w node.Input = Unit {0}
NodeFits constants before w node.State = Unit {0}
NodeFits constants before w (node.Const start) = (start ≡ constant_bits before) × (start + w ≤ length constants)
NodeFits constants before w node.Zero = Unit {0}
NodeFits constants before w node.One = Unit {0}
NodeFits constants before w node.Ones = Unit {0}
NodeFits constants before w (node.Unary k a) = HasValue before a × UnaryFits k w (width_at before a)
NodeFits constants before w (node.Binary k a b) = HasValue before a × HasValue before b × BinaryFits k w (width_at before a) (width_at before b)
NodeFits constants before w (node.Slice a upper lower) = HasValue before a × SliceFits w (width_at before a) upper lower
NodeFits constants before w (node.Uext a by) = HasValue before a × (w ≡ width_at before a + by)
NodeFits constants before w (node.Sext a by) = HasValue before a × (w ≡ width_at before a + by)
NodeFits constants before w (node.Ite s a b) = HasValue before s × HasValue before a × HasValue before b × IteFits w (width_at before s) (width_at before a) (width_at before b)

-- the state is in none of these
abbrev pub IsUntied : List TieOf → ℕ → Type 0
IsUntied ties q = All (λ t. t.state ≢ q) ties

-- of this sort a state, and a value of the same width
pub record TieFits (before : List Line) (s q v : ℕ) : Type 0 where
  pub sort : 1 ≤ sort_at before s
  pub state : state_at before q ≡ sort_at before s
  pub value : width_at before v ≡ sort_at before s

-- what a line may say after those before it: of a state one `init` at most, which stands before its only `next`
pub record InitFits (before : List Line) (s q v : ℕ) : Type 0 where
  pub fits : TieFits before s q v
  pub first : IsUntied (inits before) q
  pub early : IsUntied (nexts before) q

pub record NextFits (before : List Line) (s q v : ℕ) : Type 0 where
  pub fits : TieFits before s q v
  pub first : IsUntied (nexts before) q

pub record ValueFits (constants : List Bool) (before : List Line) (s w : ℕ) (n : Node) : Type 0 where
  pub width : IsWidth w
  pub sort : sort_at before s ≡ w
  pub node : NodeFits constants before w n

abbrev pub BodyFits : List Bool → List Line → Body → Type 0
BodyFits constants before (body.Sort w) = IsWidth w
BodyFits constants before (body.Value s w n) = ValueFits constants before s w n
BodyFits constants before (body.Init s q v) = InitFits before s q v
BodyFits constants before (body.Next s q v) = NextFits before s q v
BodyFits constants before (body.Bad n) = width_at before n ≡ 1
BodyFits constants before (body.Constraint n) = width_at before n ≡ 1

-- a line that may come after these: its number is greater, and below the greatest of 32 bits, which stands for all that are past it
pub record LineFits (constants : List Bool) (before : List Line) (l : Line) : Type 0 where
  pub some : 1 ≤ l.nid
  pub limit : l.nid < 2 ^ 32 - 1
  pub rises : All (λ k. k.nid < l.nid) before
  pub body : BodyFits constants before l.body

-- each line fits those before it, and the table has the bits of the constants alone
pub record IsBtor (m : BtorOf) : Type 0 where
  pub each : (before more : List Line) (l : Line) → m.lines ≡ before ++ l ∷ more → LineFits m.constants before l
  pub table : length m.constants ≡ constant_bits m.lines

-- the state has no `init` and no `next` yet, or no `next`, and the value is as wide as it is
pub record MayStart (lines : List Line) (q v : Word) : Type 0 where
  pub some : 1 ≤ q.width
  pub state : state_at lines q.nid ≡ q.width
  pub value : width_at lines v.nid ≡ q.width
  pub first : IsUntied (inits lines) q.nid
  pub early : IsUntied (nexts lines) q.nid

pub record MayGoOn (lines : List Line) (q v : Word) : Type 0 where
  pub some : 1 ≤ q.width
  pub state : state_at lines q.nid ≡ q.width
  pub value : width_at lines v.nid ≡ q.width
  pub first : IsUntied (nexts lines) q.nid
