-- Which texts are read, and where and why another isn't.
use Rattle.std.specs.Prelude.{◌≡◌, ◌≢◌, ℕ, suc, ◌+◌, ◌-◌, ◌^◌, ◌<◌, ◌≤◌, Bool, List, [], ◌∷◌, ◌++◌, length, All}
use Rattle.btor_core.specs.declared.line.Node.{Node}
use Rattle.btor_core.specs.declared.line.Node.TheVariants as node
use Rattle.btor_core.specs.declared.line.Body.{Body}
use Rattle.btor_core.specs.declared.line.Body.TheVariants as body
use Rattle.btor_core.specs.declared.line.Line.{Line}
use Rattle.btor_core.specs.Shape.{BtorOf, constant_bits, constant_width, inits, nexts, sort_at, state_at, width_at}
use Rattle.btor_core.specs.Fits.{BinaryFits, HasValue, IsBtor, IsUntied, IteFits, SliceFits, UnaryFits}
use Rattle.btor_text.specs.Grammar.{AreLines, IsText, Spells, line_words, lines_of}
use Rattle.btor_text.specs.Reading.{SaidOf, line_said}
use Rattle.btor_text.specs.declared.reading.BtorFault.{BtorFault}
use Rattle.btor_text.specs.declared.reading.BtorKind.{BtorKind}
use Rattle.btor_text.specs.declared.reading.BtorKind.TheVariants as kind

-- the words are those of a line that says this
abbrev pub Says : List (List ℕ) → SaidOf → Type 0
Says words x = (constants : List Bool) × (l : Line) × Spells constants words l × (line_said constants l ≡ x)

-- a sort has a bit; a state has one `init` at most, and it stands before its only `next`
abbrev pub MayStand : List Line → Body → Type 0
MayStand before (body.Sort w) = 1 ≤ w
MayStand before (body.Value s w n) = Unit {0}
MayStand before (body.Init s q v) = IsUntied (inits before) q × IsUntied (nexts before) q
MayStand before (body.Next s q v) = IsUntied (nexts before) q
MayStand before (body.Bad n) = Unit {0}
MayStand before (body.Constraint n) = Unit {0}

-- a line stands where it may after those before it: nids rise from 1 on
pub record IsPlaced (before : List Line) (x : SaidOf) : Type 0 where
  pub some : 1 ≤ x.nid
  pub rises : All (λ k. k.nid < x.nid) before
  pub body : MayStand before x.body

-- lines before are the sort, the state and the values that a line reads
abbrev pub NodeKnown : List Line → Node → Type 0
NodeKnown before node.Input = Unit {0}
NodeKnown before node.State = Unit {0}
NodeKnown before (node.Const start) = Unit {0}
NodeKnown before node.Zero = Unit {0}
NodeKnown before node.One = Unit {0}
NodeKnown before node.Ones = Unit {0}
NodeKnown before (node.Unary k a) = HasValue before a
NodeKnown before (node.Binary k a b) = HasValue before a × HasValue before b
NodeKnown before (node.Slice a upper lower) = HasValue before a
NodeKnown before (node.Uext a by) = HasValue before a
NodeKnown before (node.Sext a by) = HasValue before a
NodeKnown before (node.Ite s a b) = HasValue before s × HasValue before a × HasValue before b

abbrev pub IsKnown : List Line → Body → Type 0
IsKnown before (body.Sort w) = Unit {0}
IsKnown before (body.Value s w n) = (1 ≤ sort_at before s) × NodeKnown before n
IsKnown before (body.Init s q v) = (1 ≤ sort_at before s) × (1 ≤ state_at before q) × HasValue before v
IsKnown before (body.Next s q v) = (1 ≤ sort_at before s) × (1 ≤ state_at before q) × HasValue before v
IsKnown before (body.Bad n) = HasValue before n
IsKnown before (body.Constraint n) = HasValue before n

-- widths fit: of a constant its bits are as many as its sort's, of an `init` and a `next` all three are the same
abbrev pub NodeMatches : List Bool → List Line → ℕ → Node → Type 0
NodeMatches bits before w node.Input = Unit {0}
NodeMatches bits before w node.State = Unit {0}
NodeMatches bits before w (node.Const start) = length bits ≡ w
NodeMatches bits before w node.Zero = Unit {0}
NodeMatches bits before w node.One = Unit {0}
NodeMatches bits before w node.Ones = Unit {0}
NodeMatches bits before w (node.Unary k a) = UnaryFits k w (width_at before a)
NodeMatches bits before w (node.Binary k a b) = BinaryFits k w (width_at before a) (width_at before b)
NodeMatches bits before w (node.Slice a upper lower) = SliceFits w (width_at before a) upper lower
NodeMatches bits before w (node.Uext a by) = w ≡ width_at before a + by
NodeMatches bits before w (node.Sext a by) = w ≡ width_at before a + by
NodeMatches bits before w (node.Ite s a b) = IteFits w (width_at before s) (width_at before a) (width_at before b)

abbrev pub Matches : List Bool → List Line → Body → Type 0
Matches bits before (body.Sort w) = Unit {0}
Matches bits before (body.Value s w n) = NodeMatches bits before (sort_at before s) n
Matches bits before (body.Init s q v) = (state_at before q ≡ sort_at before s) × (width_at before v ≡ sort_at before s)
Matches bits before (body.Next s q v) = (state_at before q ≡ sort_at before s) × (width_at before v ≡ sort_at before s)
Matches bits before (body.Bad n) = width_at before n ≡ 1
Matches bits before (body.Constraint n) = width_at before n ≡ 1

-- a sort has 4096 bits at most, and a constant's bits begin within the first 2^32 of the table
abbrev pub NodeHasRoom : List Bool → Node → Type 0
NodeHasRoom constants node.Input = Unit {0}
NodeHasRoom constants node.State = Unit {0}
NodeHasRoom constants (node.Const start) = length constants < 2 ^ 32
NodeHasRoom constants node.Zero = Unit {0}
NodeHasRoom constants node.One = Unit {0}
NodeHasRoom constants node.Ones = Unit {0}
NodeHasRoom constants (node.Unary k a) = Unit {0}
NodeHasRoom constants (node.Binary k a b) = Unit {0}
NodeHasRoom constants (node.Slice a upper lower) = Unit {0}
NodeHasRoom constants (node.Uext a by) = Unit {0}
NodeHasRoom constants (node.Sext a by) = Unit {0}
NodeHasRoom constants (node.Ite s a b) = Unit {0}

abbrev pub BodyHasRoom : List Bool → Body → Type 0
BodyHasRoom constants (body.Sort w) = w ≤ 4096
BodyHasRoom constants (body.Value s w n) = NodeHasRoom constants n
BodyHasRoom constants (body.Init s q v) = Unit {0}
BodyHasRoom constants (body.Next s q v) = Unit {0}
BodyHasRoom constants (body.Bad n) = Unit {0}
BodyHasRoom constants (body.Constraint n) = Unit {0}

-- a line is within the limits
pub record IsWithin (constants : List Bool) (x : SaidOf) : Type 0 where
  pub nid : x.nid < 2 ^ 32 - 1
  pub body : BodyHasRoom constants x.body

-- a line that says this can come after the model's
pub record MayFollow (m : BtorOf) (x : SaidOf) : Type 0 where
  pub placed : IsPlaced m.lines x
  pub known : IsKnown m.lines x.body
  pub widths : Matches x.bits m.lines x.body
  pub within : IsWithin m.constants x

-- a line that says this can't come after the model's, for the first reason in this order
abbrev pub Refuses : BtorOf → SaidOf → BtorKind → Type 0
Refuses m x kind.Syntax = IsPlaced m.lines x → ⊥
Refuses m x kind.UnknownNid = IsPlaced m.lines x × (IsKnown m.lines x.body → ⊥)
Refuses m x kind.Sort = IsPlaced m.lines x × IsKnown m.lines x.body × (Matches x.bits m.lines x.body → ⊥)
Refuses m x kind.Limit = IsPlaced m.lines x × IsKnown m.lines x.body × Matches x.bits m.lines x.body × (IsWithin m.constants x → ⊥)

-- words can't come after the model's lines: they are no line's, or those of one that can't
abbrev pub IsRefused : BtorOf → List (List ℕ) → BtorKind → Type 0
IsRefused m words kind.Syntax = (words ≢ []) × ((x : SaidOf) → Says words x → Refuses m x kind.Syntax)
IsRefused m words kind.UnknownNid = (x : SaidOf) × Says words x × Refuses m x kind.UnknownNid
IsRefused m words kind.Sort = (x : SaidOf) × Says words x × Refuses m x kind.Sort
IsRefused m words kind.Limit = (x : SaidOf) × Says words x × Refuses m x kind.Limit

-- each constant's bits begin within the first 2^32 of the table
abbrev pub HasRoom : List Line → Type 0
HasRoom lines = (before more : List Line) (l : Line) → lines ≡ before ++ l ∷ more → 1 ≤ constant_width l.body → constant_bits before < 2 ^ 32

-- the model that a text is read as
pub record IsModel (bytes : List ℕ) (m : BtorOf) : Type 0 where
  pub btor : IsBtor m
  pub room : HasRoom m.lines
  pub text : IsText bytes m

-- the first line at which a text is no model's, counted from 1: those before it are a model's, after which it can't come
pub record IsFault (bytes : List ℕ) (f : BtorFault) : Type 0 where
  pub model : BtorOf
  pub before : List (List ℕ)
  pub line : List ℕ
  pub more : List (List ℕ)
  pub cut : lines_of bytes ≡ before ++ line ∷ more
  pub place : f.line ≡ suc (length before)
  pub btor : IsBtor model
  pub room : HasRoom model.lines
  pub text : AreLines before model
  pub refused : IsRefused model (line_words line) f.kind
