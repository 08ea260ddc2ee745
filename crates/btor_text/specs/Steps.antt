-- How a reader goes on from line to line.
use Rattle.std.specs.Prelude.{◌≡◌, ◌≢◌, ◌⊎◌, ◌↔◌, ℕ, Bool, false, List, [], ◌∷◌, ◌++◌, length}
use Rattle.btor_core.specs.declared.line.Node.{Node}
use Rattle.btor_core.specs.declared.line.Node.TheVariants as node
use Rattle.btor_core.specs.declared.line.Body.{Body}
use Rattle.btor_core.specs.declared.line.Body.TheVariants as body
use Rattle.btor_core.specs.declared.line.Line.{Line}
use Rattle.btor_core.specs.Shape.{BtorOf, TieOf, sort_at}
use Rattle.btor_core.specs.Fits.{IsUntied}
use Rattle.btor_text.specs.Reading.{SaidOf}
use Rattle.btor_text.specs.Refusals.{MayFollow, Says}

-- the place of a constant's bits filled in
abbrev pub fill_node : ℕ → Node → Node
fill_node p node.Input = node.Input
fill_node p node.State = node.State
fill_node p (node.Const start) = node.Const p
fill_node p node.Zero = node.Zero
fill_node p node.One = node.One
fill_node p node.Ones = node.Ones
fill_node p (node.Unary k a) = node.Unary k a
fill_node p (node.Binary k a b) = node.Binary k a b
fill_node p (node.Slice a upper lower) = node.Slice a upper lower
fill_node p (node.Uext a by) = node.Uext a by
fill_node p (node.Sext a by) = node.Sext a by
fill_node p (node.Ite t a b) = node.Ite t a b

-- the width filled in too, by the sort
abbrev pub fill : (ℕ → ℕ) → ℕ → Body → Body
fill width p (body.Sort w) = body.Sort w
fill width p (body.Value s w n) = body.Value s (width s) (fill_node p n)
fill width p (body.Init s q v) = body.Init s q v
fill width p (body.Next s q v) = body.Next s q v
fill width p (body.Bad n) = body.Bad n
fill width p (body.Constraint n) = body.Constraint n

-- the line after the model's that says this
abbrev pub line_of : BtorOf → SaidOf → Line
line_of m x = record { nid = x.nid; body = fill (sort_at m.lines) (length m.constants) x.body }

-- the model with this line more
abbrev pub with_said : BtorOf → SaidOf → BtorOf
with_said m x = record { lines = m.lines ++ line_of m x ∷ []; constants = m.constants ++ x.bits }

-- the states that have a tie are those in a set
abbrev pub AreTied : (ℕ → Bool) → List TieOf → Type 0
AreTied has ties = (q : ℕ) → (has q ≡ false) ↔ IsUntied ties q

-- a set with this state more
abbrev pub AddsTie : (ℕ → Bool) → (ℕ → Bool) → ℕ → Type 0
AddsTie old new state = (q : ℕ) → (new q ≡ false) ↔ ((old q ≡ false) × (state ≢ q))

-- words were read after a model: there are none, or they are those of the line that was added
pub record IsRead (m : BtorOf) (words : List (List ℕ)) (n : BtorOf) (x : SaidOf) : Type 0 where
  pub says : Says words x
  pub follows : MayFollow m x
  pub grown : n ≡ with_said m x

abbrev pub GoesOn : BtorOf → List (List ℕ) → BtorOf → Type 0
GoesOn m words n = ((words ≡ []) × (n ≡ m)) ⊎ ((x : SaidOf) × IsRead m words n x)
