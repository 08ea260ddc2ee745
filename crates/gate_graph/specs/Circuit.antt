-- Gates: a formula in which each variable is an input or a function of the inputs.
use Rattle.std.specs.Prelude.{◌≡◌, ℕ, ◌<◌, ◌≤◌, ◌+◌, Bool, false, List, [], ◌∷◌, ◌++◌, Contains}
use Rattle.cnf_form.specs.Cnf.{LitOf, FormulaOf, Assignment, Satisfies, Closure, LitWithin, Within, lit_in}
use Rattle.gate_graph.specs.declared.gate.Gate.{Gate}
use Rattle.cnf_form.specs.declared.literal.TheConstants.{MAX_VARS}
pub use Rattle.gate_graph.specs.Folding.{xor}

-- what has been built: a formula, and those of its variables that are inputs, in the order in which they were made
pub record GatesOf : Type 0 where
  pub formula : FormulaOf
  pub inputs : List ℕ
  -- how many variables there may be
  pub most : ℕ
  -- the gates that were made, each with its literal, in the order in which they were made
  pub kept : List (Gate × LitOf)
  -- memory ran out, and no gate is made any more
  pub spent : Bool

-- the assignments have the same bits for these variables
abbrev pub AgreeOn : List ℕ → Assignment → Assignment → Type 0
AgreeOn vs x y = (v : ℕ) → Contains vs v → x v ≡ y v

-- the assignments have the same bits for the variables from 1 to n
abbrev pub AgreeTo : ℕ → Assignment → Assignment → Type 0
AgreeTo n x y = (v : ℕ) → 0 < v → v ≤ n → x v ≡ y v

-- each clause of the first list is one of the second
abbrev pub IsPartOf : List (List LitOf) → List (List LitOf) → Type 0
IsPartOf F G = (c : List LitOf) → Contains F c → Contains G c

-- unit propagation reaches a literal of the variable
abbrev pub IsFixed : List (List LitOf) → ℕ → Type 0
IsFixed F v = (negated : Bool) × Closure F (record { var = v; negated = negated })

-- what holds of all gates
pub record IsGates (g : GatesOf) : Type 0 where
  pub limit : g.formula.vars ≤ MAX_VARS
  pub within : Within g.formula.vars g.formula.clauses
  pub inputs_within : (v : ℕ) → Contains g.inputs v → (0 < v) × (v ≤ g.formula.vars)
  -- every assignment of the inputs extends to one that satisfies the clauses ..
  pub extends : (x : Assignment) → (y : Assignment) × Satisfies y g.formula.clauses × AgreeOn g.inputs x y
  -- .. and to one only
  pub unique : (x y : Assignment) → Satisfies x g.formula.clauses → Satisfies y g.formula.clauses → AgreeOn g.inputs x y → AgreeTo g.formula.vars x y
  -- whatever clauses are added, unit propagation that fixes each input fixes every variable
  pub fixed : (F : List (List LitOf)) → IsPartOf g.formula.clauses F → ((v : ℕ) → Contains g.inputs v → IsFixed F v) → (v : ℕ) → 0 < v → v ≤ g.formula.vars → IsFixed F v

-- the literal has this value in every assignment that satisfies the clauses
abbrev pub Means : GatesOf → LitOf → (Assignment → Bool) → Type 0
Means g l value = (x : Assignment) → Satisfies x g.formula.clauses → lit_in x l ≡ value x

-- the new gates are the old ones with more after them
pub record Continues (old new : GatesOf) : Type 0 where
  pub vars : old.formula.vars ≤ new.formula.vars
  pub clauses : (more : List (List LitOf)) × (new.formula.clauses ≡ old.formula.clauses ++ more)
  pub inputs : (more : List ℕ) × (new.inputs ≡ old.inputs ++ more)
  pub kept : (more : List (Gate × LitOf)) × (new.kept ≡ old.kept ++ more)
  pub limit : new.most ≡ old.most

-- a gate of this value, at the literal; it makes one variable at most
pub record MakesGate (old new : GatesOf) (value : Assignment → Bool) (l : LitOf) : Type 0 where
  pub continues : Continues old new
  pub inputs : new.inputs ≡ old.inputs
  pub most : new.formula.vars ≤ old.formula.vars + 1
  pub within : LitWithin new.formula.vars l
  pub means : Means new l value

-- an input at the literal, which is a new variable and not its negation
pub record MakesInput (old new : GatesOf) (l : LitOf) : Type 0 where
  pub continues : Continues old new
  pub inputs : new.inputs ≡ old.inputs ++ l.var ∷ []
  pub most : new.formula.vars ≤ old.formula.vars + 1
  pub within : LitWithin new.formula.vars l
  pub fresh : old.formula.vars < l.var
  pub plain : l.negated ≡ false
  pub kept : new.kept ≡ old.kept

-- Each assignment that satisfies the old gates extends to one that satisfies the new ones, with the same bits for the old variables,
-- and each that satisfies the new ones satisfies the old.
pub record Grows (old new : GatesOf) : Type 0 where
  pub keeps : (x : Assignment) → Satisfies x new.formula.clauses → Satisfies x old.formula.clauses
  pub extends : (x : Assignment) → Satisfies x old.formula.clauses → (y : Assignment) × Satisfies y new.formula.clauses × AgreeTo old.formula.vars x y

-- the same, with either value of the literal
pub record GrowsFreely (old new : GatesOf) (l : LitOf) : Type 0 where
  pub keeps : (x : Assignment) → Satisfies x new.formula.clauses → Satisfies x old.formula.clauses
  pub extends : (x : Assignment) (b : Bool) → Satisfies x old.formula.clauses → (y : Assignment) × Satisfies y new.formula.clauses × AgreeTo old.formula.vars x y × (lit_in y l ≡ b)
