-- What is bad in a cycle of a model.
use Rattle.std.specs.Prelude.{◌≡◌, ℕ, List, take, drop}
use Rattle.model_core.specs.Meaning.{Broken, Cycle, Reached}
use Rattle.model_core.specs.Shape.{ModelOf}
use Rattle.model_core.specs.declared.model.Statement.{Statement}
use Rattle.btor_emit.specs.declared.goal.Goal.{Goal}
use Rattle.btor_emit.specs.declared.goal.Goal.TheVariants as goal

-- bad k is assertion k; or the one bad is the cover statement
abbrev pub IsGoal : ModelOf → Goal → Cycle → ℕ → Type 0
IsGoal m goal.Asserts c k = Broken m c k
IsGoal m (goal.Cover j) c k = (k ≡ 0) × Reached m c j

-- the statements that are bad, one for each bad
abbrev pub goals : ModelOf → Goal → List Statement
goals m goal.Asserts = m.asserts
goals m (goal.Cover j) = take 1 (drop j m.covers)
