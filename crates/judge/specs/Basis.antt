-- What problems of one text have in common.
use Rattle.std.specs.Prelude.{◌≡◌, ℕ, List, Option}
use Rattle.design_check.specs.Faults.{IsFlat}
use Rattle.design_core.specs.Shape.{DesignOf}
use Rattle.design_reader.specs.Grammar.{Reads}
use Rattle.model_cone.specs.declared.asked.Asked.{Asked}
use Rattle.model_core.specs.Shape.{ModelOf}
use Rattle.net_pair.specs.Numbers.{HaveStates}
use Rattle.task_net.specs.Net.{IsTaskNet, TaskNetOf}
use Rattle.word_model.specs.Numbers.{numbered_places}
use Rattle.judge.specs.Problem.{IsShapeOf, ShapeOf}
use Rattle.judge.specs.Stored.{IsBuiltFor}

-- a text, what is asked of it, the design that it reads, its model, what a witness may say of that, the net of what is asked,
-- and by their numbers the design's state bits among those of the net
pub record BasisOf : Type 0 where
  pub text : List ℕ
  pub asked : Asked
  pub design : DesignOf
  pub model : ModelOf
  pub shape : ShapeOf
  pub net : TaskNetOf
  pub bits : List (Option ℕ)

-- the text reads the design and no other, which is flat; the model is the design's, made of its parts; a witness may say what is open in it; the net is that of what is asked
pub record IsBasis (b : BasisOf) : Type 0 where
  pub reads : Reads b.text b.design
  pub only : (d : DesignOf) → Reads b.text d → d ≡ b.design
  pub flat : IsFlat b.design
  pub built : IsBuiltFor b.design b.model
  pub shape : IsShapeOf b.design b.model b.shape
  pub net : IsTaskNet b.model b.asked b.net
  pub bits : HaveStates b.net.states (numbered_places b.design) b.bits
