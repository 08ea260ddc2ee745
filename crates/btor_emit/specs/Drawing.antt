-- What lines say of one cycle and of two neighbours, against what the model says of them.
use Rattle.std.specs.Prelude.{◌≡◌, ◌↔◌, ℕ, List, ◌++◌, length, sum_by}
use Rattle.btor_core.specs.Shape.{BtorOf, open_words}
use Rattle.btor_core.specs.Meaning.{GoesOn, Holds, IsBad, IsMet, Starts as LinesStart, Values}
use Rattle.btor_core.specs.Fits.{IsBtor}
use Rattle.model_core.specs.Meaning.{Assumed, Cycle, Follows, Frame, Starts, row_at}
use Rattle.model_core.specs.Shape.{ModelOf, states}
use Rattle.btor_emit.specs.Emission.{open_row}
use Rattle.btor_emit.specs.Goals.{IsGoal}
use Rattle.btor_emit.specs.declared.goal.Goal.{Goal}

-- the lines' values are a cycle of the model
pub record IsCycle (m : ModelOf) (e : BtorOf) (inputs : List ℕ) (vs : Values) (c : Cycle) : Type 0 where
  pub holds : Holds e vs
  pub frame : Frame m c
  pub bits : open_row e vs ≡ row_at c (states m ++ inputs)

-- of each cycle the lines say what the model says
pub record IsDrawn (m : ModelOf) (g : Goal) (e : BtorOf) (inputs : List ℕ) : Type 0 where
  pub btor : IsBtor e
  pub total : sum_by (λ a. a.width) (open_words e.lines) ≡ length (states m ++ inputs)
  pub cycle : (vs : Values) → Holds e vs → (c : Cycle) × IsCycle m e inputs vs c
  pub starts : (vs : Values) (c : Cycle) → IsCycle m e inputs vs c → LinesStart e vs ↔ Starts m c
  pub goes_on : (vs us : Values) (c d : Cycle) → IsCycle m e inputs vs c → IsCycle m e inputs us d → GoesOn e vs us ↔ Follows m c d
  pub met : (vs : Values) (c : Cycle) → IsCycle m e inputs vs c → IsMet e vs ↔ Assumed m c
  pub bad : (vs : Values) (c : Cycle) → IsCycle m e inputs vs c → (k : ℕ) → IsBad e vs k ↔ IsGoal m g c k
