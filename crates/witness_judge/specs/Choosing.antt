-- What the frames of a witness choose for a run of a model.
use Rattle.std.specs.Prelude.{ℕ, Bool, true, false, cond, eqb, not, List, [], ◌∷◌, length, map}
use Rattle.std.specs.List.{concat}
use Rattle.sby_bits.specs.Rows.{Row}
use Rattle.model_core.specs.Choices.{ChoicesOf}
use Rattle.model_core.specs.Shape.{ModelOf}
use Rattle.btor_emit.specs.States.{AreStretches}
use Rattle.btor_emit.specs.declared.shape.State.{State}
use Rattle.btor_witness.specs.Choices.{inputs_in, starts_of}
use Rattle.btor_witness.specs.Grammar.{FrameOf}
use Rattle.btor_witness.specs.Shape.{ShapeOf}
use Rattle.btor_witness.specs.declared.shape.Slot.{Slot}
use Rattle.place_rows.specs.Rows.{AreRowsOf}
use Rattle.witness_judge.specs.declared.sought.Sought.{Sought}

-- a model, its states and its inputs as its lines have them, each input a row of places, and what is sought in a run
pub record AskedOf : Type 0 where
  pub model : ModelOf
  pub states : List State
  pub inputs : List (List ℕ)
  pub sought : Sought

-- the states are the model's state bits by stretches, and the inputs are inputs of the model, each in one row at most
pub record IsAsked (a : AskedOf) : Type 0 where
  pub stretches : AreStretches a.model a.states
  pub rows : AreRowsOf a.model.inputs a.inputs

-- a state is for a witness to say where it has no start digits, and so is each input, as wide as its row
abbrev pub state_slot : State → Slot
state_slot s = record { width = s.word.width; is_open = not s.has_start }

abbrev pub input_slot : List ℕ → Slot
input_slot row = record { width = length row; is_open = true }

abbrev pub shape_of : AskedOf → ShapeOf
shape_of a = record { states = map state_slot a.states; inputs = map input_slot a.inputs }

-- the bit for a place, where these places have these bits and all others 0
abbrev pub bit_for : List ℕ → Row → ℕ → Bool
bit_for [] bits p = false
bit_for (q ∷ qs) [] p = false
bit_for (q ∷ qs) (b ∷ bits) p = cond (eqb p q) b (bit_for qs bits p)

-- the bits of all inputs of the model, where those of the rows have these, one row after the other
abbrev pub all_inputs : AskedOf → Row → Row
all_inputs a bits = map (bit_for (concat a.inputs) bits) a.model.inputs

-- what the frames choose: the bits with which open states start, and in each cycle those of the inputs
abbrev pub choices_for : AskedOf → List FrameOf → ChoicesOf
choices_for a fs = record { starts = starts_of (shape_of a) fs; inputs = map (λ f. all_inputs a (inputs_in (shape_of a) f)) fs }
