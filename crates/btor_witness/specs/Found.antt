-- What is kept of a whole witness.
use Rattle.std.specs.Prelude.{◌≡◌, ℕ, length, take}
use Rattle.btor_witness.specs.Shape.{ShapeOf}
use Rattle.btor_witness.specs.Grammar.{WitnessOf}
use Rattle.btor_witness.specs.Choices.{inputs_of, starts_of}
use Rattle.btor_witness.specs.Machine.{WitnessesOf}

-- its bad, the number of its frames, and what these choose, of at most this many
pub record IsKept (shape : ShapeOf) (most : ℕ) (x : WitnessOf) (w : WitnessesOf) : Type 0 where
  pub bad : w.reading.bad ≡ x.bad
  pub count : w.reading.frames.count ≡ length x.frames
  pub starts : w.reading.frames.starts ≡ starts_of shape x.frames
  pub inputs : w.reading.frames.inputs ≡ inputs_of shape (take most x.frames)
