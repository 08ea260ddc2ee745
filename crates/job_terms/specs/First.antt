-- Where the frames of a job begin.
use Rattle.std.specs.Prelude.{ℕ, List}
use Rattle.model_core.specs.Shape.{ModelOf, states}
use Rattle.model_core.specs.Choices.{open_states}

-- in the first frame the state bits with a start digit have it, or each may have either value
pub data First : Type 0 where
  Start : First
  Any : First

-- the state bits that may have either value in the first frame
abbrev pub open_at : First → ModelOf → List ℕ
open_at Start m = open_states m
open_at Any m = states m
