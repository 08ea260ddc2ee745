-- Stretches of state bits, as they are found.
use Rattle.std.specs.Prelude.{◌≡◌, ℕ, ◌-◌, List, Some, All, slice_get, take, Option, Bool}
use Rattle.btor_emit.specs.States.{IsStretchOf, bits_of, is_known}
use Rattle.btor_emit.specs.declared.shape.State.{State}
use Rattle.model_core.specs.Shape.{ModelOf}

-- the stretches of the first k state bits
pub record AreStretchesTo (m : ModelOf) (ss : List State) (k : ℕ) : Type 0 where
  pub each : All (IsStretchOf m) ss
  pub joined : (j : ℕ) (s : State) → slice_get ss j ≡ Some s → s.first ≡ bits_of (take j ss)
  pub whole : bits_of ss ≡ k

-- the state of the bits from one on to another; it stands for no line
abbrev pub outlined : List (Option Bool) → ℕ → ℕ → State
outlined starts first end = record { word = record { nid = 0; width = end - first }; first = first; has_start = is_known starts first }
