-- A design's model: the design's parts by their places, and its meaning both ways, cycle by cycle.
use Rattle.std.specs.Prelude.{◌≡◌, ◌↔◌, ℕ, ◌+◌, length, map}
use Rattle.std.specs.List.{enumerate_from}
use Rattle.design_core.specs.Places.{place_of, places}
use Rattle.design_core.specs.Shape.{DesignOf, wire_bits}
use Rattle.design_meaning.specs.Meaning.{Frame as FrameOf, Follows as FollowsOf, Starts as StartsOf, Assumed as AssumedOf, Broken as BrokenOf, Reached as ReachedOf, asserts, assumes, covers}
use Rattle.design_meaning.specs.Runs.{kept_bits}
use Rattle.design_meaning.specs.States.{input_bits, state_bits}
use Rattle.model_core.specs.Meaning.{Cycle, Frame, Follows, Starts, Assumed, Broken, Reached}
use Rattle.model_core.specs.Shape.{ModelOf, states}
use Rattle.word_model.specs.Layout.{HasConstants, state_place, valued}
use Rattle.word_model.specs.Registers.{AreStarts}

-- Places: the wires' bits in file order, lowest first, the free bits by their numbers, the constants 0 and 1, and the stored rows.
pub record IsModelOf (d : DesignOf) (m : ModelOf) : Type 0 where
  pub size : m.size ≡ places d + kept_bits d
  pub zero : m.zero ≡ wire_bits d + d.free
  pub states : states m ≡ map (state_place d) (state_bits d)
  pub starts : AreStarts d (enumerate_from 0 d.cells) m.starts
  pub inputs : m.inputs ≡ map (place_of d) (input_bits d)
  pub asserts : length m.asserts ≡ length (asserts d)
  pub assumes : length m.assumes ≡ length (assumes d)
  pub covers : length m.covers ≡ length (covers d)
  pub frame : (c : Cycle) → HasConstants m c → Frame m c ↔ FrameOf d (valued d c)
  pub follows : (c e : Cycle) → HasConstants m c → HasConstants m e → Follows m c e ↔ FollowsOf d (valued d c) (valued d e)
  pub begins : (c : Cycle) → HasConstants m c → Starts m c ↔ StartsOf d (valued d c)
  pub assumed : (c : Cycle) → HasConstants m c → Assumed m c ↔ AssumedOf d (valued d c)
  pub broken : (c : Cycle) → HasConstants m c → (a : ℕ) → Broken m c a ↔ BrokenOf d (valued d c) a
  pub reached : (c : Cycle) → HasConstants m c → (k : ℕ) → Reached m c k ↔ ReachedOf d (valued d c) k
