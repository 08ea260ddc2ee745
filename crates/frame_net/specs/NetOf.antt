-- The net of a model.
use Rattle.std.specs.Prelude.{◌≡◌, ◌↔◌, ℕ, ◌+◌, ◌*◌, ◌<◌, true, false, [], length, map, Some, None, slice_get}
use Rattle.cnf_form.specs.Cnf.{LitOf, Assignment, lit_in}
use Rattle.model_core.specs.Shape.{ModelOf, states}
use Rattle.model_core.specs.Meaning.{Assumed, Broken, Cycle, Reached, next_states}
use Rattle.model_core.specs.Meaning as model
use Rattle.bit_net.specs.Net.{Frame, NetOf, input_var, state_var}
use Rattle.frame_gates.specs.Costs.{frame_vars, next_gates}

-- the states have the bits of the model's state bits, and the inputs those of its inputs
pub record IsAlike (m : ModelOf) (n : NetOf) (c : Cycle) (x : Assignment) : Type 0 where
  pub states : (k p : ℕ) → slice_get (states m) k ≡ Some p → x (state_var k) ≡ c p
  pub inputs : (k p : ℕ) → slice_get m.inputs k ≡ Some p → x (input_var n k) ≡ c p

-- what the net says of a cycle is what the model says of it
pub record SaysTheSame (m : ModelOf) (n : NetOf) (c : Cycle) (x : Assignment) : Type 0 where
  -- what the states take next is what the registers keep
  pub next : map (λ s. lit_in x s.next) n.states ≡ next_states m c
  pub asserted : (l : LitOf) → n.asserted ≡ Some l → (lit_in x l ≡ false) ↔ ((k : ℕ) × Broken m c k)
  pub assumed : (lit_in x n.assumed ≡ true) ↔ Assumed m c
  pub covers : (k : ℕ) (l : LitOf) → slice_get n.covers k ≡ Some l → (lit_in x l ≡ true) ↔ Reached m c k

-- A state for each state bit, with its start digit, and an input for each input, in their order; a literal for the assertions, if there are
-- any, and one for each cover statement. Where a cycle of the net has the states and inputs of one of the model, it says the same.
pub record IsNetOf (m : ModelOf) (n : NetOf) : Type 0 where
  pub starts : map (λ s. s.start) n.states ≡ m.starts
  pub inputs : n.inputs ≡ length m.inputs
  pub asserted : (n.asserted ≡ None) ↔ (m.asserts ≡ [])
  pub covers : length n.covers ≡ length m.covers
  pub says : (c : Cycle) (x : Assignment) → model.Frame m c → Frame n x → IsAlike m n c x → SaysTheSame m n c x

-- the most variables that the net of a model takes
abbrev pub net_cost : ModelOf → ℕ
net_cost m = 1 + length (states m) + frame_vars m + next_gates m + 2 * length m.asserts + 2 * length m.assumes + length m.covers

-- as many cycles of the net have the states and inputs of cycles of the model
abbrev pub AreAlike : ModelOf → NetOf → ℕ → (ℕ → Cycle) → (ℕ → Assignment) → Type 0
AreAlike m n count cs xs = (t : ℕ) → t < count → IsAlike m n (cs t) (xs t)
