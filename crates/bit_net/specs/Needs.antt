-- A part of a net's windows: in each cycle the variables that are needed there.
use Rattle.std.specs.Prelude.{◌≡◌, ℕ, suc, ◌<◌, ◌≤◌, Bool, true, false, Some, slice_get, Contains}
use Rattle.cnf_form.specs.Cnf.{LitOf, Assignment, lit_in}
use Rattle.gate_graph.specs.declared.gate.Gate.{Gate}
use Rattle.gate_graph.specs.Folding.{bit, operands}
use Rattle.bit_net.specs.Net.{NetOf, Window, gate_var, input_var, state_var, vars}
use Rattle.bit_net.specs.declared.node.State.{State}

-- With a gate its operands are needed, and with a state, in the cycle before, what it takes. Nothing else is asked: more may be needed.
pub record IsNeed (n : NetOf) (count : ℕ) (need : ℕ → ℕ → Bool) : Type 0 where
  pub gates : (t k : ℕ) (g : Gate) (o : LitOf) → t < count → slice_get n.gates k ≡ Some g → need t (gate_var n k) ≡ true → Contains (operands g) o → need t o.var ≡ true
  pub states : (t k : ℕ) (s : State) → suc t < count → slice_get n.states k ≡ Some s → need (suc t) (state_var k) ≡ true → need t s.next.var ≡ true

-- what is needed has its value
pub record PartWindow (n : NetOf) (count : ℕ) (need : ℕ → ℕ → Bool) (xs : ℕ → Assignment) : Type 0 where
  pub truth : (t : ℕ) → t < count → xs t 1 ≡ true
  pub gates : (t k : ℕ) (g : Gate) → t < count → slice_get n.gates k ≡ Some g → need t (gate_var n k) ≡ true → xs t (gate_var n k) ≡ bit g (xs t)
  pub follows : (t k : ℕ) (s : State) → suc t < count → slice_get n.states k ≡ Some s → need (suc t) (state_var k) ≡ true → xs (suc t) (state_var k) ≡ lit_in (xs t) s.next

pub record PartRun (n : NetOf) (count : ℕ) (need : ℕ → ℕ → Bool) (xs : ℕ → Assignment) : Type 0 where
  pub window : PartWindow n count need xs
  pub starts : 0 < count → (k : ℕ) (s : State) (b : Bool) → slice_get n.states k ≡ Some s → s.start ≡ Some b → need 0 (state_var k) ≡ true → xs 0 (state_var k) ≡ b

-- ys is a window of the net, which has the values of xs where they are needed, and else, where a value is open, that of rest
pub record Extends (n : NetOf) (count : ℕ) (need : ℕ → ℕ → Bool) (rest xs ys : ℕ → Assignment) : Type 0 where
  pub window : Window n count ys
  pub needed : (t v : ℕ) → t < count → 0 < v → v ≤ vars n → need t v ≡ true → ys t v ≡ xs t v
  pub states : (k : ℕ) (s : State) → slice_get n.states k ≡ Some s → need 0 (state_var k) ≡ false → ys 0 (state_var k) ≡ rest 0 (state_var k)
  pub inputs : (t k : ℕ) → k < n.inputs → need t (input_var n k) ≡ false → ys t (input_var n k) ≡ rest t (input_var n k)
