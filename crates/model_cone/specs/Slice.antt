-- The slice of a model: over the same places, what is outside the cone is given 0.
use Rattle.std.specs.Prelude.{◌≡◌, ℕ, Bool, cond, not, ◌||◌, false, List, [], ◌∷◌, ◌++◌, map, length, replicate, slice_index_or}
use Rattle.std.specs.List.{filter}
use Rattle.model_core.specs.Shape.{ModelOf, NodeOf, RegisterOf, states}
use Rattle.model_core.specs.declared.op.Op.TheVariants as op
use Rattle.model_cone.specs.declared.asked.Asked.{Asked}
use Rattle.model_cone.specs.Cone.{IsCone}

-- whether a place is marked; none is past the marks' end
abbrev pub kept_by : List Bool → ℕ → Bool
kept_by marks p = slice_index_or marks p false

-- some of these places is kept
abbrev pub has_kept : (ℕ → Bool) → List ℕ → Bool
has_kept keep [] = false
has_kept keep (p ∷ ps) = keep p || has_kept keep ps

-- a node that gives 0 to each of these places
abbrev pub zeroes : ℕ → List ℕ → NodeOf
zeroes constant ps = record { op = op.Copy; a = replicate (length ps) constant; b = []; s = []; y = ps }

abbrev pub sliced_node : (ℕ → Bool) → ℕ → NodeOf → NodeOf
sliced_node keep constant n = cond (has_kept keep n.y) n (zeroes constant n.y)

-- of an element for each place those whose places are kept
abbrev pub kept_at : {A : Type 0} → (ℕ → Bool) → List ℕ → List A → List A
kept_at keep [] xs = []
kept_at keep (p ∷ ps) [] = []
kept_at keep (p ∷ ps) (x ∷ xs) = cond (keep p) (x ∷ kept_at keep ps xs) (kept_at keep ps xs)

-- a register of those bits alone that are kept
abbrev pub narrowed : (ℕ → Bool) → RegisterOf → RegisterOf
narrowed keep r = record r { q = filter keep r.q; d = kept_at keep r.q r.d; value = kept_at keep r.q r.value }

-- the registers of which a bit is kept, without the bits that aren't
abbrev pub kept_registers : (ℕ → Bool) → List RegisterOf → List RegisterOf
kept_registers keep registers = map (narrowed keep) (filter (λ r. has_kept keep r.q) registers)

-- A node with an output that is kept stays as it is, and so do the inputs that are kept; of a register the bits stay that are kept, with
-- what they take, reset to and start with, under the same controls. Each other node, state bit and input becomes a node that gives 0.
abbrev pub sliced : (ℕ → Bool) → ModelOf → ModelOf
sliced keep m = record {
  size = m.size;
  zero = m.zero;
  nodes = map (sliced_node keep m.zero) m.nodes ++ map (λ p. zeroes m.zero (p ∷ [])) (filter (λ p. not (keep p)) (states m ++ m.inputs));
  registers = kept_registers keep m.registers;
  starts = kept_at keep (states m) m.starts;
  inputs = filter keep m.inputs;
  asserts = m.asserts;
  assumes = m.assumes;
  covers = m.covers;
}

-- s is the slice of m to the cone of what is asked
pub record IsSliceOf (m : ModelOf) (asked : Asked) (s : ModelOf) : Type 0 where
  pub keep : ℕ → Bool
  pub cone : IsCone m asked keep
  pub is : s ≡ sliced keep m
