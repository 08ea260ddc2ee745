-- How the choices that an assignment tells are read: bits in tables.
use Rattle.std.specs.Prelude.{◌≡◌, ℕ, zero, suc, ◌+◌, ◌*◌, ◌<◌, Bool, false, cond, List, [], ◌∷◌, length, slice_index_or}
use Rattle.cnf_form.specs.Cnf.{Assignment, LitOf, lit_in}
use Rattle.bit_net.specs.Net.{state_var}
use Rattle.net_unroll.specs.Promises.{told_by}
use Rattle.net_unroll.specs.declared.encoded.Free.{Free}

-- how many literals there are up to the first that is true
abbrev pub goals_until : Assignment → List LitOf → ℕ
goals_until x [] = 0
goals_until x (l ∷ ls) = suc (cond (lit_in x l) 0 (goals_until x ls))

-- how many cycles there are up to the first that ends, of which `early` come before the first goal; each of these has the literal that is false
abbrev pub cycles_until : Assignment → ℕ → List LitOf → ℕ
cycles_until x zero goals = goals_until x goals
cycles_until x (suc early) goals = cond (x 1) (suc early + goals_until x goals) 1

-- a bit for each state
pub record TellStates (x : Assignment) (free : List Free) (bits : List Bool) : Type 0 where
  pub each : (k : ℕ) → k < length bits → slice_index_or bits k false ≡ told_by x free 0 (state_var k)

-- a row of bits for each cycle, of inputs whose first variable is this one
pub record TellInputs (x : Assignment) (first width count : ℕ) (free : List Free) (bits : List Bool) : Type 0 where
  pub each : (t k : ℕ) → t < count → k < width → slice_index_or bits (t * width + k) false ≡ told_by x free t (first + k)
