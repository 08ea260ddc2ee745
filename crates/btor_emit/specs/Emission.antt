-- A model of BTOR2 that has the runs of a model.
use Rattle.std.specs.Prelude.{◌≡◌, ◌↔◌, ℕ, ◌+◌, ◌*◌, ◌<◌, ◌≤◌, List, ◌++◌, length}
use Rattle.std.specs.List.{concat, flat_map}
use Rattle.sby_bits.specs.Rows.{Row}
use Rattle.btor_core.specs.Shape.{BtorOf, bads, constraints, open_words}
use Rattle.btor_core.specs.Meaning.{BtorRun, IsBad, IsMet, Values}
use Rattle.btor_core.specs.Fits.{IsBtor}
use Rattle.model_core.specs.Meaning.{Assumed, Cycle, Run, row_at}
use Rattle.model_core.specs.Shape.{ModelOf, reads, states}
use Rattle.btor_emit.specs.Goals.{IsGoal, goals}
use Rattle.btor_emit.specs.States.{IsShape}
use Rattle.btor_emit.specs.declared.goal.Goal.{Goal}
use Rattle.btor_emit.specs.declared.shape.State.{State}

-- what the states and the inputs have in a cycle, in file order
abbrev pub open_row : BtorOf → Values → Row
open_row e vs = flat_map (λ a. vs a.nid) (open_words e.lines)

-- one cycle: the states and inputs of the lines are the state bits and then these input bits of the model, constraints hold where the
-- assumptions do, and bad is what is asked
pub record IsSame (m : ModelOf) (g : Goal) (e : BtorOf) (inputs : List ℕ) (vs : Values) (c : Cycle) : Type 0 where
  pub bits : open_row e vs ≡ row_at c (states m ++ inputs)
  pub assumed : IsMet e vs ↔ Assumed m c
  pub bad : (k : ℕ) → IsBad e vs k ↔ IsGoal m g c k

-- how many lines an emission has at most
abbrev pub lines_at_most : ModelOf → Goal → ℕ
lines_at_most m g = 40 * length (states m) + 2 * length m.inputs + (12 * length (flat_map reads m.nodes) + 20 * length m.nodes) + 13 * (length m.assumes + length (goals m g))

-- each run of the lines is one of the model, and each run of the model is one of the lines
pub record IsEmission (m : ModelOf) (rows : List (List ℕ)) (g : Goal) (e : BtorOf) (ss : List State) (read : List (List ℕ)) : Type 0 where
  pub btor : IsBtor e
  pub shape : IsShape m rows e ss read
  pub from : (n : ℕ) (vss : ℕ → Values) → BtorRun e n vss → (cs : ℕ → Cycle) × Run m n cs × ((t : ℕ) → t < n → IsSame m g e (concat read) (vss t) (cs t))
  pub to : (n : ℕ) (cs : ℕ → Cycle) → Run m n cs → (vss : ℕ → Values) × BtorRun e n vss × ((t : ℕ) → t < n → IsSame m g e (concat read) (vss t) (cs t))
  pub constraints : length (constraints e.lines) ≡ length m.assumes
  pub bads : length (bads e.lines) ≡ length (goals m g)
  pub few : length e.lines ≤ lines_at_most m g
