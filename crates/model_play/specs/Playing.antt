-- A player of a model: what stands for which choices.
use Rattle.std.specs.Prelude.{◌≡◌, ℕ, suc, false, List, [], length, slice_index_or}
use Rattle.sby_bits.specs.Rows.{Row}
use Rattle.model_core.specs.Shape.{ModelOf}
use Rattle.model_core.specs.Meaning.{Cycle, next_states}
use Rattle.model_core.specs.Choices.{Agree, AreChoicesFor, ChoicesOf, Plays, start_row}
use Rattle.model_play.specs.declared.player.Stage.{Stage}
use Rattle.model_play.specs.declared.player.Stage.TheVariants.{Begun, Stepped}

-- the cycle of a row with a bit for each place
abbrev pub cycle_of : Row → Cycle
cycle_of row p = slice_index_or row p false

-- the cycles of such rows, one after the other
abbrev pub cycles_of : List Row → ℕ → Cycle
cycles_of rows t = cycle_of (slice_index_or rows t [])

-- a player: its model, how far it has come, the last cycle's row, and what the state bits have in the cycle to come
pub record PlayerOf : Type 0 where
  pub model : ModelOf
  pub stage : Stage
  pub row : Row
  pub held : Row

-- it stands for these choices: at the start of their runs, or at their last cycle
pub record IsPlaying (p : PlayerOf) (c : ChoicesOf) : Type 0 where
  pub fits : AreChoicesFor p.model c
  pub begun : c.inputs ≡ [] → (p.stage ≡ Begun) × (p.held ≡ start_row p.model.starts c.starts)
  pub stepped : (t : ℕ) → suc t ≡ length c.inputs → (p.stage ≡ Stepped) × (p.held ≡ next_states p.model (cycle_of p.row))
      × ((cs : ℕ → Cycle) × Plays p.model c cs × Agree p.model (cs t) (cycle_of p.row))

-- the row of a player is the last cycle of the runs with these choices, of which there is one
pub record IsLast (m : ModelOf) (c : ChoicesOf) (row : Row) : Type 0 where
  pub some : (cs : ℕ → Cycle) × Plays m c cs
  pub each : (cs : ℕ → Cycle) → Plays m c cs → (t : ℕ) → suc t ≡ length c.inputs → Agree m (cs t) (cycle_of row)
