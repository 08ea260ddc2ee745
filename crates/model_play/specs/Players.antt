-- What a player keeps.
use Rattle.std.specs.Prelude.{◌≡◌, suc, ◌≤◌, true, false, length}
use Rattle.sby_bits.specs.Rows.{Row}
use Rattle.model_core.specs.Shape.{ModelOf, states}
use Rattle.model_core.specs.Served.{IsModel}
use Rattle.model_play.specs.Playing.{cycle_of}

-- a bit for each place, and the constants have theirs
pub record IsTable (m : ModelOf) (row : Row) : Type 0 where
  pub size : length row ≡ m.size
  pub zero : cycle_of row m.zero ≡ false
  pub one : cycle_of row (suc m.zero) ≡ true

-- room for four rows of a node
abbrev pub HasRoom : Row → Type 0
HasRoom scratch = 16384 ≤ length scratch

-- the table, what the state bits have in the cycle to come, and room for a node's rows
pub record IsPlayer (m : ModelOf) (row next scratch : Row) : Type 0 where
  pub model : IsModel m
  pub table : IsTable m row
  pub held : length next ≡ length (states m)
  pub room : HasRoom scratch
