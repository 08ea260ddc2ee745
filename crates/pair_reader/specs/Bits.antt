-- State bits whose literals are of a formula's variables.
use Rattle.std.specs.Prelude.{◌≡◌, ℕ, List, Option, Some, None, slice_index_or}
use Rattle.cnf_form.specs.Cnf.{LitWithin}
use Rattle.pair_form.specs.declared.pair.BitLits.{BitLits}

-- a bit's literals are of variables from 1 to this one
pub record IsBit (vars : ℕ) (b : BitLits) : Type 0 where
  pub first : LitWithin vars b.first
  pub second : LitWithin vars b.second

-- and those of each bit that has some are
pub record AreBits (vars : ℕ) (bits : List (Option BitLits)) : Type 0 where
  pub each : (n : ℕ) (b : BitLits) → slice_index_or bits n None ≡ Some b → IsBit vars b
