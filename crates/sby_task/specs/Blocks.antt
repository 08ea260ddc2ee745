-- Lines and the blocks in which they stand.
use Rattle.std.specs.Prelude.{◌≡◌, ◌⊎◌, ℕ, Bool, true, List, ◌∷◌, ◌++◌, Contains}
use Rattle.sby_file.specs.Prefix.{is_block_end, opens_block}
use Rattle.sby_task.specs.Scope.{holds}
use Rattle.sby_file.specs.declared.config.Row.{Row}

-- a line that opens a block, or a line `--`
abbrev pub IsBlockLine : Row → Type 0
IsBlockLine row = (is_block_end row.words ≡ true) ⊎ (opens_block row.words ≡ true)

abbrev pub HaveNone : List Row → Type 0
HaveNone rows = (row : Row) → Contains rows row → IsBlockLine row → ⊥

-- of these lines none is a block line, or the last one that is so is `--` or holds
abbrev pub LeaveOpen : (List ℕ → Bool) → List Row → Type 0
LeaveOpen is_here rows =
    HaveNone rows
    ⊎ ((before : List Row) × (row : Row) × (after : List Row) × (rows ≡ before ++ row ∷ after) × HaveNone after
    × ((is_block_end row.words ≡ true) ⊎ ((opens_block row.words ≡ true) × (holds is_here row.words ≡ true))))

-- a line after these is kept: it is no block line, its prefix holds, and so does its block
pub record IsKept (is_here : List ℕ → Bool) (before : List Row) (row : Row) : Type 0 where
  pub plain : IsBlockLine row → ⊥
  pub prefix : holds is_here row.words ≡ true
  pub block : LeaveOpen is_here before
