-- What is read so far, as contracts see it.
use Rattle.std.specs.Prelude.{ℕ, Bool, false, List, []}
use Rattle.design_core.specs.Shape.{CellOf, DesignOf}

-- the attributes before an item: whether there is one, and the digits of each `\init` among them, highest first
pub record AttributesOf : Type 0 where
  pub some : Bool
  pub inits : List (List ℕ)

abbrev pub no_attributes : AttributesOf
no_attributes = record { some = false; inits = [] }

-- a module so far: its design, and the names of all its cells, of those that are ignored too
pub record DraftOf : Type 0 where
  pub design : DesignOf
  pub cells : List (List ℕ)

-- a cell so far, the names of its parameters that it doesn't keep, and whether its type is one that is ignored
pub record CellDraftOf : Type 0 where
  pub cell : CellOf
  pub others : List (List ℕ)
  pub ignored : Bool
