-- The bits of `$anyseq` cells, by places.
use Rattle.std.specs.Prelude.{ℕ, List, [], ◌∷◌}
use Rattle.std.specs.List.{flat_map}
use Rattle.design_core.specs.Asked.{output_of}
use Rattle.design_core.specs.Shape.{CellOf, DesignOf}
use Rattle.design_core.specs.Table.{role_of}
use Rattle.design_core.specs.declared.table.Role.{Role}
use Rattle.design_core.specs.declared.table.Role.TheVariants.{Combinational, Register, AsyncResetRegister, Constant, Initial, Source, Statement, Unsupported}
use Rattle.word_model.specs.Layout.{signal_places}

-- an `$anyseq` has a row, and no other cell has one
abbrev pub row_of_role : Role → List ℕ → List (List ℕ)
row_of_role Combinational output = []
row_of_role Register output = []
row_of_role AsyncResetRegister output = []
row_of_role Constant output = []
row_of_role Initial output = []
row_of_role Source output = output ∷ []
row_of_role Statement output = []
row_of_role Unsupported output = []

-- the places of what the cell gives, if it is an `$anyseq`
abbrev pub source_row : DesignOf → CellOf → List (List ℕ)
source_row d c = row_of_role (role_of c.kind) (signal_places d (output_of c))

-- those of all `$anyseq`, in file order
abbrev pub source_rows : DesignOf → List (List ℕ)
source_rows d = flat_map (source_row d) d.cells
