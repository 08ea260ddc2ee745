-- What the design line counts.
use Rattle.std.specs.Prelude.{ℕ, Bool, length}
use Rattle.std.specs.List.{sum_by, filter}
use Rattle.design_core.specs.Shape.{CellOf, DesignOf}
use Rattle.design_core.specs.Asked.{output_of}
use Rattle.design_core.specs.Table.{role_of}
use Rattle.design_meaning.specs.Meaning.{asserts, assumes, covers, is_assert, is_assume, is_cover, is_register}
use Rattle.cell_table.specs.declared.kind.Kind.{Kind}
use Rattle.cell_table.specs.declared.kind.Statement.{Statement}
use Rattle.cell_table.specs.declared.kind.Statement.TheVariants.{Assert, Assume, Cover}
use Rattle.sby_lines.specs.declared.counts.Counts.{Counts}

-- the bits that registers hold
abbrev pub register_bits : DesignOf → ℕ
register_bits d = sum_by (λ (c : CellOf). length (output_of c)) (filter (λ (c : CellOf). is_register (role_of c.kind)) d.cells)

-- the cell's type is this statement's
abbrev pub is_statement : Statement → Kind → Bool
is_statement Assert kind = is_assert kind
is_statement Assume kind = is_assume kind
is_statement Cover kind = is_cover kind

-- a design's register bits, assertions, assumptions and cover statements
abbrev pub counts_of : DesignOf → Counts
counts_of d = record { registers = register_bits d; asserts = length (asserts d); assumes = length (assumes d); covers = length (covers d) }
