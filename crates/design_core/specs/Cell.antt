-- A cell's fields as a cell.
use Rattle.std.specs.Prelude.{map, string_bytes, IsTrue}
use Rattle.std.specs.List.{list_all}
use Rattle.design_core.specs.Ports.{are_distinct, names_parameter, port_number, parameter_number}
use Rattle.design_core.specs.Shape.{CellOf}
use Rattle.design_core.specs.declared.cell.Cell.TheInside.{Inside}

abbrev pub cell_of : Inside → CellOf
cell_of a = record { kind = a.kind; name = string_bytes a.name; parameters = a.parameters.items; ports = a.ports.items; foreign = map string_bytes a.foreign.items }

-- no port and no parameter stands twice, and the table names each parameter for the type
pub record IsCellInside (a : Inside) : Type 0 where
  pub ports : IsTrue (are_distinct (λ p. port_number p.name) a.ports.items)
  pub parameters : IsTrue (are_distinct (λ p. parameter_number p.name) a.parameters.items)
  pub named : IsTrue (list_all (λ p. names_parameter a.kind p.name) a.parameters.items)
