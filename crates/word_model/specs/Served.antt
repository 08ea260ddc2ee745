-- What a cell of a flat design has, as far as making its node or register needs it.
use Rattle.std.specs.Prelude.{◌≡◌, ℕ, ◌≤◌, true, List, length, Some}
use Rattle.design_core.specs.Asked.{number_at}
use Rattle.design_core.specs.Digits.{is_number}
use Rattle.design_core.specs.Ports.{digits_at, signal_at}
use Rattle.design_core.specs.Shape.{CellOf, DesignOf, IsCellOf}
use Rattle.design_core.specs.Table.{form_of}
use Rattle.design_core.specs.declared.digit.Digit.{Digit}
use Rattle.design_core.specs.declared.names.ParameterName.{ParameterName}
use Rattle.design_core.specs.declared.names.ParameterName.TheVariants.{Offset}
use Rattle.design_core.specs.declared.names.PortName.{PortName}
use Rattle.design_core.specs.declared.table.ParameterForm.TheVariants.{Flag}

-- a parameter, if it is there, has no digit but 0 and 1
abbrev pub IsPlain : CellOf → ParameterName → Type 0
IsPlain c name = (digits : List Digit) → digits_at c.parameters name ≡ Some digits → is_number digits ≡ true

pub record IsServed (d : DesignOf) (c : CellOf) : Type 0 where
  pub cell : IsCellOf d.wires d.free c
  pub few : (name : PortName) → length (signal_at c.ports name) ≤ 4096
  pub flags : (name : ParameterName) → form_of name ≡ Flag → IsPlain c name
  pub offset_plain : IsPlain c Offset
  pub offset_few : number_at c.parameters Offset ≤ 4096
