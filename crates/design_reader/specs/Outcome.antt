-- What reading a text answers.
use Rattle.std.specs.Prelude.{ℕ, List, Option, Some, None, Result, Ok, Err}
use Rattle.design_core.specs.Shape.{DesignOf}
use Rattle.design_reader.specs.Grammar.{Reads}
use Rattle.design_reader.specs.Faults.{IsReadFault}
use Rattle.design_reader.specs.declared.fault.ReadFault.{ReadFault}
use Rattle.design_reader.specs.declared.fault.ReadFaultKind.{ReadFaultKind}

-- the design, or the refusal at the end of a text of this length
abbrev pub ending : DesignOf → ℕ → Option ReadFaultKind → Result DesignOf ReadFault
ending d len None = Ok d
ending d len (Some kind) = Err (record { byte = len; kind = kind })

-- the design that the text reads, or why it is refused
abbrev pub Answers : List ℕ → Result DesignOf ReadFault → Type 0
Answers text (Ok d) = Reads text d
Answers text (Err f) = IsReadFault text f.byte f.kind
