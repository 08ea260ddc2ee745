-- The code's state as contracts see it, and what holds of it at each spot.
use Rattle.std.specs.Prelude.{◌≡◌, ◌+◌, ◌<◌, ◌≤◌, true, false, List, length, All, Option, Some, None, Result, Ok, Err, unwrap_or}
use Rattle.std.specs.List.{list_any}
use Rattle.design_core.specs.Shape.{IsDeclared, IsCellOf}
use Rattle.design_signals.specs.declared.sig_bit.SigBit.{SigBit}
use Rattle.design_reader.specs.Parts.{CellDraftOf, DraftOf}
use Rattle.design_reader.specs.Grammar.{bits, most_bits, wire_names}
use Rattle.design_core.specs.Ports.{is_parameter, is_port, names_parameter}
use Rattle.design_core.specs.declared.names.ParameterName.{ParameterName}
use Rattle.design_core.specs.declared.names.PortName.{PortName}
use Rattle.design_reader.specs.declared.draft.Draft.{Draft}
use Rattle.design_reader.specs.declared.fault.ReadFaultKind.{ReadFaultKind}
use Rattle.design_reader.specs.declared.stop.Stop.{Stop}
use Rattle.design_reader.specs.declared.stop.Stop.TheVariants.{Memory, Fault}
use Rattle.design_reader.specs.declared.spot.WireOptions.{WireOptions}
use Rattle.design_reader.specs.declared.spot.Target.{Target}
use Rattle.design_reader.specs.declared.spot.Target.TheVariants.{Port as ToPort, Left, Right}
use Rattle.design_reader.specs.declared.spot.Spot.{Spot}
use Rattle.design_reader.specs.declared.spot.Spot.TheVariants.{File, AutoIdx, FileAttribute, FileValue, Module, Line, Attribute, Value, ModuleParameter, ModuleParameterValue, WireOption, WireNumber, CellType, CellName, CellLine, CellParameter, CellParameterName, CellParameterValue, Port, Signal, Part}

-- What a function returned, seen by view, is what the grammar gives, unless memory ran out.
abbrev pub Stops : {Y : Type 0} → Stop → Result Y ReadFaultKind → Type 0
Stops Memory read = Unit {0}
Stops (Fault kind) read = read ≡ Err kind

abbrev pub Gives : {X Y : Type 0} → (X → Y) → Result X Stop → Result Y ReadFaultKind → Type 0
Gives view (Ok x) read = read ≡ Ok (view x)
Gives view (Err e) read = Stops e read

abbrev pub draft_of : Draft → DraftOf
draft_of a = record { design = a.design; cells = a.cells }

-- the index has the names of the wires
abbrev pub IsIndexed : Draft → Type 0
IsIndexed a = a.wires ≡ wire_names a.design.wires

-- ---- what holds at each spot

abbrev pub AreDeclared : DraftOf → List SigBit → Type 0
AreDeclared d row = All (IsDeclared d.design.wires d.design.free) row

-- there is room for the wire
abbrev pub HasRoom : DraftOf → WireOptions → Type 0
HasRoom d o = (0 < unwrap_or o.width 1) × (bits d + unwrap_or o.width 1 ≤ most_bits)

abbrev pub FitsCell : DraftOf → CellDraftOf → Type 0
FitsCell d c = IsCellOf d.design.wires d.design.free c.cell

-- a parameter that is read next can be added
abbrev pub FitsParameter : CellDraftOf → Option ParameterName → Type 0
FitsParameter c None = Unit {0}
FitsParameter c (Some p) = (names_parameter c.cell.kind p ≡ true) × (list_any (λ x. is_parameter x.name p) c.cell.parameters ≡ false)

-- and a port
abbrev pub FitsPort : CellDraftOf → Option PortName → Type 0
FitsPort c None = Unit {0}
FitsPort c (Some p) = list_any (λ x. is_port x.name p) c.cell.ports ≡ false

abbrev pub FitsTarget : DraftOf → Target → Type 0
FitsTarget d (ToPort c label) = FitsCell d c × FitsPort c label
FitsTarget d Left = Unit {0}
FitsTarget d (Right left) = AreDeclared d left

abbrev pub FitsRows : DraftOf → List (List SigBit) → Type 0
FitsRows d rows = All (AreDeclared d) rows

abbrev pub Fits : DraftOf → Spot → Type 0
Fits d (WireOption a o) = HasRoom d o
Fits d (WireNumber a o option) = HasRoom d o
Fits d (CellLine c) = FitsCell d c
Fits d (CellParameter c) = FitsCell d c
Fits d (CellParameterName c) = FitsCell d c
Fits d (CellParameterValue c label) = FitsCell d c × FitsParameter c label
Fits d (Port c) = FitsCell d c
Fits d (Signal t rows) = FitsTarget d t × FitsRows d rows
Fits d (Part t rows) = FitsTarget d t × FitsRows d rows × (0 < length rows)
Fits d (File behind) = Unit {0}
Fits d (AutoIdx behind) = Unit {0}
Fits d (FileAttribute behind) = Unit {0}
Fits d (FileValue behind) = Unit {0}
Fits d Module = Unit {0}
Fits d (Line a) = Unit {0}
Fits d (Attribute a) = Unit {0}
Fits d (Value a is_init) = Unit {0}
Fits d ModuleParameter = Unit {0}
Fits d ModuleParameterValue = Unit {0}
Fits d CellType = Unit {0}
Fits d (CellName kind ignored) = Unit {0}
