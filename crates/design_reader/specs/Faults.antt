-- Where and why a text is refused.
use Rattle.std.specs.Prelude.{◌≡◌, ℕ, ◌<◌, ◌≤◌, ◌^◌, true, false, List, [], ◌∷◌, ◌++◌, length, Option, Some, None, Ok, Err}
use Rattle.rtlil_lex.specs.Tokens.{TokenOf, IsTokens, Begins, Breaks}
use Rattle.design_reader.specs.Parts.{DraftOf}
use Rattle.design_reader.specs.Grammar.{reading, step}
use Rattle.design_reader.specs.declared.fault.ReadFaultKind.{ReadFaultKind}
use Rattle.design_reader.specs.declared.fault.ReadFaultKind.TheVariants.{Limit, Syntax, NoModule}
use Rattle.design_reader.specs.declared.spot.Spot.{Spot}
use Rattle.design_reader.specs.declared.spot.Spot.TheVariants.{File, AutoIdx, FileAttribute, FileValue, Module, Line, Attribute, Value, ModuleParameter, ModuleParameterValue, WireOption, WireNumber, CellType, CellName, CellLine, CellParameter, CellParameterName, CellParameterValue, Port, Signal, Part}

-- why a text that ends at this spot is refused, unless a line of the file may come there after the module
abbrev pub at_end : Spot → Option ReadFaultKind
at_end (File false) = Some NoModule
at_end (File true) = None
at_end (AutoIdx false) = Some NoModule
at_end (FileAttribute false) = Some NoModule
at_end (FileValue false) = Some NoModule
at_end (AutoIdx true) = Some Syntax
at_end (FileAttribute true) = Some Syntax
at_end (FileValue true) = Some Syntax
at_end Module = Some Syntax
at_end (Line a) = Some Syntax
at_end (Attribute a) = Some Syntax
at_end (Value a is_init) = Some Syntax
at_end ModuleParameter = Some Syntax
at_end ModuleParameterValue = Some Syntax
at_end (WireOption a o) = Some Syntax
at_end (WireNumber a o option) = Some Syntax
at_end CellType = Some Syntax
at_end (CellName kind ignored) = Some Syntax
at_end (CellLine c) = Some Syntax
at_end (CellParameter c) = Some Syntax
at_end (CellParameterName c) = Some Syntax
at_end (CellParameterValue c label) = Some Syntax
at_end (Port c) = Some Syntax
at_end (Signal t rows) = Some Syntax
at_end (Part t rows) = Some Syntax

-- The text is refused at this byte, by this kind: it is too long; its words so far are read, and the word that starts at
-- this byte isn't; at this byte there is no token; or the text ends where no text may end.
pub data IsReadFault (text : List ℕ) (byte : ℕ) (kind : ReadFaultKind) : Type 0 where
  too_long : 2 ^ 26 < length text → byte ≡ 2 ^ 26 → kind ≡ Limit → IsReadFault text byte kind
  word : (ts : List TokenOf) (t : TokenOf) (d : DraftOf) (s : Spot) → length text ≤ 2 ^ 26 → Begins text (ts ++ t ∷ []) → t.start ≡ byte → reading ts ≡ Ok (d, s) → step d s t.text ≡ Err kind
      → IsReadFault text byte kind
  no_token : (ts : List TokenOf) (d : DraftOf) (s : Spot) → length text ≤ 2 ^ 26 → Breaks text ts byte → reading ts ≡ Ok (d, s) → kind ≡ Syntax → IsReadFault text byte kind
  ended : (ts : List TokenOf) (d : DraftOf) (s : Spot) → length text ≤ 2 ^ 26 → IsTokens text ts → reading ts ≡ Ok (d, s) → at_end s ≡ Some kind → byte ≡ length text → IsReadFault text byte kind
