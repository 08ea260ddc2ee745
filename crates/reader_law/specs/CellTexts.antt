-- Texts of a cell, with its lines in any order. Not among them: cells that are ignored and have an x, z or - in a signal.
use Rattle.std.specs.Prelude.{◌≡◌, ◌≢◌, ◌⊎◌, ℕ, Bool, true, false, IsTrue, List, [], ◌∷◌, ◌++◌, reverse, slice_index, codes, bytes_eq}
use Rattle.std.specs.List.{AllZip, IsDistinct}
use Rattle.cell_table.specs.declared.kind.Kind.{Kind}
use Rattle.cell_table.specs.declared.kind.Kind.TheVariants.{ShiftLeft, ShiftAny, LeftOut, Unknown}
use Rattle.cell_table.specs.declared.kind.LeftOut.TheVariants as leftout
use Rattle.design_core.specs.Names.{parameter_text, port_text}
use Rattle.design_core.specs.Ports.{are_distinct, names_parameter, parameter_number, port_number}
use Rattle.design_core.specs.Shape.{WireOf, CellOf}
use Rattle.design_core.specs.declared.digit.Digit.{Digit}
use Rattle.design_core.specs.declared.digit.Digit.TheVariants.{Const as ConstDigit, Free as FreeDigit, Marker}
use Rattle.design_core.specs.declared.names.ParameterName.{ParameterName}
use Rattle.design_core.specs.declared.parts.Parameter.{Parameter}
use Rattle.design_core.specs.declared.parts.Port.{Port}
use Rattle.design_signals.specs.declared.sig_bit.SigBit.{SigBit}
use Rattle.rtlil_lex.specs.Tokens.{begins_name, is_backslash}
use Rattle.rtlil_constant.specs.Constants.{Word}
use Rattle.reader_law.specs.Printed.{Line, IsForeign, IsIdentifier, digit_numbers, identifier, is_value, kind_text}
use Rattle.reader_law.specs.ConstantTexts.{State, IsConstantText}
use Rattle.reader_law.specs.ConstantTexts.State.{Zero, One, Undefined, HighImpedance, DontCare, Marked}
use Rattle.reader_law.specs.SignalTexts.{IsSignalText}

-- a type that is told by its name: the printed one, another that the table reads as it, a memory or a gate
pub data IsNamedType : Word → Kind → Type 0 where
  printed : (kind : Kind) → IsNamedType (kind_text kind) kind
  left_shift : IsNamedType (codes "$sshl") ShiftLeft
  any_shift : IsNamedType (codes "$shiftx") ShiftAny
  memory : (w : Word) → IsNamedType (codes "$mem" ++ w) (LeftOut leftout.Memory)
  gate : (w : Word) → IsNamedType (codes "$_" ++ (w ++ codes "_")) (LeftOut leftout.Gate)

-- a type of this kind: such a one, or any other but for those whose cells are ignored
pub data IsTypeText : Word → Kind → Type 0 where
  named : (w : Word) (kind : Kind) → IsNamedType w kind → IsTypeText w kind
  other : (w : Word) → ((kind : Kind) → IsNamedType w kind → ⊥) → w ≢ codes "$scopeinfo" → w ≢ codes "$print" → IsTypeText w Unknown

-- a word before a parameter's name, which changes nothing
pub data IsForm : Line → Type 0 where
  no_form : IsForm []
  signed : IsForm (codes "signed" ∷ [])
  real : IsForm (codes "real" ∷ [])

-- the digit of a constant's state in a parameter that is a value: x, z and - are free bits
abbrev pub IsValueDigit : State → Digit → Type 0
IsValueDigit Zero digit = digit ≡ ConstDigit false
IsValueDigit One digit = digit ≡ ConstDigit true
IsValueDigit Undefined digit = (n : ℕ) × (digit ≡ FreeDigit n)
IsValueDigit HighImpedance digit = (n : ℕ) × (digit ≡ FreeDigit n)
IsValueDigit DontCare digit = (n : ℕ) × (digit ≡ FreeDigit n)
IsValueDigit Marked digit = digit ≡ Marker

-- and in a flag, a number or a width, where they have no value
abbrev pub IsPlainDigit : State → Digit → Type 0
IsPlainDigit Zero digit = digit ≡ ConstDigit false
IsPlainDigit One digit = digit ≡ ConstDigit true
IsPlainDigit Undefined digit = digit ≡ Marker
IsPlainDigit HighImpedance digit = digit ≡ Marker
IsPlainDigit DontCare digit = digit ≡ Marker
IsPlainDigit Marked digit = digit ≡ Marker

-- the digit of a state, in a value where the Bool is true
abbrev pub IsDigitOf : Bool → State → Digit → Type 0
IsDigitOf true = IsValueDigit
IsDigitOf false = IsPlainDigit

-- a name that an identifier leaves, and that no parameter has which the table names for the type
pub record IsOtherParameter (kind : Kind) (name : Word) : Type 0 where
  pub word : IsIdentifier (identifier name)
  pub shape : IsTrue (is_backslash (slice_index name 0)) → IsTrue (begins_name (slice_index name 1))
  pub other : (p : ParameterName) → IsTrue (names_parameter kind p) → parameter_text p ≢ name

-- what a cell's lines say: its parameters, ports and further ports, the names of parameters that the cell doesn't keep, and the
-- numbers of free bits, in file order
pub record CellBodyOf : Type 0 where
  pub parameters : List Parameter
  pub ports : List Port
  pub foreign : List Word
  pub others : List Word
  pub numbers : List ℕ

-- the lines, each before those that follow it
pub data IsCellBody (wires : List WireOf) (kind : Kind) : Line → CellBodyOf → Type 0 where
  no_lines : IsCellBody wires kind [] (record { parameters = []; ports = []; foreign = []; others = []; numbers = [] })
  parameter : (form : Line) (p : Parameter) (w : Word) (states : List State) (ws : Line) (b : CellBodyOf) → IsForm form → IsTrue (names_parameter kind p.name) → IsConstantText w states
      → AllZip (IsDigitOf (is_value p.name)) states (reverse p.digits) → IsCellBody wires kind ws b
      → IsCellBody wires kind (codes "parameter" ∷ (form ++ (codes "\\" ++ parameter_text p.name) ∷ w ∷ ws)) (record b { parameters = p ∷ b.parameters; numbers = digit_numbers p.digits ++ b.numbers })
  other_parameter : (form : Line) (name w : Word) (states : List State) (ws : Line) (b : CellBodyOf) → IsForm form → IsOtherParameter kind name → IsConstantText w states → IsCellBody wires kind ws b
      → IsCellBody wires kind (codes "parameter" ∷ (form ++ identifier name ∷ w ∷ ws)) (record b { others = name ∷ b.others })
  port : (p : Port) (numbers : List ℕ) (us ws : Line) (b : CellBodyOf) → IsSignalText wires false us p.signal numbers → IsCellBody wires kind ws b
      → IsCellBody wires kind (codes "connect" ∷ (codes "\\" ++ port_text p.name) ∷ (us ++ ws)) (record b { ports = p ∷ b.ports; numbers = numbers ++ b.numbers })
  foreign_port : (name : Word) (signal : List SigBit) (numbers : List ℕ) (us ws : Line) (b : CellBodyOf) → IsForeign name → IsSignalText wires false us signal numbers → IsCellBody wires kind ws b
      → IsCellBody wires kind (codes "connect" ∷ identifier name ∷ (us ++ ws)) (record b { foreign = name ∷ b.foreign; numbers = numbers ++ b.numbers })

-- no name stands twice
pub record IsApart (b : CellBodyOf) : Type 0 where
  pub one_parameter : IsTrue (are_distinct (λ p. parameter_number p.name) b.parameters)
  pub one_port : IsTrue (are_distinct (λ p. port_number p.name) b.ports)
  pub one_foreign : IsDistinct bytes_eq b.foreign
  pub one_other : IsDistinct bytes_eq b.others

-- a cell's words, and the numbers of its free bits
pub record IsCellText (wires : List WireOf) (ws : Line) (c : CellOf) (numbers : List ℕ) : Type 0 where
  pub type_word : Word
  pub lines : Line
  pub others : List Word
  pub are : ws ≡ codes "cell" ∷ type_word ∷ c.name ∷ (lines ++ codes "end" ∷ [])
  pub type_name : IsIdentifier type_word
  pub is_type : IsTypeText type_word c.kind
  pub name : IsIdentifier c.name
  pub body : IsCellBody wires c.kind lines (record { parameters = c.parameters; ports = c.ports; foreign = c.foreign; others = others; numbers = numbers })
  pub apart : IsApart (record { parameters = c.parameters; ports = c.ports; foreign = c.foreign; others = others; numbers = numbers })

-- the words of a cell that is ignored, and its name
pub record IsIgnoredText (wires : List WireOf) (ws : Line) (name : Word) : Type 0 where
  pub type_word : Word
  pub lines : Line
  pub said : CellBodyOf
  pub are : ws ≡ codes "cell" ∷ type_word ∷ name ∷ (lines ++ codes "end" ∷ [])
  pub is_ignored : (type_word ≡ codes "$scopeinfo") ⊎ (type_word ≡ codes "$print")
  pub is_name : IsIdentifier name
  pub body : IsCellBody wires Unknown lines said
  pub apart : IsApart said
  pub none_free : said.numbers ≡ []
