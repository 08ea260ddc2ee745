-- Texts of a file, and the design that each is read as. Not among them: those with cells that `CellTexts` leaves out.
use Rattle.std.specs.Prelude.{◌≡◌, ℕ, ◌+◌, ◌≤◌, ◌^◌, false, List, [], ◌∷◌, ◌++◌, length, codes, bytes_eq}
use Rattle.std.specs.List.{list_any, range_with_len}
use Rattle.design_core.specs.Shape.{WireOf, CellOf, DesignOf, wire_bits}
use Rattle.design_signals.specs.declared.sig_bit.SigBit.{SigBit}
use Rattle.rtlil_constant.specs.Constants.{Word}
use Rattle.design_reader.specs.Grammar.{wire_names}
use Rattle.reader_law.specs.Printed.{Line, IsIdentifier}
use Rattle.reader_law.specs.ConstantTexts.{State, IsAttributeText, IsConstantText, IsNumberText}
use Rattle.reader_law.specs.SignalTexts.{IsSignalText}
use Rattle.reader_law.specs.CellTexts.{IsCellText, IsIgnoredText}
use Rattle.reader_law.specs.WireTexts.{IsAttributes, IsWireText}

-- lines beside the module, which have no meaning here
pub data IsFileLines : Line → Type 0 where
  no_line : IsFileLines []
  autoidx : (w : Word) (n : ℕ) (ws : Line) → IsNumberText w n → IsFileLines ws → IsFileLines (codes "autoidx" ∷ w ∷ ws)
  attribute : (name w : Word) (states : List State) (ws : Line) → IsIdentifier name → IsAttributeText w states → IsFileLines ws → IsFileLines (codes "attribute" ∷ name ∷ w ∷ ws)

-- A module without its end: its words, its design and the names of its cells. A wire stands before its use, no two wires have one
-- name, nor two cells, free bits are numbered from left to right, and there are at most 2 ^ 20 bits.
pub data IsModuleText : Line → DesignOf → List Word → Type 0 where
  name_line : (name : Word) → IsIdentifier name → IsModuleText (codes "module" ∷ name ∷ []) (record { name = name; wires = []; cells = []; connects = []; free = 0 }) []
  parameter : (ws : Line) (d : DesignOf) (cells : List Word) (name : Word) → IsModuleText ws d cells → IsIdentifier name → IsModuleText (ws ++ codes "parameter" ∷ name ∷ []) d cells
  parameter_value : (ws : Line) (d : DesignOf) (cells : List Word) (name w : Word) (states : List State) → IsModuleText ws d cells → IsIdentifier name → IsConstantText w states
      → IsModuleText (ws ++ codes "parameter" ∷ name ∷ w ∷ []) d cells
  wire : (ws us : Line) (d : DesignOf) (cells : List Word) (x : WireOf) → IsModuleText ws d cells → IsWireText us x → list_any (λ n. bytes_eq n x.name) (wire_names d.wires) ≡ false → wire_bits d + d.free + x.width ≤ 2 ^ 20
      → IsModuleText (ws ++ us) (record d { wires = d.wires ++ x ∷ [] }) cells
  cell : (ws us vs : Line) (d : DesignOf) (cells : List Word) (inits : List (List State)) (c : CellOf) (count : ℕ) → IsModuleText ws d cells → IsAttributes us inits → IsCellText d.wires vs c (range_with_len d.free count)
      → list_any (λ n. bytes_eq n c.name) cells ≡ false → wire_bits d + (d.free + count) ≤ 2 ^ 20
      → IsModuleText (ws ++ (us ++ vs)) (record d { cells = d.cells ++ c ∷ []; free = d.free + count }) (cells ++ c.name ∷ [])
  ignored_cell : (ws us vs : Line) (d : DesignOf) (cells : List Word) (inits : List (List State)) (name : Word) → IsModuleText ws d cells → IsAttributes us inits → IsIgnoredText d.wires vs name
      → list_any (λ n. bytes_eq n name) cells ≡ false → IsModuleText (ws ++ (us ++ vs)) d (cells ++ name ∷ [])
  connect : (ws us vs : Line) (d : DesignOf) (cells : List Word) (left right : List SigBit) (numbers others : List ℕ) (count : ℕ) → IsModuleText ws d cells → IsSignalText d.wires false us left numbers
      → IsSignalText d.wires false vs right others → numbers ++ others ≡ range_with_len d.free count → wire_bits d + (d.free + count) ≤ 2 ^ 20
      → IsModuleText (ws ++ codes "connect" ∷ (us ++ vs)) (record d { connects = d.connects ++ record { left = left; right = right; cells_before = length d.cells } ∷ []; free = d.free + count }) cells

-- a file's words and its design
pub record IsFileText (ws : Line) (d : DesignOf) : Type 0 where
  pub before : Line
  pub lines : Line
  pub after : Line
  pub cells : List Word
  pub are : ws ≡ before ++ (lines ++ codes "end" ∷ after)
  pub is_before : IsFileLines before
  pub is_module : IsModuleText lines d cells
  pub is_after : IsFileLines after
