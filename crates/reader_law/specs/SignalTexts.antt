-- Texts of a signal, the bits that each stands for, lowest first, and the numbers of free bits from left to right, also of those that
-- slices leave out.
use Rattle.std.specs.Prelude.{◌≡◌, ℕ, ◌+◌, ◌-◌, ◌<◌, ◌≤◌, Bool, true, false, List, [], ◌∷◌, ◌++◌, map, reverse, length, take, drop, slice_get, Some, codes}
use Rattle.std.specs.List.{AllZip, range_with_len}
use Rattle.design_core.specs.Shape.{WireOf}
use Rattle.design_signals.specs.declared.sig_bit.SigBit.{SigBit}
use Rattle.design_signals.specs.declared.sig_bit.SigBit.TheVariants.{Wire, Const, Free}
use Rattle.rtlil_constant.specs.Constants.{Word}
use Rattle.reader_law.specs.Printed.{Line, signal_numbers}
use Rattle.reader_law.specs.ConstantTexts.{State, IsConstantText, IsNumberText}
use Rattle.reader_law.specs.ConstantTexts.State.{Zero, One, Undefined, HighImpedance, DontCare, Marked}

-- the bit of a constant's state: x, z and - are free bits, and m is no bit
abbrev pub IsBitOf : State → SigBit → Type 0
IsBitOf Zero b = b ≡ Const false
IsBitOf One b = b ≡ Const true
IsBitOf Undefined b = (n : ℕ) × (b ≡ Free n)
IsBitOf HighImpedance b = (n : ℕ) × (b ≡ Free n)
IsBitOf DontCare b = (n : ℕ) × (b ≡ Free n)
IsBitOf Marked b = ⊥

-- The text of a signal, and where the Bool is true of several in a concatenation, the most significant first: a wire, a
-- constant, a bit or a range of a signal, which count from 0 at the lowest bit, or a concatenation.
pub data IsSignalText (wires : List WireOf) : Bool → Line → List SigBit → List ℕ → Type 0 where
  wire : (w : ℕ) (x : WireOf) → slice_get wires w ≡ Some x → IsSignalText wires false (x.name ∷ []) (map (λ b. Wire w b) (range_with_len 0 x.width)) []
  constant : (w : Word) (states : List State) (signal : List SigBit) → 0 < length signal → IsConstantText w states → AllZip IsBitOf states (reverse signal) → IsSignalText wires false (w ∷ []) signal (signal_numbers signal)
  bit : (ws : Line) (signal : List SigBit) (numbers : List ℕ) (w : Word) (n : ℕ) → IsNumberText w n → n < length signal → IsSignalText wires false ws signal numbers
      → IsSignalText wires false (ws ++ (codes "[" ++ (w ++ codes "]")) ∷ []) (take 1 (drop n signal)) numbers
  range : (ws : Line) (signal : List SigBit) (numbers : List ℕ) (w v : Word) (n m : ℕ) → IsNumberText w n → IsNumberText v m → m ≤ n → n < length signal → IsSignalText wires false ws signal numbers
      → IsSignalText wires false (ws ++ (codes "[" ++ ((w ++ (codes ":" ++ v)) ++ codes "]")) ∷ []) (take (n - m + 1) (drop m signal)) numbers
  braces : (ws : Line) (signal : List SigBit) (numbers : List ℕ) → IsSignalText wires true ws signal numbers → IsSignalText wires false (codes "{" ∷ (ws ++ codes "}" ∷ [])) signal numbers
  last : (ws : Line) (signal : List SigBit) (numbers : List ℕ) → IsSignalText wires false ws signal numbers → IsSignalText wires true ws signal numbers
  above : (ws vs : Line) (high low : List SigBit) (numbers others : List ℕ) → IsSignalText wires false ws high numbers → IsSignalText wires true vs low others → IsSignalText wires true (ws ++ vs) (low ++ high) (numbers ++ others)
