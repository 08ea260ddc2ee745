-- What the parts of the reader say: what was read at a place, and where reading stopped.
use Rattle.std.specs.Prelude.{◌≡◌, ◌⊎◌, ℕ, ◌+◌, ◌≤◌, ◌==◌, zero, suc, Bool, All, List, [], ◌∷◌, ◌++◌, Option, Some, None, map, replicate, reverse, length, drop}
use Rattle.std.specs.List.{flat_map}
use Rattle.sby_bits.specs.Rows.{Row}
use Rattle.design_core.specs.Shape.{DesignOf, WireOf}
use Rattle.design_trace.specs.Trace.{cycle_line}

-- a piece of the text stands at a place, and the next place is after it
pub record Reads (bytes : List ℕ) (at : ℕ) (piece : List ℕ) (next : ℕ) : Type 0 where
  pub place : next ≡ at + length piece
  pub within : next ≤ length bytes
  pub piece_is : drop at bytes ≡ piece ++ drop next bytes

-- a piece was read, and the row got the bits that it writes
abbrev pub ReadsBits : Row → Row → ℕ → List ℕ → ℕ → (Row → List ℕ) → ℕ → Type 0
ReadsBits old new count bytes at piece next = (bits : Row) × (new ≡ old ++ bits) × (length bits ≡ count) × Reads bytes at (piece bits) next

-- what is wanted at each place: this byte, or a digit 0 or 1
abbrev pub Pattern : Type 0
Pattern = List (Option ℕ)

abbrev pub Allows : Option ℕ → ℕ → Type 0
Allows (Some b) x = x ≡ b
Allows None x = (x ≡ 48) ⊎ (x ≡ 49)

-- a wire's line, with any bits
abbrev pub wire_pattern : WireOf → Pattern
wire_pattern w = map Some w.name ++ Some 32 ∷ (replicate w.width None ++ Some 10 ∷ [])

-- cycle k, with any bits
abbrev pub cycle_pattern : DesignOf → ℕ → Pattern
cycle_pattern d k = map Some (cycle_line k) ++ flat_map wire_pattern d.wires

-- the bytes have what is wanted at the first n places and not at the next, where they may end
abbrev pub FailsAt : Pattern → List ℕ → ℕ → Type 0
FailsAt [] xs n = ⊥
FailsAt (p ∷ ps) [] n = n ≡ 0
FailsAt (p ∷ ps) (x ∷ xs) zero = Allows p x → ⊥
FailsAt (p ∷ ps) (x ∷ xs) (suc n) = Allows p x × FailsAt ps xs n

-- reading from a place stopped at a byte
pub record Stops (bytes : List ℕ) (at : ℕ) (pattern : Pattern) (byte : ℕ) : Type 0 where
  pub count : ℕ
  pub place : byte ≡ at + count
  pub fails : FailsAt pattern (drop at bytes) count

-- this many digits 0 and 1, and the bits that they write, highest first
abbrev pub IsDigits : ℕ → List ℕ → Type 0
IsDigits width xs = (length xs ≡ width) × All (Allows None) xs

abbrev pub bits_of : List ℕ → List Bool
bits_of xs = map (λ x. x == 49) (reverse xs)
