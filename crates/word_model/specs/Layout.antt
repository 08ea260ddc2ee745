-- Where a design's bits stand in its model, and what the design has in a cycle of the model.
use Rattle.std.specs.Prelude.{◌≡◌, ℕ, suc, ◌+◌, ◌<◌, Bool, true, false, List, [], ◌∷◌, map, Option, Some, None}
use Rattle.std.specs.List.{range_with_len}
use Rattle.design_core.specs.Places.{offset, place_of, places}
use Rattle.design_core.specs.Ports.{digits_at}
use Rattle.design_core.specs.Shape.{CellOf, DesignOf, IsDeclared, wire_bits}
use Rattle.design_core.specs.declared.digit.Digit.{Digit}
use Rattle.design_core.specs.declared.digit.Digit.TheVariants.{Const as ConstDigit, Free as FreeDigit, Marker}
use Rattle.design_core.specs.declared.names.ParameterName.{ParameterName}
use Rattle.design_meaning.specs.Meaning.{IsCell, Valuation, bit_in}
use Rattle.design_meaning.specs.Runs.{kept_offset, kept_width}
use Rattle.design_meaning.specs.States.{StateBit, Signal, Kept}
use Rattle.design_signals.specs.declared.sig_bit.SigBit.{SigBit}
use Rattle.design_signals.specs.declared.sig_bit.SigBit.TheVariants.{Const, Free}
use Rattle.model_core.specs.Meaning.{Cycle}
use Rattle.model_core.specs.Shape.{ModelOf}

-- stored rows stand after the constants, in file order, lowest bit first
abbrev pub kept_place : DesignOf → ℕ → ℕ → ℕ
kept_place d i k = places d + kept_offset d i + k

abbrev pub state_place : DesignOf → StateBit → ℕ
state_place d (Signal b) = place_of d b
state_place d (Kept i k) = kept_place d i k

abbrev pub zero_place : DesignOf → ℕ
zero_place d = wire_bits d + d.free

-- a parameter's digit is a constant or a free bit
abbrev pub digit_place : DesignOf → Digit → ℕ
digit_place d (ConstDigit b) = place_of d (Const b)
digit_place d (FreeDigit n) = place_of d (Free n)
digit_place d Marker = place_of d (Const false)

abbrev pub signal_places : DesignOf → List SigBit → List ℕ
signal_places d bits = map (place_of d) bits

abbrev pub digits_places : DesignOf → Option (List Digit) → List ℕ
digits_places d None = []
digits_places d (Some digits) = map (digit_place d) digits

abbrev pub parameter_places : DesignOf → CellOf → ParameterName → List ℕ
parameter_places d c name = digits_places d (digits_at c.parameters name)

-- the row that the cell at place i keeps: one bit for each bit of its output
abbrev pub kept_places : DesignOf → ℕ → ℕ → List ℕ
kept_places d i width = map (kept_place d i) (range_with_len 0 width)

-- the place of a signal of one bit
abbrev pub bit_place : DesignOf → List SigBit → ℕ
bit_place d [] = zero_place d
bit_place d (b ∷ bits) = place_of d b

-- what the wires, the free bits and the stored rows have in a cycle
abbrev pub valued : DesignOf → Cycle → Valuation
valued d c = record {
  wire = λ w b. c (offset d w + b);
  free = λ n. c (wire_bits d + n);
  kept = λ i k. c (places d + kept_offset d i + k);
}

-- the constants are 0 and 1
pub record HasConstants (m : ModelOf) (c : Cycle) : Type 0 where
  pub zero : c m.zero ≡ false
  pub one : c (suc m.zero) ≡ true

-- two valuations have the same at each declared bit and in each stored row
pub record IsAlike (d : DesignOf) (v w : Valuation) : Type 0 where
  pub bits : (b : SigBit) → IsDeclared d.wires d.free b → bit_in v b ≡ bit_in w b
  pub kept : (i k : ℕ) (c : CellOf) → IsCell d i c → k < kept_width c → v.kept i k ≡ w.kept i k
