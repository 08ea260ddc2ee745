-- The start digits of registers' bits, kept at the places of the bits.
use Rattle.std.specs.Prelude.{◌≡◌, ℕ, Bool, List, length, Option, Some, slice_get}
use Rattle.design_core.specs.Places.{place_of, places}
use Rattle.design_core.specs.Shape.{DesignOf, IsDeclared}
use Rattle.design_meaning.specs.Meaning.{Chain, IsInit, IsRegisterBit}
use Rattle.design_signals.specs.declared.sig_bit.SigBit.{SigBit}
use Rattle.design_signals.specs.declared.sig_bit.SigBit.TheVariants.{Wire}

-- a register drives the bit
abbrev pub IsRegisterOutput : DesignOf → SigBit → Type 0
IsRegisterOutput d a = (i : ℕ) × (k : ℕ) × IsRegisterBit d i k a

-- a register drives the bit a, at which the chain of connects of some bit with the start digit x ends
abbrev pub IsRegisterStart : DesignOf → SigBit → Bool → Type 0
IsRegisterStart d a x = IsRegisterOutput d a × ((w : ℕ) × (b : ℕ) × (n : ℕ) × IsInit d w b x × Chain d n (Wire w b) a)

-- at each bit's place stands the digit that the bit starts with
pub record IsStarts (d : DesignOf) (starts : List (Option Bool)) : Type 0 where
  pub size : length starts ≡ places d
  pub sound : (a : SigBit) (x : Bool) → IsDeclared d.wires d.free a → slice_get starts (place_of d a) ≡ Some (Some x) → IsRegisterStart d a x
  pub complete : (a : SigBit) (x : Bool) → IsDeclared d.wires d.free a → IsRegisterStart d a x → slice_get starts (place_of d a) ≡ Some (Some x)
