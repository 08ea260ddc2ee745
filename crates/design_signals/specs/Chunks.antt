-- Signals as chunks: a chunk is its lowest bit and how many bits it has.
use Rattle.std.specs.Prelude.{◌≡◌, ℕ, zero, suc, ◌+◌, ◌-◌, ◌<◌, ◌≤◌, ◌^◌, List, [], ◌∷◌}
use Rattle.std.specs.List.{flat_map}
use Rattle.design_signals.specs.declared.sig_bit.SigBit.{SigBit}
use Rattle.design_signals.specs.declared.sig_bit.SigBit.TheVariants.{Wire, Const, Free}
use Rattle.design_signals.specs.declared.chunk.Chunk.{Chunk}

-- The bit that stands i places above a bit of its chunk: wires rise, constants stay, free numbers fall, since a text
-- numbers its free bits from the highest on.
abbrev pub above : SigBit → ℕ → SigBit
above (Wire w b) i = Wire w (b + i)
above (Const b) i = Const b
above (Free n) i = Free (n - i)

-- n bits, from the one that stands i places above
abbrev pub bits_from : SigBit → ℕ → ℕ → List SigBit
bits_from b i zero = []
bits_from b i (suc n) = above b i ∷ bits_from b (i + 1) n

abbrev pub chunk_bits : Chunk → List SigBit
chunk_bits c = bits_from c.first 0 c.width

abbrev pub bits_of : List Chunk → List SigBit
bits_of cs = flat_map chunk_bits cs

-- there is room for this many bits from this one on
abbrev pub HasRoom : SigBit → ℕ → Type 0
HasRoom (Wire w b) n = b + n ≤ 2 ^ 32
HasRoom (Const b) n = Unit {0}
HasRoom (Free m) n = n ≤ m + 1

-- a chunk isn't empty, and its bits' numbers fit
pub record IsChunk (c : Chunk) : Type 0 where
  pub some : 0 < c.width
  pub room : HasRoom c.first c.width

-- a place in the first chunk, where there is one
abbrev pub IsPlaceIn : ℕ → List Chunk → Type 0
IsPlaceIn i [] = i ≡ 0
IsPlaceIn i (c ∷ cs) = i < c.width
