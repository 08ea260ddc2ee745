-- Rows of a signal that is read, as chunks.
use Rattle.std.specs.Prelude.{◌≡◌, ℕ, zero, suc, ◌+◌, ◌-◌, ◌≤◌, List, [], ◌∷◌, take, drop, reverse, length}
use Rattle.std.specs.List.{flat_map}
use Rattle.design_signals.specs.declared.sig_bit.SigBit.{SigBit}
use Rattle.design_signals.specs.declared.sig_bit.SigBit.TheVariants.{Wire, Free}
use Rattle.design_signals.specs.declared.chunk.Chunk.{Chunk}
use Rattle.design_signals.specs.Chunks.{chunk_bits}

-- a chunk's bits and a row's bits, highest first
abbrev pub falling : Chunk → List SigBit
falling c = reverse (chunk_bits c)

abbrev pub row_of : List Chunk → List SigBit
row_of cs = flat_map falling cs

-- lists that stand one after the other, by where each starts; the last comes first
abbrev pub rows_of : {X : Type 0} → List X → List ℕ → List (List X)
rows_of items [] = []
rows_of items (start ∷ starts) = drop start items ∷ rows_of (take start items) starts

-- the starts, the last first, rise from 0 up to n
abbrev pub AreStarts : ℕ → List ℕ → Type 0
AreStarts n [] = n ≡ 0
AreStarts n (start ∷ starts) = (start ≤ n) × AreStarts start starts

-- as in the reader's grammar: the first bits of a wire, highest first, and the bits n down to m of a row
abbrev pub wire_row : ℕ → ℕ → List SigBit
wire_row w zero = []
wire_row w (suc n) = Wire w n ∷ wire_row w n

-- this many free bits, numbered from n on
abbrev pub free_row : ℕ → ℕ → List SigBit
free_row n zero = []
free_row n (suc count) = Free n ∷ free_row (n + 1) count

abbrev pub slice_row : List SigBit → ℕ → ℕ → List SigBit
slice_row row n m = take (n + 1 - m) (drop (length row - (n + 1)) row)

-- the chunks from start on have become those of the bits high down to low
pub record IsSliced (start high low : ℕ) (old new : List Chunk) : Type 0 where
  pub before : take start new ≡ take start old
  pub short : start ≤ length new
  pub row : row_of (drop start new) ≡ slice_row (row_of (drop start old)) high low
