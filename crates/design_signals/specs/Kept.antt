-- The chunks of a signal that is kept.
use Rattle.std.specs.Prelude.{List, [], ◌∷◌}
use Rattle.design_signals.specs.declared.chunk.Chunk.{Chunk}
use Rattle.design_signals.specs.declared.stored.Parts.{Parts}
use Rattle.design_signals.specs.declared.stored.Parts.TheVariants.{One, Many}

abbrev pub chunks_in : Parts → List Chunk
chunks_in (One c) = c ∷ []
chunks_in (Many cs) = cs.value.items
