use Rattle.std.proofs.Common.{◌≡◌, ◌+◌, length, drop}
use Rattle.design_signals.specs.Parts.{row_of}
use Rattle.design_signals.proofs.segments.row_width.Given as goal

abbrev pub invariant-loop-chunk : goal.invariant-loop-chunk
invariant-loop-chunk l = l.width + length (row_of (drop l.chunk-index l.chunks)) ≡ length (row_of l.chunks)
