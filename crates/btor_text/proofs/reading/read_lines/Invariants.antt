use Rattle.std.proofs.Common.{◌+◌, ◌≤◌, length}
use Rattle.btor_text.specs.Ties.{KeepsTies}
use Rattle.btor_text.proofs.Going.{IsAt}
use Rattle.btor_text.proofs.reading.read_lines.Given as goal

abbrev pub invariant-loop-rest : goal.invariant-loop-rest
invariant-loop-rest l = (l.line + length l.rest ≤ length l.bytes) × KeepsTies l.reader × IsAt l.bytes l.rest l.line l.reader.model

abbrev pub decreases-loop-rest : goal.decreases-loop-rest
decreases-loop-rest l = length l.rest
