use Rattle.std.proofs.Common.{◌≡◌, ◌-◌, ◌≤◌, length}
use Rattle.design_reader.proofs.ReadLemmas.{SoFar}
use Rattle.design_reader.proofs.reading.design.Given as goal

-- the tokens so far lead to this spot
abbrev pub invariant-tokens : goal.invariant-tokens
invariant-tokens l = (l.lexer.bytes ≡ l.bytes) × (l.lexer.place ≤ length l.bytes) × SoFar l.bytes l.lexer l.reader.0 l.reader.1

abbrev pub decreases-tokens : goal.decreases-tokens
decreases-tokens l = length l.bytes - l.lexer.place
