use Rattle.std.proofs.Common.{◌≡◌, ◌++◌, ◌≤◌, take, length}
use Rattle.std.specs.Prelude.{string_bytes}
use Rattle.btor_text.specs.Grammar.{bits_text}
use Rattle.btor_text.proofs.writing.push_bits.Given as goal

abbrev pub invariant-loop-place : goal.invariant-loop-place
invariant-loop-place l = (l.place ≤ length l.bits) × (string_bytes l.text ++ bits_text (take l.place l.bits) ≡ string_bytes l.fn.text ++ bits_text l.bits)

abbrev pub decreases-loop-place : goal.decreases-loop-place
decreases-loop-place l = l.place
