use Rattle.std.proofs.Common.{◌≡◌, ◌↔◌, length}
use Rattle.pair_form.specs.Text.{pair_text}
use Rattle.pair_reader.proofs.reader.is_text.Given as goal

abbrev pub invariant-pieces : goal.invariant-pieces
invariant-pieces l = (pair_text l.pair ≡ l.bytes) ↔ (l.text ≡ l.rest)

abbrev pub decreases-pieces : goal.decreases-pieces
decreases-pieces l = length l.rest
