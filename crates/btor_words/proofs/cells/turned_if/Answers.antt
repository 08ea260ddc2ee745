use Rattle.std.proofs.Common.{refl, arith}
use Rattle.btor_words.specs.Operators.{turned_row}
use Rattle.btor_words.proofs.Emitting.{renamed, stood}
use Rattle.btor_words.proofs.cells.turned_if.Goals as goal

pub returns-then-turned-clause-row : goal.returns-then-turned-clause-row
returns-then-turned-clause-row c = renamed 2 (λ vs. turned_row c.args.turned (vs c.args.word.nid)) c.requires.word.btor c.in_ok-other.ensures.row (omega arith) (λ vs h. rw c.if-turned.true refl)

pub returns-clause-row : goal.returns-clause-row
returns-clause-row c = stood c.args.word.width 2 (λ vs. turned_row c.args.turned (vs c.args.word.nid)) c.requires.word refl (λ vs h. rw c.if-turned.false refl)
