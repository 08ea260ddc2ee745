use Rattle.std.proofs.Common.{refl, arith}
use Rattle.std.specs.Prelude.{pos}
use Rattle.sby_bits.specs.Rows.{fit, num, value}
use Rattle.sby_bits.specs.Words.{moved_number}
use Rattle.btor_words.proofs.Emitting.{last, renamed, still, word_long}
use Rattle.btor_words.proofs.CellRows.{either_row}
use Rattle.btor_words.proofs.shifts.moved.Goals as goal

pub either_way-requires-clause-word : goal.either_way-requires-clause-word
either_way-requires-clause-word c = still c.in_ok-low.ensures.row.adds c.requires.word

pub either_way-requires-clause-by : goal.either_way-requires-clause-by
either_way-requires-clause-by c = still c.in_ok-low.ensures.row.adds c.requires.by

pub returns-then-by_signed-clause-row : goal.returns-then-by_signed-clause-row
returns-then-by_signed-clause-row c =
    let w = c.args.word.width in
    last 14 (λ vs. fit w (pos (moved_number (num (vs c.args.word.nid)) (value c.args.by_signed (vs c.args.by.nid))))) c.requires.word.btor c.in_ok-low.ensures.row.adds c.in_ok-chosen.ensures.row (omega arith)
    (λ vs h p. either_row w c.args.by.width (vs c.args.word.nid) (vs c.args.by.nid) (vs c.in_ok-low.low.nid) c.args.by_signed c.if-by_signed.true (word_long vs c.requires.by h) p)

pub returns-clause-row : goal.returns-clause-row
returns-clause-row c =
    let w = c.args.word.width in
    renamed 14 (λ vs. fit w (pos (moved_number (num (vs c.args.word.nid)) (value c.args.by_signed (vs c.args.by.nid))))) c.requires.word.btor c.in_ok-low.ensures.row (omega arith) (λ vs h. rw c.if-by_signed.false refl)
