use Rattle.std.proofs.Common.{arith}
use Rattle.std.specs.Prelude.{pos}
use Rattle.sby_bits.specs.Rows.{fit, num}
use Rattle.sby_bits.specs.Words.{moved_number}
use Rattle.btor_words.proofs.Emitting.{last, still, word_long}
use Rattle.btor_words.proofs.CellRows.{down_row}
use Rattle.btor_words.proofs.shifts.down.Goals as goal

pub join-requires-clause-a : goal.join-requires-clause-a
join-requires-clause-a c = still c.in_ok-places.ensures.row.adds c.requires.word

pub returns-clause-row : goal.returns-clause-row
returns-clause-row c =
    let w = c.args.word.width in
    last 4 (λ vs. fit w (pos (moved_number (num (vs c.args.word.nid)) (pos (num (vs c.args.by.nid)))))) c.requires.word.btor c.in_ok-places.ensures.row.adds c.in_ok-moved.ensures.row (omega arith)
    (λ vs h p. down_row w (vs c.args.word.nid) (vs c.args.by.nid) (vs c.in_ok-places.places.nid) (let l = word_long vs c.requires.by h in let k = c.requires.wide in omega arith) p)
