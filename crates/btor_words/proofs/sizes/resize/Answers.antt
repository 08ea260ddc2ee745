use Rattle.std.proofs.Common.{◌∙◌, arith}
use Rattle.sby_bits.specs.Rows.{ext}
use Rattle.btor_words.proofs.Emitting.{renamed, stood, word_long}
use Rattle.btor_words.proofs.Rows.{cut_row, same_size}
use Rattle.btor_words.proofs.sizes.resize.Goals as goal

pub returns-then-a-width-clause-row : goal.returns-then-a-width-clause-row
returns-then-a-width-clause-row c =
    renamed 2 (λ vs. ext (vs c.args.a.nid) c.args.signed c.args.width) c.requires.a.btor c.in_ok-word.ensures.row (omega arith)
    (λ vs h. cut_row (vs c.args.a.nid) c.args.signed c.args.width (let e = word_long vs c.requires.a h in let l = c.if-a-width.true in omega arith))

pub returns-then-a-width-2-clause-row : goal.returns-then-a-width-2-clause-row
returns-then-a-width-2-clause-row c =
    stood c.args.width 2 (λ vs. ext (vs c.args.a.nid) c.args.signed c.args.width) c.requires.a c.if-a-width-2.true
    (λ vs h. same_size (vs c.args.a.nid) c.args.signed c.args.width (word_long vs c.requires.a h ∙ c.if-a-width-2.true))
