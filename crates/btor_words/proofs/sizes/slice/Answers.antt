use Rattle.std.proofs.Common.{◌≡◌, ◌∙◌, sym, arith}
use Rattle.cell_table.specs.Cells.{slice_fn}
use Rattle.btor_words.proofs.Emitting.{stood, word_long}
use Rattle.btor_words.proofs.Rows.{whole_slice}
use Rattle.btor_words.proofs.sizes.slice.Goals as goal

pub returns-then-width-a-clause-row : goal.returns-then-width-a-clause-row
returns-then-width-a-clause-row c =
    let none : c.args.offset ≡ 0 = (let i = c.requires.inside in let e = c.if-width-a.true in omega arith) in
    stood c.args.width 2 (λ vs. slice_fn c.args.width c.args.offset (vs c.args.a.nid)) c.requires.a (sym c.if-width-a.true)
    (λ vs h. whole_slice (vs c.args.a.nid) c.args.width c.args.offset (word_long vs c.requires.a h ∙ sym c.if-width-a.true) none)
