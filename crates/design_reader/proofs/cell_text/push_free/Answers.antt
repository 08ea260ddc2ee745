use Rattle.design_reader.specs.Drafts.{draft_of}
use Rattle.design_reader.proofs.Declared.{cell_with_free}
use Rattle.design_reader.proofs.cell_text.push_free.Goals as goal

pub returns-clause-fits : goal.returns-clause-fits
returns-clause-fits c =
    rw (c.number_free.ensures.more, c.in_ok-push_parameter.ensures, c.in_ok-kept.ensures, c.free.ensures.free, c.open_count-count.ensures, c.in_ok-digits.ensures)
    (cell_with_free (draft_of c.args.draft.now) c.args.cell.now c.args.name c.args.constant.now c.requires.fits c.requires.fresh)
