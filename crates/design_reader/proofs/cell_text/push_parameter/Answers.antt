use Rattle.design_reader.specs.Drafts.{draft_of}
use Rattle.design_reader.proofs.Declared.{cell_with_plain}
use Rattle.design_reader.proofs.cell_text.push_parameter.Goals as goal

pub returns-clause-fits : goal.returns-clause-fits
returns-clause-fits c =
    rw (c.in_ok-push_parameter.ensures, c.in_ok-kept.ensures)
    (cell_with_plain (draft_of c.args.draft.now) c.args.cell.now c.args.name c.args.constant.now c.requires.fits c.requires.fresh)
