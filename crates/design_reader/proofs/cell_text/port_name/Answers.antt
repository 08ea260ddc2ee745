use Rattle.std.proofs.Common.{◌∙◌, sym}
use Rattle.design_reader.specs.Drafts.{draft_of}
use Rattle.design_reader.proofs.Declared.{port_begun}
use Rattle.design_reader.proofs.cell_text.port_name.Goals as goal

pub returns-clause-fits : goal.returns-clause-fits
returns-clause-fits c =
    rw (c.in_ok-cell.ensures, c.new.ensures)
    (port_begun (draft_of c.args.draft.now) c.args.cell c.bare_name-name.result.now c.port_label-label.result (sym c.has_port.ensures ∙ c.if-has_port.false) c.requires)
