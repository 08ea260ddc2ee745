use Rattle.std.proofs.Common.{◌∙◌, sym, ap}
use Rattle.cell_table.specs.declared.kind.Kind.{Kind}
use Rattle.design_reader.specs.Drafts.{draft_of}
use Rattle.design_reader.specs.Grammar.{kept_parameter}
use Rattle.design_reader.specs.Labels.{known_parameter}
use Rattle.design_reader.proofs.Declared.{parameter_begun}
use Rattle.design_reader.proofs.cell_text.parameter_name.Goals as goal

pub returns-clause-fits : goal.returns-clause-fits
returns-clause-fits c =
    let found = known_parameter c.bare_name-name.result.now in
    rw c.in_ok-name_parameter.ensures
    (parameter_begun (draft_of c.args.draft.now) c.args.cell c.bare_name-name.result.now found c.parameter_label-label.result
    (c.parameter_label-label.ensures ∙ ap (λ (k : Kind). kept_parameter k found) c.kind.ensures) (sym c.has_parameter.ensures ∙ c.if-has_parameter.false) c.requires)
