use Rattle.std.proofs.Common.{◌∙◌, sym}
use Rattle.design_reader.specs.Drafts.{draft_of}
use Rattle.design_reader.proofs.WordLemmas.{step_name, step_no_name}
use Rattle.design_reader.proofs.step.step.Goals as goal

pub returns-in-Ok-clause-step : goal.returns-in-Ok-clause-step
returns-in-Ok-clause-step c =
    rw (step_name (draft_of c.args.draft.now) c.args.spot c.args.word.now (sym c.starts_name.ensures ∙ c.if-not-starts_name.false) c.in-Ok.ensures.cases.1, ← c.in-Ok.ensures.cases.0)
    c.name_step.ensures.step

pub returns-in-Err-clause-step : goal.returns-in-Err-clause-step
returns-in-Err-clause-step c = step_no_name (draft_of c.args.draft.now) c.args.spot c.args.word.now (sym c.starts_name.ensures ∙ c.if-not-starts_name.false) c.in-Err.ensures.cases.0
