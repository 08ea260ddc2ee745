use Rattle.design_reader.specs.Drafts.{draft_of}
use Rattle.design_reader.proofs.PartLemmas.{sliced_step, sliced_stops, sliced_fits}
use Rattle.design_reader.proofs.module_text.slice_part.Goals as goal

pub returns-in-Ok-clause-step : goal.returns-in-Ok-clause-step
returns-in-Ok-clause-step c =
    sliced_step (draft_of c.args.draft.now) c.args.target c.args.segments c.in-Ok.segments c.args.word.now c.requires.some c.requires.slice c.in-Ok.ensures

pub returns-in-Ok-clause-fits : goal.returns-in-Ok-clause-fits
returns-in-Ok-clause-fits c =
    let kept = sliced_fits (draft_of c.args.draft.now) c.args.segments c.in-Ok.segments c.args.word.now c.requires.some c.requires.rows c.in-Ok.ensures in
    (c.requires.target, kept.0, kept.1)

pub returns-in-Err-clause-step : goal.returns-in-Err-clause-step
returns-in-Err-clause-step c =
    sliced_stops (draft_of c.args.draft.now) c.args.target c.args.segments c.in-Err.stop c.args.word.now c.requires.some c.requires.slice c.in-Err.ensures
