use Rattle.model_core.proofs.Frames.{some_frame}
use Rattle.model_core.proofs.Runs.{run_of, run_plays}
use Rattle.word_model.proofs.Runs.{run-to}
use Rattle.judge.proofs.Carrying.{constants}
use Rattle.judge.proofs.laws.every_choice_has_a_run_of_the_design.Goals as goal

pub returns-clause-run : goal.returns-clause-run
returns-clause-run c = λ p h chosen fit some.
    let plays = run_plays p.model h.is_model chosen fit some in
    (run_of p.model h.is_model chosen, plays, run-to p.design p.model h.model _ (run_of p.model h.is_model chosen) plays.run)

pub returns-clause-frame : goal.returns-clause-frame
returns-clause-frame c = λ p h u.
    let f = some_frame p.model h.is_model u in
    (f.0, (h.model.frame f.0 (constants p.design p.model h.model f.0 f.1)).0 f.1, f.2)
