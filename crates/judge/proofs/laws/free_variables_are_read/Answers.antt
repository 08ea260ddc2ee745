use Rattle.std.proofs.lemmas.List.Elements.{All-contains}
use Rattle.task_net.specs.Asking.{asked_of, place_of as origin_place}
use Rattle.design_core.specs.Places.{place_of}
use Rattle.job_terms.specs.Encoding.{Origin}
use Rattle.job_terms.specs.Encoding.Origin.{First, Input}
use Rattle.model_cone.specs.Cone.{IsInCone}
use Rattle.model_laws.proofs.Coned.{input-read, state-read}
use Rattle.word_model.specs.Layout.{state_place}
use Rattle.judge.proofs.laws.free_variables_are_read.Goals as goal

pub returns-clause-inputs : goal.returns-clause-inputs
returns-clause-inputs c = λ p job e h is o t b has at.
    let cone = All-contains (λ (a : Origin). IsInCone p.model (asked_of job) (origin_place a)) o.has.origins (Input t (place_of p.design b)) o.cone at in
    input-read p.design h.design h.flat h.built.0 h.built.1 p.model h.built.2 (asked_of job) b has cone

pub returns-clause-starts : goal.returns-clause-starts
returns-clause-starts c = λ p job e h is o s has at.
    let cone = All-contains (λ (a : Origin). IsInCone p.model (asked_of job) (origin_place a)) o.has.origins (First (state_place p.design s)) o.cone at in
    state-read p.design h.design h.flat h.built.0 h.built.1 p.model h.built.2 (asked_of job) s has cone
