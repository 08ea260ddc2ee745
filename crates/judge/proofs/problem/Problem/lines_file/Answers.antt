use Rattle.std.proofs.Common.{◌∙◌, ℕ, List, ap, map, subst, sym}
use Rattle.btor_emit.specs.Emission.{IsEmission}
use Rattle.design_core.specs.Places.{place_of}
use Rattle.design_core.specs.Shape.{DesignOf}
use Rattle.design_meaning.specs.States.{input_bits}
use Rattle.model_core.specs.Shape.{ModelOf}
use Rattle.net_jobs.specs.Jobs.{IsOfSpan}
use Rattle.place_rows.specs.Rows.{AreRowsOf}
use Rattle.source_rows.specs.Sources.{source_rows}
use Rattle.judge.proofs.Encodes.{job_of_span}
use Rattle.judge.proofs.Reading.{at_sought}
use Rattle.judge.proofs.Sizes.{witness_told}
use Rattle.judge.specs.Jobs.{span_of}
use Rattle.judge.specs.Problem.{AskedOf}
use Rattle.judge.specs.Witness.{sought_in}
use Rattle.judge.proofs.problem.Problem.lines_file.Goals as goal

pub sought_of-requires-clause-job : goal.sought_of-requires-clause-job
sought_of-requires-clause-job c =
    let p = c.args.self.now in
    let h = c.flat-flat.ensures.problem in
    let w = c.requires.job in
    subst (λ (q : AskedOf). IsOfSpan c.args.job (span_of q.problem)) (sym c.self.view_is)
    (job_of_span p.design p.model h.design h.model p.problem.mode (span_of p.problem) w.0 c.args.job w.1 (witness_told c.args.job c.requires.run))

pub emit-requires : goal.emit-requires
emit-requires c =
    let p = c.args.self.now in
    let rows = c.in_ok-rows.rows in
    let own = subst (λ (d : DesignOf). AreRowsOf (map (place_of d) (input_bits d)) rows) c.flat-flat.ensures.flat c.in_ok-rows.ensures.inputs in
    let inputs = subst (λ (ps : List ℕ). AreRowsOf ps rows) (sym c.flat-flat.ensures.problem.model.inputs) own in
    subst (λ (m : ModelOf). AreRowsOf m.inputs rows) (sym c.model.ensures) inputs

pub returns : goal.returns
returns c =
    let e = sym (sym c.in-Some.is ∙ (c.sought_of.ensures ∙ ap (λ (p : AskedOf). sought_in p c.args.job) c.self.view_is)) in
    at_sought (sought_in c.args.self.now c.args.job) c.in-Some.sought _ e (
      c.in_ok-emitted.emitted.model,
      c.in_ok-emitted.emitted.shape.states.items,
      c.in_ok-emitted.emitted.shape.inputs,
      subst (λ (rows : List (List ℕ)). IsEmission c.args.self.now.model rows c.in-Some.sought.goal c.in_ok-emitted.emitted.model c.in_ok-emitted.emitted.shape.states.items c.in_ok-emitted.emitted.shape.inputs) (c.in_ok-rows.ensures.rows ∙ ap source_rows c.flat-flat.ensures.flat) (subst (λ (m : ModelOf). IsEmission m c.in_ok-rows.rows c.in-Some.sought.goal c.in_ok-emitted.emitted.model c.in_ok-emitted.emitted.shape.states.items c.in_ok-emitted.emitted.shape.inputs) c.model.ensures c.in_ok-emitted.ensures),
      c.in_ok-text.ensures.text,
      c.in_ok-text.ensures.grammar,
    )
