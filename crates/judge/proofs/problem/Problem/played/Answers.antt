use Rattle.std.proofs.Common.{◌≡◌, ◌∙◌, All, List, Bool, ap, length, refl, sym, subst}
use Rattle.job_terms.specs.Decoding.{values_of}
use Rattle.job_terms.specs.Encoding.{EncodedOf, decoded}
use Rattle.judge.proofs.Encodes.{job_of_span}
use Rattle.judge.proofs.Truth.{choices_fit, run_played, some_choices}
use Rattle.judge.specs.Basis.{BasisOf}
use Rattle.judge.specs.Played.{IsPlayed}
use Rattle.judge.specs.Problem.{AskedOf, IsEncodedOf}
use Rattle.judge.specs.Telling.{design_run}
use Rattle.model_core.specs.Choices.{AreChoicesFor, ChoicesOf, Plays}
use Rattle.model_core.specs.Shape.{ModelOf}
use Rattle.model_play.specs.Playing.{cycles_of}
use Rattle.sby_terms.specs.declared.names.JobName.{JobName}
use Rattle.sby_terms.specs.declared.span.Span.{Span}
use Rattle.cnf_form.specs.Cnf.{Assignment}
use Rattle.task_net.specs.Net.{TaskNetOf, task_encoded}
use Rattle.judge.proofs.problem.Problem.played.Goals as goal

-- the job as it is encoded, in what is kept
pub decode-requires-clause-job : goal.decode-requires-clause-job
decode-requires-clause-job c =
    let h = c.self.invariant.problem in
    let w = c.requires.satisfying in
    let is = subst (λ (p : AskedOf). IsEncodedOf p c.args.job w.0) (sym c.self.view_is) w.1 in
    let basis = c.self.inside.basis.value in
    job_of_span basis.design basis.model h.design h.model c.self.inside.mode c.self.inside.span is.0.0.0 c.args.job is.0.0.1 is.0.1

-- the choices that the values tell of the job as it is encoded
choices_told : (job : JobName) (span : Span) (x : Assignment) (made net : TaskNetOf) (e : EncodedOf) (c : ChoicesOf) → made ≡ net → e ≡ task_encoded net job span → c ≡ decoded (task_encoded made job span) x → c ≡ decoded e x
choices_told job span x made net e c same is told = told ∙ (ap (λ (t : TaskNetOf). decoded (task_encoded t job span) x) same ∙ ap (λ (e : EncodedOf). decoded e x) (sym is))

pub play-requires-clause-fits : goal.play-requires-clause-fits
play-requires-clause-fits c =
    let w = c.requires.satisfying in
    let is = subst (λ (p : AskedOf). IsEncodedOf p c.args.job w.0) (sym c.self.view_is) w.1 in
    let told = choices_told c.args.job c.self.inside.span (values_of c.args.values.now) c.net-net.result.now c.self.inside.basis.value.net w.0 c.in_ok-choices.choices (c.net-net.ensures ∙ ap (λ (b : BasisOf). b.net) c.deref-basis.ensures) is.1 c.in_ok-choices.ensures in
    let model = c.model-model.ensures ∙ ap (λ (b : BasisOf). b.model) c.deref-basis.ensures in
    subst (λ (m : ModelOf). AreChoicesFor m c.in_ok-choices.choices) (sym model)
    (choices_fit _ c.self.invariant.problem c.args.job c.requires.run w.0 is _ _ told)

pub play-requires-clause-some : goal.play-requires-clause-some
play-requires-clause-some c =
    let w = c.requires.satisfying in
    let is = subst (λ (p : AskedOf). IsEncodedOf p c.args.job w.0) (sym c.self.view_is) w.1 in
    let told = choices_told c.args.job c.self.inside.span (values_of c.args.values.now) c.net-net.result.now c.self.inside.basis.value.net w.0 c.in_ok-choices.choices (c.net-net.ensures ∙ ap (λ (b : BasisOf). b.net) c.deref-basis.ensures) is.1 c.in_ok-choices.ensures in
    some_choices _ c.self.invariant.problem c.args.job c.requires.run w.0 is _ _ told w.2

pub run_of-requires : goal.run_of-requires
run_of-requires c =
    let model = c.model-model.ensures ∙ ap (λ (b : BasisOf). b.model) c.deref-basis.ensures in
    subst (λ (p : AskedOf). All (λ (row : List Bool). length row ≡ p.model.size) c.in_ok-rows.rows) c.self.view_is
    (subst (λ (m : ModelOf). All (λ (row : List Bool). length row ≡ m.size) c.in_ok-rows.rows) model c.in_ok-rows.ensures.rows)

pub returns : goal.returns
returns c =
    let w = c.requires.satisfying in
    let is = subst (λ (p : AskedOf). IsEncodedOf p c.args.job w.0) (sym c.self.view_is) w.1 in
    let told = choices_told c.args.job c.self.inside.span (values_of c.args.values.now) c.net-net.result.now c.self.inside.basis.value.net w.0 c.in_ok-choices.choices (c.net-net.ensures ∙ ap (λ (b : BasisOf). b.net) c.deref-basis.ensures) is.1 c.in_ok-choices.ensures in
    let model = c.model-model.ensures ∙ ap (λ (b : BasisOf). b.model) c.deref-basis.ensures in
    let rows = subst (λ (m : ModelOf). All (λ (row : List Bool). length row ≡ m.size) c.in_ok-rows.rows) model c.in_ok-rows.ensures.rows in
    let plays = subst (λ (m : ModelOf). Plays m c.in_ok-choices.choices (cycles_of c.in_ok-rows.rows)) model c.in_ok-rows.ensures.plays in
    let run = subst (λ (p : AskedOf). c.in_ok-run.run' ≡ design_run p.design c.in_ok-rows.rows) (sym c.self.view_is) c.in_ok-run.ensures in
    subst (λ (p : AskedOf). (e : EncodedOf) × IsEncodedOf p c.args.job e × IsPlayed p e (values_of c.args.values.now) c.in_ok-run.run') c.self.view_is (
      w.0,
      is,
      rw run
          (run_played _ c.self.invariant.problem c.args.job c.requires.run w.0 is (values_of c.args.values.now) c.in_ok-choices.choices told w.2
          c.in_ok-rows.rows _ _ _ refl refl refl rows plays c.in_ok-rows.ensures.cycles),
    )
