use Rattle.std.specs.Prelude.{Option}
use Rattle.std.proofs.Common.{◌∙◌, List, ℕ, ap, length, subst, sym}
use Rattle.design_core.specs.Shape.{DesignOf}
use Rattle.design_reader.specs.Grammar.{Reads}
use Rattle.model_cone.specs.declared.asked.Asked.{Asked}
use Rattle.model_core.specs.Shape.{ModelOf}
use Rattle.net_pair.specs.Numbers.{HaveStates}
use Rattle.sby_terms.specs.declared.names.JobName.{JobName}
use Rattle.task_net.specs.Net.{IsTaskNet, TaskNetOf}
use Rattle.word_model.specs.Numbers.{numbered_places}
use Rattle.judge.proofs.Encodes.{stored, too_many}
use Rattle.judge.specs.Basis.{BasisOf, IsBasis}
use Rattle.judge.specs.Jobs.{jobs_in}
use Rattle.judge.specs.Stored.{FitUpTo, IsRefusedAmong}
use Rattle.judge.proofs.problem.Problem.over.Goals as goal

pub first_unfit-requires-clause-bits : goal.first_unfit-requires-clause-bits
first_unfit-requires-clause-bits c =
    let b = c.deref-made.result.now in
    subst (λ (d : DesignOf). HaveStates c.net-net.result.now.states (numbered_places d) c.bits-bits.result.now) (sym c.flat-flat.ensures.flat)
    (subst (λ (t : TaskNetOf). HaveStates t.states (numbered_places b.design) c.bits-bits.result.now) (sym c.net-net.ensures)
    (subst (λ (bits : List (Option ℕ)). HaveStates b.net.states (numbered_places b.design) bits) (sym c.bits-bits.ensures) c.flat-flat.ensures.basis.bits))

pub returns-in-Some : goal.returns-in-Some
returns-in-Some c =
    let b = c.args.basis.value in
    let made = c.deref-made.ensures in
    let h = subst (λ (x : BasisOf). IsBasis x) made c.flat-flat.ensures.basis in
    let flat = c.flat-flat.ensures.flat ∙ ap (λ (x : BasisOf). x.design) made in
    let model = c.model-model.ensures ∙ ap (λ (x : BasisOf). x.model) made in
    let names = c.as_slice.ensures.value ∙ c.in_ok-names.ensures in
    let refused = rw c.in-Some.is at c.in_ok-unfit.ensures.some in
    let over_names = subst (λ (js : List JobName). IsRefusedAmong c.flat-flat.result.now c.model-model.result.now c.args.span js c.in-Some.job) names refused in
    let over_model = subst (λ (m : ModelOf). IsRefusedAmong c.flat-flat.result.now m c.args.span (jobs_in c.args.mode c.args.span c.flat-flat.result.now) c.in-Some.job) model over_names in
    record {
      problem = too_many b.design b.model h.built (record { text = b.text; mode = c.args.mode; span = c.args.span }) c.in-Some.job c.requires.span h.reads h.flat
          (subst (λ (d : DesignOf). IsRefusedAmong d b.model c.args.span (jobs_in c.args.mode c.args.span d) c.in-Some.job) flat over_model);
    }

pub invariant_of-problem : goal.invariant_of-problem
invariant_of-problem c =
    let b = c.args.basis.value in
    let made = c.deref-made.ensures in
    let h = subst (λ (x : BasisOf). IsBasis x) made c.flat-flat.ensures.basis in
    let flat = c.flat-flat.ensures.flat ∙ ap (λ (x : BasisOf). x.design) made in
    let net = c.net-net.ensures ∙ ap (λ (x : BasisOf). x.net) made in
    let bits = c.bits-bits.ensures ∙ ap (λ (x : BasisOf). x.bits) made in
    let text = c.in_ok-text.ensures ∙ (c.text.ensures ∙ ap (λ (x : BasisOf). x.text) made) in
    let fits = subst (λ (names : List JobName). FitUpTo c.net-net.result.now c.bits-bits.result.now c.args.span names (length names)) c.as_slice.ensures.value (rw c.in_default.is at c.in_ok-unfit.ensures.none) in
    stored c.in_ok-text.text c.args.mode c.args.span b.design b.model b.shape b.net b.bits c.in_ok-names.names.items (record { is_span = c.requires.span; most = c.requires.most; one = c.requires.mode })
    (subst (λ (bytes : List ℕ). Reads bytes b.design) (sym text) h.reads)
    (λ e r. h.only e (subst (λ (bytes : List ℕ). Reads bytes e) text r)) h.flat h.built h.shape
    (c.in_ok-names.ensures ∙ ap (λ (d : DesignOf). jobs_in c.args.mode c.args.span d) flat)
    (subst (λ (a : Asked). IsTaskNet b.model a b.net) c.requires.asked h.net)
    h.bits
    (subst (λ (t : TaskNetOf). FitUpTo t b.bits c.args.span c.in_ok-names.names.items (length c.in_ok-names.names.items)) net
    (subst (λ (bits : List (Option ℕ)). FitUpTo c.net-net.result.now bits c.args.span c.in_ok-names.names.items (length c.in_ok-names.names.items)) bits fits))
