-- The model of a design, and its jobs as they are encoded.
use Rattle.std.proofs.Common.{◌≡◌, ◌⊎◌, inl, inr, ℕ, zero, suc, ◌+◌, ◌-◌, ◌^◌, ◌<◌, ◌≤◌, List, [], ◌∷◌, length, map, Some, refl, sym, ap, subst, arith}
use Rattle.std.specs.Prelude.{Option, slice_get}
use Rattle.std.proofs.lemmas.List.FromFn.{length-map-range_with_len}
use Rattle.std.proofs.lemmas.List.Sums.{count_by-le-length, length-filter}
use Rattle.std.proofs.lemmas.Option.{slice_get_within}
use Rattle.std.specs.List.{range_with_len}
use Rattle.design_check.specs.Faults.{IsFlat}
use Rattle.design_core.specs.Shape.{CellOf, DesignOf, IsDesign}
use Rattle.design_meaning.specs.Meaning.{covers, is_cover}
use Rattle.design_reader.specs.Grammar.{Reads}
use Rattle.job_terms.specs.Encoding.{EncodedOf}
use Rattle.job_terms.specs.Jobs.{IsJob as IsJobOf}
use Rattle.model_cone.specs.declared.asked.Asked.{Asked}
use Rattle.model_core.specs.Served.{IsModel}
use Rattle.model_core.specs.Shape.{ModelOf}
use Rattle.net_jobs.specs.Jobs.{IsOfSpan, job_made}
use Rattle.word_model.specs.Model.{IsModelOf}
use Rattle.sby_terms.specs.Problem.{ProblemOf}
use Rattle.sby_terms.specs.Span.{IsSpan, slices_of}
use Rattle.sby_terms.specs.declared.names.JobName.{JobName}
use Rattle.sby_terms.specs.declared.names.JobName.TheVariants.{Base, Step, Inv, Cover}
use Rattle.sby_terms.specs.declared.names.Mode.{Mode}
use Rattle.sby_terms.specs.declared.names.Mode.TheVariants.{Bmc, Prove, ProveInv, Cover as CoverMode}
use Rattle.sby_terms.specs.declared.span.Span.{Span}
use Rattle.task_net.proofs.Encoded.{task-encoded}
use Rattle.task_net.proofs.Refusing.{refused-asks}
use Rattle.task_net.specs.Asking.{asked_of}
use Rattle.task_net.specs.Net.{HasNone, IsEncodedJob as IsEncodedOver, IsTaskNet, IsTooLarge, TaskNetOf, task_encoded}
use Rattle.judge.specs.Refused.IsRefusedJob.{Large, Long}
use Rattle.net_pair.specs.Numbers.{HaveStates}
use Rattle.word_model.specs.Numbers.{numbered_places}
use Rattle.judge.proofs.Carrying.{asks-from, solvable-from, solvable-to}
use Rattle.judge.proofs.Problems.{numbered}
use Rattle.judge.proofs.Refusing.{asks-some, earlier_at, earlier_told, past_cost}
use Rattle.judge.proofs.Sizes.{is_inv, size-told}
use Rattle.judge.proofs.Slices.{slices-some}
use Rattle.judge.specs.Fault.{IsProblemFault, IsTooMany}
use Rattle.judge.specs.Jobs.{AsksNothing, IsSpanFor, jobs_in, jobs_of, span_of}
use Rattle.judge.specs.Problem.{AskedOf, IsEncodedJob, IsEncodedOf, IsShapeOf, IsProblem, IsTold, ShapeOf, asked_in, job_size}
use Rattle.judge.specs.Stored.{FitUpTo, IsBuiltFor, IsRefusedAmong, IsStored, asked_by}
use Rattle.judge.specs.declared.problem.ProblemFault.TheVariants.{TooMany}

module _ (d : DesignOf) (m : ModelOf) (built : IsBuiltFor d m) where
  pub covers_few : length m.covers < 2 ^ 32
  covers_few =
      omega
      (arith, built.model.covers, built.design.few_cells, length-filter (λ (c : CellOf). is_cover c.kind) d.cells, count_by-le-length (λ (c : CellOf). is_cover c.kind) d.cells)

module _ (d : DesignOf) (m : ModelOf) (design : IsDesign d) (model : IsModelOf d m) where
  -- what is promised of a job of the model is promised of the design's
  pub encoded_job : (job : JobName) (span : Span) (e : EncodedOf) → IsEncodedOver m job span e → IsEncodedJob d m job span e
  encoded_job job span e h = record {
    speaks = (λ s. solvable-to d m model job span (h.speaks.0 s), λ s. h.speaks.1 (solvable-from d m model design job span s));
    vars = h.vars;
    propagates = h.propagates;
    origins = h.origins;
    empty = λ none. h.empty (asks-from d m model job none);
    choices = h.choices;
    decodes = h.decodes;
  }

  -- a job of a mode, but Inv, is one of the model, over the span
  pub job_fits : (mode : Mode) (span : Span) (i : ℕ) (job : JobName) → slice_get (jobs_in mode span d) i ≡ Some job → (job ≡ Inv → ⊥) → IsJobOf m job span
  job_fits Bmc span i job at told =
      let h : job ≡ Base (0 + i) = numbered Base (slices_of span) 0 i job at in
      let room : i < length (map Base (range_with_len 0 (slices_of span))) = slice_get_within (map Base (range_with_len 0 (slices_of span))) i job at in
      let below : 0 + i < slices_of span = omega (arith, room, length-map-range_with_len Base 0 (slices_of span)) in
      subst (λ (j : JobName). IsJobOf m j span) (sym h) below
  job_fits Prove span zero job at told = let h : Base 0 ≡ job = cc in subst (λ (j : JobName). IsJobOf m j span) h (slices-some (span.depth - span.skip) span.stride)
  job_fits Prove span (suc zero) job at told = let h : Step ≡ job = cc in subst (λ (j : JobName). IsJobOf m j span) h tt
  job_fits Prove span (suc (suc i)) job at told = absurd cc
  job_fits ProveInv span zero job at told = let h : Base 0 ≡ job = cc in subst (λ (j : JobName). IsJobOf m j span) h (slices-some (span.depth - span.skip) span.stride)
  job_fits ProveInv span (suc zero) job at told = let h : Inv ≡ job = cc in absurd (told (sym h))
  job_fits ProveInv span (suc (suc i)) job at told = absurd cc
  job_fits CoverMode span i job at told =
      let h : job ≡ Cover (0 + i) = numbered Cover (length (covers d)) 0 i job at in
      let room : i < length (map Cover (range_with_len 0 (length (covers d)))) = slice_get_within (map Cover (range_with_len 0 (length (covers d)))) i job at in
      let below : 0 + i < length m.covers = omega (arith, room, length-map-range_with_len Cover 0 (length (covers d)), model.covers) in
      subst (λ (j : JobName). IsJobOf m j span) (sym h) below

  pub job_of_span : (mode : Mode) (span : Span) (i : ℕ) (job : JobName) → slice_get (jobs_in mode span d) i ≡ Some job → (job ≡ Inv → ⊥) → IsOfSpan job span
  job_of_span mode span i job at told = by job (job_fits mode span i job at told)
    where
      by : (job : JobName) → IsJobOf m job span → IsOfSpan job span
      by (Base k) h = h
      by Step h = tt
      by Inv h = h
      by (Cover k) h = tt

  -- a job is made of cycles told one after the other, or is Inv
  pub told_or_not : (mode : Mode) (span : Span) (i : ℕ) (job : JobName) → slice_get (jobs_in mode span d) i ≡ Some job → IsOfSpan job span ⊎ (job ≡ Inv)
  told_or_not mode span i job at = elim (is_inv job) [ inl e ↦ inr e | inr told ↦ inl (job_of_span mode span i job at told) ]

  -- a job asks what its mode asks
  pub asks_alike : (mode : Mode) (span : Span) (i : ℕ) (job : JobName) → slice_get (jobs_in mode span d) i ≡ Some job → asked_in mode ≡ asked_of job
  asks_alike Bmc span i job at = ap asked_of (sym (numbered Base (slices_of span) 0 i job at))
  asks_alike Prove span zero job at = let h : Base 0 ≡ job = cc in ap asked_of h
  asks_alike Prove span (suc zero) job at = let h : Step ≡ job = cc in ap asked_of h
  asks_alike Prove span (suc (suc i)) job at = absurd cc
  asks_alike ProveInv span zero job at = let h : Base 0 ≡ job = cc in ap asked_of h
  asks_alike ProveInv span (suc zero) job at = let h : Inv ≡ job = cc in ap asked_of h
  asks_alike ProveInv span (suc (suc i)) job at = absurd cc
  asks_alike CoverMode span i job at = ap asked_of (sym (numbered Cover (length (covers d)) 0 i job at))

  -- each job that fits is encoded
  module _ (is : IsModel m) (mode : Mode) (span : Span) (t : TaskNetOf) (net : IsTaskNet m (asked_in mode) t) (i : ℕ) (job : JobName) (at : slice_get (jobs_in mode span d) i ≡ Some job) where
    pub net_of_job : IsTaskNet m (asked_of job) t
    net_of_job = subst (λ (a : Asked). IsTaskNet m a t) (asks_alike mode span i job at) net

    pub job_encoded : (job ≡ Inv → ⊥) → job_made t.net job span ≤ 2 ^ 27 → IsEncodedJob d m job span (task_encoded t job span)
    job_encoded told few = encoded_job job span (task_encoded t job span) (task-encoded m t job span is net_of_job (job_fits mode span i job at told) few)

  -- where something is asked there is a job
  pub some_jobs : (mode : Mode) (span : Span) → (HasNone m (asked_in mode) → ⊥) → 0 < length (jobs_in mode span d)
  some_jobs Bmc span asks = omega (arith, length-map-range_with_len Base 0 (slices_of span), slices-some (span.depth - span.skip) span.stride)
  some_jobs Prove span asks = omega arith
  some_jobs ProveInv span asks = omega arith
  some_jobs CoverMode span asks = omega (arith, length-map-range_with_len Cover 0 (length (covers d)), model.covers, some m.covers asks)
    where
      some : {A : Type 0} (xs : List A) → (xs ≡ [] → ⊥) → 0 < length xs
      some [] none = absurd (none refl)
      some (x ∷ xs) none = omega arith

-- such a job of a problem fits
pub told-fits : (p : AskedOf) → IsProblem p → (job : JobName) → IsTold p job → job_made p.net.net job (span_of p.problem) ≤ 2 ^ 27
told-fits p h job w = subst (λ (n : ℕ). n ≤ 2 ^ 27) (size-told p.net.net p.bits job (span_of p.problem) w.1) (h.fits job w.0)

-- each job of a problem, but Inv, is encoded
pub encodes : (p : AskedOf) → IsProblem p → (job : JobName) (e : EncodedOf) → IsEncodedOf p job e → IsEncodedJob p.design p.model job (span_of p.problem) e
encodes p h job e (w, same) =
    subst (λ (z : EncodedOf). IsEncodedJob p.design p.model job (span_of p.problem) z) (sym same)
    (job_encoded p.design p.model h.design h.model h.is_model p.problem.mode (span_of p.problem) p.net h.net w.0.0 job w.0.1 w.1 (told-fits p h job w))

-- a job that is refused is a fault of the problem
pub too_many : (d : DesignOf) (m : ModelOf) → IsBuiltFor d m → (p : ProblemOf) (job : JobName) → IsSpan (span_of p) → Reads p.text d → IsFlat d → IsRefusedAmong d m (span_of p) (jobs_of p d) job
    → IsProblemFault p (TooMany job)
too_many d m built p job is reads flat h =
    let refused : IsTooMany d job (span_of p) = record {
      asks = λ none. elim (is_inv job) [
        | inl e ↦ absurd (subst (AsksNothing d) e none)
        | inr told ↦ refused-asks m job (span_of p) (asks-some d m job (span_of p) h.refused told) (asks-from d m built.model job none)
      ];
      order = built.built.0;
      model = m;
      ordered = built.built.1;
      built = built.built.2;
      refused = h.refused;
      before = λ earlier is_earlier.
          let w = earlier_at p.mode (span_of p) d h.place job earlier h.at is_earlier in
          h.before w.0 earlier w.1 w.2;
    } in
    (d, reads, flat, (h.place, h.at), refused, past_cost d job (span_of p) built.design flat is refused)

module _ (d : DesignOf) (m : ModelOf) (built : IsBuiltFor d m) (mode : Mode) (span : Span) where
  -- the first job doesn't fit where one cycle is too large
  pub refused_first : (job : JobName) → slice_get (jobs_in mode span d) 0 ≡ Some job → IsTooLarge m (asked_in mode) → IsRefusedAmong d m span (jobs_in mode span d) job
  refused_first job at large = record {
    place = 0;
    at = at;
    refused = Large (subst (λ (a : Asked). IsTooLarge m a) (asks_alike d m built.design built.model mode span 0 job at) large);
    before = λ i earlier lt. absurd (omega (arith, lt));
  }

  -- the next doesn't fit, and all before it do
  pub refused_next : (t : TaskNetOf) (bits : List (Option ℕ)) → IsTaskNet m (asked_in mode) t → HaveStates t.states (numbered_places d) bits → (i : ℕ) (job : JobName) → slice_get (jobs_in mode span d) i ≡ Some job
      → 2 ^ 27 < job_size t.net bits job span → FitUpTo t bits span (jobs_in mode span d) i → IsRefusedAmong d m span (jobs_in mode span d) job
  refused_next t bits net have i job at past fit = record {
    place = i;
    at = at;
    refused = Long t bits (net_of_job d m built.design built.model built.is_model mode span t net i job at) have past;
    before = λ j earlier lt here. (
      task_encoded t earlier span,
      job_encoded d m built.design built.model built.is_model mode span t net j earlier here (earlier_told mode span d j i earlier job lt here at)
          (subst (λ (n : ℕ). n ≤ 2 ^ 27) (size-told t.net bits earlier span (earlier_told mode span d j i earlier job lt here at)) (fit j earlier lt here)),
    );
  }

pub fit_none : (t : TaskNetOf) (bits : List (Option ℕ)) (span : Span) (names : List JobName) → FitUpTo t bits span names 0
fit_none t bits span names i job lt at = absurd (omega (arith, lt))

pub fit_more : (t : TaskNetOf) (bits : List (Option ℕ)) (span : Span) (names : List JobName) (k : ℕ) (job : JobName) → slice_get names k ≡ Some job → job_size t.net bits job span ≤ 2 ^ 27 → FitUpTo t bits span names k → FitUpTo t bits span names (k + 1)
fit_more t bits span names k job at few fit i other lt here = by (nat_case i k (omega (arith, lt)))
  where
    nat_case : (i k : ℕ) → i ≤ k → (i < k) ⊎ (i ≡ k)
    nat_case zero zero l = inr refl
    nat_case zero (suc k) l = inl (omega arith)
    nat_case (suc i) zero l = absurd (omega (arith, l))
    nat_case (suc i) (suc k) l = elim (nat_case i k (omega (arith, l))) as (λ _. (suc i < suc k) ⊎ (suc i ≡ suc k)) [
      | inl h ↦ inl (omega (arith, h))
      | inr e ↦ inr (ap suc e)
    ]

    by : (i < k) ⊎ (i ≡ k) → job_size t.net bits other span ≤ 2 ^ 27
    by (inl l) = fit i other l here
    by (inr e) =
        let there : slice_get names k ≡ Some other = subst (λ (n : ℕ). slice_get names n ≡ Some other) e here in
        let same : job ≡ other = let a = at in let b = there in cc in
        subst (λ (j : JobName). job_size t.net bits j span ≤ 2 ^ 27) same few

-- the problem of a design that is read and flat, whose jobs all fit
pub stored : (text : List ℕ) (mode : Mode) (span : Span) (d : DesignOf) (m : ModelOf) (shape : ShapeOf) (t : TaskNetOf) (bits : List (Option ℕ)) (names : List JobName) → IsSpanFor mode span → Reads text d → ((e : DesignOf) → Reads text e → e ≡ d) → IsFlat d
    → IsBuiltFor d m → IsShapeOf d m shape → names ≡ jobs_in mode span d → IsTaskNet m (asked_in mode) t → HaveStates t.states (numbered_places d) bits → FitUpTo t bits span names (length names) → IsStored (asked_by text mode span d m shape t bits) names
stored text mode span d m shape t bits names fits reads only flat built shaped named net have fit = record {
  problem = record {
    span = fits;
    reads = reads;
    only = only;
    design = built.design;
    flat = flat;
    is_model = built.is_model;
    built = built.built;
    model = built.model;
    shape = shaped;
    net = net;
    bits = have;
    fits = λ job w.
        let at : slice_get names w.0 ≡ Some job = subst (λ (ns : List JobName). slice_get ns w.0 ≡ Some job) (sym named) w.1 in
        fit w.0 job (slice_get_within names w.0 job at) at;
  };
  names = named;
}
