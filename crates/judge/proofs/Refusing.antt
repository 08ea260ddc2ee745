-- Where a job has too many variables, and which jobs are encoded before it.
use Rattle.std.proofs.Common.{◌≡◌, ℕ, zero, suc, ◌+◌, ◌*◌, ◌^◌, ◌<◌, ◌≤◌, [], ◌∷◌, length, map, Some, refl, sym, ap, ◌∙◌, subst, arith}
use Rattle.std.proofs.lemmas.List.{length-map}
use Rattle.std.specs.Prelude.{◌↔◌, slice_get}
use Rattle.std.specs.List.{range_with_len}
use Rattle.std.proofs.lemmas.List.FromFn.{length-map-range_with_len}
use Rattle.std.proofs.lemmas.Option.{slice_get_within}
use Rattle.task_net.proofs.Costing.{slice-less}
use Rattle.task_net.proofs.Refusing.{past-frames, task-few}
use Rattle.task_net.specs.Net.{IsTooMany as IsTooManyOf}
use Rattle.task_net.specs.Net.IsTooMany.{Large as LargeOf, Long as LongOf}
use Rattle.model_cone.specs.declared.asked.Asked.TheVariants as ask
use Rattle.model_core.specs.Served.{IsModel}
use Rattle.model_core.specs.Shape.{ModelOf}
use Rattle.frame_net.specs.NetOf.{net_cost}
use Rattle.net_pair.proofs.Fixing.{counted}
use Rattle.design_check.specs.Faults.{IsFlat}
use Rattle.design_core.specs.Shape.{DesignOf, IsDesign}
use Rattle.design_meaning.specs.Meaning.{covers}
use Rattle.job_terms.specs.Jobs.{frames}
use Rattle.model_laws.proofs.Costs.{variables-within}
use Rattle.model_laws.specs.Cost.{cost}
use Rattle.design_meaning.specs.States.{state_bits}
use Rattle.word_model.proofs.Meant.{meant}
use Rattle.word_model.proofs.Models.{modelled}
use Rattle.word_model.proofs.Numbering.{numbers-few}
use Rattle.word_model.specs.Layout.{state_place}
use Rattle.word_model.specs.Model.{IsModelOf}
use Rattle.sby_terms.specs.Span.{IsSpan, slices_of}
use Rattle.sby_terms.specs.declared.names.JobName.{JobName}
use Rattle.sby_terms.specs.declared.names.JobName.TheVariants.{Base, Step, Inv, Cover}
use Rattle.sby_terms.specs.declared.names.Mode.{Mode}
use Rattle.sby_terms.specs.declared.names.Mode.TheVariants.{Bmc, Prove, ProveInv, Cover as CoverMode}
use Rattle.sby_terms.specs.declared.span.Span.{Span}
use Rattle.judge.proofs.Problems.{numbered, numbered-at}
use Rattle.judge.proofs.Sizes.{size-told}
use Rattle.judge.specs.Fault.{IsTooMany}
use Rattle.judge.specs.Refused.{IsRefusedJob}
use Rattle.judge.specs.Refused.IsRefusedJob.{Large, Long}
use Rattle.judge.specs.Jobs.{IsEarlier, jobs_in}

-- a job that is refused, but Inv, is refused so over its net
pub asks-some : (d : DesignOf) (m : ModelOf) (job : JobName) (span : Span) → IsRefusedJob d m job span → (job ≡ Inv → ⊥) → IsTooManyOf m job span
asks-some d m job span (Large h) told = LargeOf h
asks-some d m job span (Long t bits net have past) told = LongOf t net (subst (λ (n : ℕ). 2 ^ 27 < n) (size-told t.net bits job span told) past)

-- a pair that is refused passes twice the bound of a cycle
pair-past : (d : DesignOf) (m : ModelOf) → IsModel m → IsModelOf d m → (span : Span) (most : ℕ) → net_cost m + 5 ≤ most → IsRefusedJob d m Inv span → 2 ^ 27 < 2 * most
pair-past d m is model span most within (Large h) = let l = slice-less m h.keep in let past = h.past in omega (arith, l, past, within)
pair-past d m is model span most within (Long t bits net have past) =
    let few = task-few m is ask.Asserts t net in
    let made = counted t.net bits in
    let size = have.size in
    let numbers = numbers-few d in
    let states = ap length model.states ∙ length-map (state_bits d) (state_place d) in
    omega (arith, few, made, size, numbers, states, within, past)

-- the frames of a job that is refused pass the bound by the design's cost
pub past_cost : (d : DesignOf) (job : JobName) (span : Span) → IsDesign d → IsFlat d → IsSpan span → IsTooMany d job span → 2 ^ 27 < frames job span * cost d
past_cost d job span shape flat is h = by job refl
  where
    within : net_cost h.model + 5 ≤ cost d
    within = let w = variables-within d shape flat h.order h.ordered h.model h.built in omega (arith, w)

    of : IsModel h.model
    of = modelled d shape flat h.order h.ordered h.model h.built

    told : (job ≡ Inv → ⊥) → 2 ^ 27 < frames job span * cost d
    told apart = past-frames h.model of job span is (cost d) within (asks-some d h.model job span h.refused apart)

    by : (j : JobName) → j ≡ job → 2 ^ 27 < frames job span * cost d
    by (Base i) e = told (λ z. let w : Base i ≡ Inv = e ∙ z in cc)
    by Step e = told (λ z. let w : Step ≡ Inv = e ∙ z in cc)
    by (Cover k) e = told (λ z. let w : Cover k ≡ Inv = e ∙ z in cc)
    by Inv e = subst (λ (j : JobName). 2 ^ 27 < frames j span * cost d) e
        (pair-past d h.model of (meant d shape flat h.order h.ordered h.model h.built) span (cost d) within (subst (λ (j : JobName). IsRefusedJob d h.model j span) (sym e) h.refused))

-- a job that comes before another stands at a lower place
pub earlier_at : (mode : Mode) (span : Span) (d : DesignOf) (i : ℕ) (job earlier : JobName) → slice_get (jobs_in mode span d) i ≡ Some job → IsEarlier earlier job
    → (j : ℕ) × (j < i) × (slice_get (jobs_in mode span d) j ≡ Some earlier)
earlier_at Bmc span d i job earlier at is = by earlier (subst (IsEarlier earlier) (numbered Base (slices_of span) 0 i job at) is)
  where
    n : ℕ
    n = slices_of span

    room : i < n
    room = let l = slice_get_within (map Base (range_with_len 0 n)) i job at in omega (arith, l, length-map-range_with_len Base 0 n)

    by : (e : JobName) → IsEarlier e (Base (0 + i)) → (j : ℕ) × (j < i) × (slice_get (map Base (range_with_len 0 n)) j ≡ Some e)
    by (Base k) lt = (k, omega (arith, lt), numbered-at Base n 0 k k (omega (arith, lt, room)) (omega arith))
    by Step lt = absurd lt
    by Inv lt = absurd lt
    by (Cover k) lt = absurd lt
earlier_at Prove span d zero job earlier at is = let h : Base 0 ≡ job = cc in by earlier (subst (IsEarlier earlier) (sym h) is)
  where
    by : (e : JobName) → IsEarlier e (Base 0) → (j : ℕ) × (j < 0) × (slice_get (Base 0 ∷ Step ∷ []) j ≡ Some e)
    by (Base k) lt = absurd (omega (arith, lt))
    by Step lt = absurd lt
    by Inv lt = absurd lt
    by (Cover k) lt = absurd lt
earlier_at Prove span d (suc zero) job earlier at is = let h : Step ≡ job = cc in by earlier (subst (IsEarlier earlier) (sym h) is)
  where
    by : (e : JobName) → IsEarlier e Step → (j : ℕ) × (j < 1) × (slice_get (Base 0 ∷ Step ∷ []) j ≡ Some e)
    by (Base k) zero_is = (0, omega arith, ap (λ (k : ℕ). Some (Base k)) (sym zero_is))
    by Step lt = absurd lt
    by Inv lt = absurd lt
    by (Cover k) lt = absurd lt
earlier_at Prove span d (suc (suc i)) job earlier at is = absurd cc
earlier_at ProveInv span d zero job earlier at is = let h : Base 0 ≡ job = cc in by earlier (subst (IsEarlier earlier) (sym h) is)
  where
    by : (e : JobName) → IsEarlier e (Base 0) → (j : ℕ) × (j < 0) × (slice_get (Base 0 ∷ Inv ∷ []) j ≡ Some e)
    by (Base k) lt = absurd (omega (arith, lt))
    by Step lt = absurd lt
    by Inv lt = absurd lt
    by (Cover k) lt = absurd lt
earlier_at ProveInv span d (suc zero) job earlier at is = let h : Inv ≡ job = cc in by earlier (subst (IsEarlier earlier) (sym h) is)
  where
    by : (e : JobName) → IsEarlier e Inv → (j : ℕ) × (j < 1) × (slice_get (Base 0 ∷ Inv ∷ []) j ≡ Some e)
    by (Base k) zero_is = (0, omega arith, ap (λ (k : ℕ). Some (Base k)) (sym zero_is))
    by Step lt = absurd lt
    by Inv lt = absurd lt
    by (Cover k) lt = absurd lt
earlier_at ProveInv span d (suc (suc i)) job earlier at is = absurd cc
earlier_at CoverMode span d i job earlier at is = by earlier (subst (IsEarlier earlier) (numbered Cover (length (covers d)) 0 i job at) is)
  where
    n : ℕ
    n = length (covers d)

    room : i < n
    room = let l = slice_get_within (map Cover (range_with_len 0 n)) i job at in omega (arith, l, length-map-range_with_len Cover 0 n)

    by : (e : JobName) → IsEarlier e (Cover (0 + i)) → (j : ℕ) × (j < i) × (slice_get (map Cover (range_with_len 0 n)) j ≡ Some e)
    by (Base k) lt = absurd lt
    by Step lt = absurd lt
    by Inv lt = absurd lt
    by (Cover k) lt = (k, omega (arith, lt), numbered-at Cover n 0 k k (omega (arith, lt, room)) (omega arith))

-- a job that comes before another isn't Inv, which is the last
pub earlier_told : (mode : Mode) (span : Span) (d : DesignOf) (j i : ℕ) (earlier job : JobName) → j < i → slice_get (jobs_in mode span d) j ≡ Some earlier → slice_get (jobs_in mode span d) i ≡ Some job → earlier ≡ Inv → ⊥
earlier_told Bmc span d j i earlier job lt at bt is = let h = numbered Base (slices_of span) 0 j earlier at in let z : Base (0 + j) ≡ Inv = sym h ∙ is in cc
earlier_told Prove span d zero i earlier job lt at bt is = let h : Base 0 ≡ earlier = cc in let z : Base 0 ≡ Inv = h ∙ is in cc
earlier_told Prove span d (suc zero) i earlier job lt at bt is = let h : Step ≡ earlier = cc in let z : Step ≡ Inv = h ∙ is in cc
earlier_told Prove span d (suc (suc j)) i earlier job lt at bt is = absurd cc
earlier_told ProveInv span d zero i earlier job lt at bt is = let h : Base 0 ≡ earlier = cc in let z : Base 0 ≡ Inv = h ∙ is in cc
earlier_told ProveInv span d (suc j) zero earlier job lt at bt is = absurd (omega (arith, lt))
earlier_told ProveInv span d (suc j) (suc zero) earlier job lt at bt is = absurd (omega (arith, lt))
earlier_told ProveInv span d (suc j) (suc (suc i)) earlier job lt at bt is = absurd cc
earlier_told CoverMode span d j i earlier job lt at bt is = let h = numbered Cover (length (covers d)) 0 j earlier at in let z : Cover (0 + j) ≡ Inv = sym h ∙ is in cc

-- the order of the jobs is that of their places
pub in_order : (mode : Mode) (span : Span) (d : DesignOf) (i j : ℕ) (earlier job : JobName) → slice_get (jobs_in mode span d) i ≡ Some earlier → slice_get (jobs_in mode span d) j ≡ Some job
    → (i < j) ↔ IsEarlier earlier job
in_order Bmc span d i j earlier job at bt =
    let e = numbered Base (slices_of span) 0 i earlier at in
    let f = numbered Base (slices_of span) 0 j job bt in
    rw (e, f) (λ lt. omega (arith, lt), λ lt. omega (arith, lt))
in_order Prove span d zero zero earlier job at bt =
    let e : Base 0 ≡ earlier = cc in
    let f : Base 0 ≡ job = cc in
    rw (← e, ← f) (λ lt. lt, λ lt. lt)
in_order Prove span d zero (suc zero) earlier job at bt =
    let e : Base 0 ≡ earlier = cc in
    let f : Step ≡ job = cc in
    rw (← e, ← f) (λ lt. refl, λ is. omega arith)
in_order Prove span d (suc zero) zero earlier job at bt =
    let e : Step ≡ earlier = cc in
    let f : Base 0 ≡ job = cc in
    rw (← e, ← f) (λ lt. absurd (omega (arith, lt)), λ is. absurd is)
in_order Prove span d (suc zero) (suc zero) earlier job at bt =
    let e : Step ≡ earlier = cc in
    let f : Step ≡ job = cc in
    rw (← e, ← f) (λ lt. absurd (omega (arith, lt)), λ is. absurd is)
in_order Prove span d (suc (suc i)) j earlier job at bt = absurd cc
in_order Prove span d zero (suc (suc j)) earlier job at bt = absurd cc
in_order Prove span d (suc zero) (suc (suc j)) earlier job at bt = absurd cc
in_order ProveInv span d zero zero earlier job at bt =
    let e : Base 0 ≡ earlier = cc in
    let f : Base 0 ≡ job = cc in
    rw (← e, ← f) (λ lt. lt, λ lt. lt)
in_order ProveInv span d zero (suc zero) earlier job at bt =
    let e : Base 0 ≡ earlier = cc in
    let f : Inv ≡ job = cc in
    rw (← e, ← f) (λ lt. refl, λ is. omega arith)
in_order ProveInv span d (suc zero) zero earlier job at bt =
    let e : Inv ≡ earlier = cc in
    let f : Base 0 ≡ job = cc in
    rw (← e, ← f) (λ lt. absurd (omega (arith, lt)), λ is. absurd is)
in_order ProveInv span d (suc zero) (suc zero) earlier job at bt =
    let e : Inv ≡ earlier = cc in
    let f : Inv ≡ job = cc in
    rw (← e, ← f) (λ lt. absurd (omega (arith, lt)), λ is. absurd is)
in_order ProveInv span d (suc (suc i)) j earlier job at bt = absurd cc
in_order ProveInv span d zero (suc (suc j)) earlier job at bt = absurd cc
in_order ProveInv span d (suc zero) (suc (suc j)) earlier job at bt = absurd cc
in_order CoverMode span d i j earlier job at bt =
    let e = numbered Cover (length (covers d)) 0 i earlier at in
    let f = numbered Cover (length (covers d)) 0 j job bt in
    rw (e, f) (λ lt. omega (arith, lt), λ lt. omega (arith, lt))
