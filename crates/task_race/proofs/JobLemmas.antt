-- The jobs of a task, by their places.
use Rattle.std.proofs.Common.{◌≡◌, ℕ, zero, suc, ◌+◌, ◌<◌, ◌≤◌, ◌^◌, length, map, refl, ap, ◌∙◌, arith}
use Rattle.std.specs.Prelude.{Some, not, slice_get}
use Rattle.std.specs.List.{range_with_len}
use Rattle.std.proofs.lemmas.List.{length-map}
use Rattle.std.proofs.lemmas.List.Filters.{length-filter_both}
use Rattle.std.proofs.lemmas.List.FromFn.{length-range_with_len}
use Rattle.design_core.specs.Shape.{CellOf, DesignOf, IsDesign}
use Rattle.design_meaning.specs.Meaning.{covers, is_cover}
use Rattle.judge.specs.Jobs.{jobs_in, jobs_of}
use Rattle.judge.specs.Problem.{AskedOf, IsProblem}
use Rattle.race_core.specs.Asking.{name_at}
use Rattle.sby_terms.specs.Span.{IsSpan, slices_of}
use Rattle.sby_terms.specs.declared.names.JobName.{JobName}
use Rattle.sby_terms.specs.declared.names.JobName.TheVariants.{Base, Cover}
use Rattle.sby_terms.specs.declared.names.Mode.{Mode}
use Rattle.sby_terms.specs.declared.names.Mode.TheVariants.{Bmc, Prove, ProveInv, Cover as CoverMode}
use Rattle.sby_terms.specs.declared.span.Span.{Span}

named_from : (f : ℕ → JobName) (n a k : ℕ) → k < n → slice_get (map f (range_with_len a n)) k ≡ Some (f (a + k))
named_from f zero a k lt = absurd (omega (arith, lt))
named_from f (suc n) a zero lt = let same : a ≡ a + 0 = omega arith in ap (λ i. Some (f i)) same
named_from f (suc n) a (suc k) lt = let same : (a + 1) + k ≡ a + suc k = omega arith in named_from f n (a + 1) k (omega (arith, lt)) ∙ ap (λ i. Some (f i)) same

named_count : (f : ℕ → JobName) (n : ℕ) → length (map f (range_with_len 0 n)) ≡ n
named_count f n = length-map (range_with_len 0 n) f ∙ length-range_with_len 0 n

-- the job at a place has the name of that place
pub job_named : (mode : Mode) (span : Span) (d : DesignOf) (k : ℕ) → k < length (jobs_in mode span d) → slice_get (jobs_in mode span d) k ≡ Some (name_at mode k)
job_named Bmc span d k lt = let same : 0 + k ≡ k = omega arith in named_from Base (slices_of span) 0 k (omega (arith, lt, named_count Base (slices_of span))) ∙ ap (λ i. Some (Base i)) same
job_named Prove span d zero lt = refl
job_named Prove span d (suc zero) lt = refl
job_named Prove span d (suc (suc k)) lt = absurd (omega (arith, lt))
job_named ProveInv span d zero lt = refl
job_named ProveInv span d (suc zero) lt = refl
job_named ProveInv span d (suc (suc k)) lt = absurd (omega (arith, lt))
job_named CoverMode span d k lt = let same : 0 + k ≡ k = omega arith in named_from Cover (length (covers d)) 0 k (omega (arith, lt, named_count Cover (length (covers d)))) ∙ ap (λ i. Some (Cover i)) same

few_covers : (d : DesignOf) → IsDesign d → length (covers d) ≤ 2 ^ 27
few_covers d is =
    let both = length-filter_both (λ (c : CellOf). is_cover c.kind) (λ c. not (is_cover c.kind)) (λ c. refl) d.cells in
    omega (arith, both, is.few_cells)

few_in : (mode : Mode) (span : Span) (d : DesignOf) → IsSpan span → IsDesign d → length (jobs_in mode span d) ≤ 2 ^ 27
few_in Bmc span d is design = omega (arith, named_count Base (slices_of span), is.few)
few_in Prove span d is design = omega arith
few_in ProveInv span d is design = omega arith
few_in CoverMode span d is design = omega (arith, named_count Cover (length (covers d)), few_covers d design)

pub few_jobs : (p : AskedOf) → IsProblem p → length (jobs_of p.problem p.design) ≤ 2 ^ 27
few_jobs p is = few_in p.problem.mode p.problem.span p.design is.span.is_span is.design
