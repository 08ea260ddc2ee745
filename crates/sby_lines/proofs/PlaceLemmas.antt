-- Jobs by their places, and lists by places.
use Rattle.std.proofs.Common.{◌≡◌, ℕ, zero, suc, ◌+◌, ◌<◌, ◌≤◌, ◌^◌, List, [], ◌∷◌, refl, ap, sym, ◌∙◌, length, drop, map, arith}
use Rattle.std.specs.Prelude.{Some, Contains, not, slice_get}
use Rattle.std.specs.List.{range_with_len}
use Rattle.std.proofs.lemmas.List.{length-map}
use Rattle.std.proofs.lemmas.Option.{get_or_from_slice_get, slice_get-get_or, slice_get_within}
use Rattle.std.proofs.lemmas.List.Filters.{length-filter_both}
use Rattle.std.proofs.lemmas.List.FromFn.{length-range_with_len}
use Rattle.design_core.specs.Shape.{CellOf, DesignOf, IsDesign}
use Rattle.design_meaning.specs.Meaning.{covers, is_cover}
use Rattle.judge.specs.Jobs.{jobs_in}
use Rattle.race_core.specs.Asking.{name_at}
use Rattle.sby_terms.specs.Span.{slices_of}
use Rattle.sby_terms.specs.declared.names.JobName.{JobName}
use Rattle.sby_terms.specs.declared.names.JobName.TheVariants.{Base, Cover}
use Rattle.sby_terms.specs.declared.names.Mode.{Mode}
use Rattle.sby_terms.specs.declared.names.Mode.TheVariants.{Bmc, Prove, ProveInv, Cover as CoverMode}
use Rattle.sby_terms.specs.declared.span.Span.{Span}
use Rattle.sby_lines.specs.Jobs.{HasJobs}

-- ---- lists by their places

drop_suc : {X : Type 0} (xs : List X) (n : ℕ) (x : X) → slice_get xs n ≡ Some x → drop n xs ≡ x ∷ drop (suc n) xs
drop_suc [] n x is = cc
drop_suc (y ∷ ys) zero x is = let same : y ≡ x = cc in ap (λ z. z ∷ ys) same
drop_suc (y ∷ ys) (suc n) x is = drop_suc ys n x is

pub drop_at : {X : Type 0} (xs : List X) (n : ℕ) (x : X) → slice_get xs n ≡ Some x → drop n xs ≡ x ∷ drop (n + 1) xs
drop_at xs n x is = let next : suc n ≡ n + 1 = omega arith in drop_suc xs n x is ∙ ap (λ k. x ∷ drop k xs) next

-- where a member stands
pub contains_at : {X : Type 0} (xs : List X) (x : X) (c : Contains xs x) → slice_get xs c.0 ≡ Some x
contains_at xs x c = slice_get-get_or xs c.0 x c.1 ∙ ap Some c.2

pub at_contains : {X : Type 0} (xs : List X) (k : ℕ) (x : X) → slice_get xs k ≡ Some x → Contains xs x
at_contains xs k x is = (k, slice_get_within xs k x is, get_or_from_slice_get xs k x x is)

-- ---- the jobs

named_from : (f : ℕ → JobName) (n a k : ℕ) → k < n → slice_get (map f (range_with_len a n)) k ≡ Some (f (a + k))
named_from f zero a k lt = absurd (omega (arith, lt))
named_from f (suc n) a zero lt = let same : a ≡ a + 0 = omega arith in ap (λ i. Some (f i)) same
named_from f (suc n) a (suc k) lt = let same : (a + 1) + k ≡ a + suc k = omega arith in named_from f n (a + 1) k (omega (arith, lt)) ∙ ap (λ i. Some (f i)) same

named_count : (f : ℕ → JobName) (n : ℕ) → length (map f (range_with_len 0 n)) ≡ n
named_count f n = length-map (range_with_len 0 n) f ∙ length-range_with_len 0 n

-- the job at a place has the name of that place
pub job_named : (mode : Mode) (span : Span) (d : DesignOf) (k : ℕ) → k < length (jobs_in mode span d) → slice_get (jobs_in mode span d) k ≡ Some (name_at mode k)
job_named Bmc span d k lt = let same : 0 + k ≡ k = omega arith in named_from Base (slices_of span) 0 k (omega (arith, lt, named_count Base (slices_of span))) ∙ ap (λ i. Some (Base i)) same
job_named Prove span d zero lt = refl
job_named Prove span d (suc zero) lt = refl
job_named Prove span d (suc (suc k)) lt = absurd (omega (arith, lt))
job_named ProveInv span d zero lt = refl
job_named ProveInv span d (suc zero) lt = refl
job_named ProveInv span d (suc (suc k)) lt = absurd (omega (arith, lt))
job_named CoverMode span d k lt = let same : 0 + k ≡ k = omega arith in named_from Cover (length (covers d)) 0 k (omega (arith, lt, named_count Cover (length (covers d)))) ∙ ap (λ i. Some (Cover i)) same

pub has_jobs : (mode : Mode) (span : Span) (d : DesignOf) (count : ℕ) → count ≤ length (jobs_in mode span d) → HasJobs mode count (jobs_in mode span d)
has_jobs mode span d count fits = record { enough = fits; named = job_named mode span d }

pub slice_count : (span : Span) (d : DesignOf) → length (jobs_in Bmc span d) ≡ slices_of span
slice_count span d = named_count Base (slices_of span)

pub cover_count : (span : Span) (d : DesignOf) → length (jobs_in CoverMode span d) ≡ length (covers d)
cover_count span d = named_count Cover (length (covers d))

pub few_covers : (d : DesignOf) → IsDesign d → length (covers d) ≤ 2 ^ 27
few_covers d is =
    let both = length-filter_both (λ (c : CellOf). is_cover c.kind) (λ c. not (is_cover c.kind)) (λ c. refl) d.cells in
    omega (arith, both, is.few_cells)

-- the name of a place of cover is that of the statement
pub cover_name : (mode : Mode) (k : ℕ) → mode ≡ CoverMode → name_at mode k ≡ Cover k
cover_name mode k is = ap (λ m. name_at m k) is

pub slice_length : (mode : Mode) (span : Span) (d : DesignOf) → mode ≡ Bmc → length (jobs_in mode span d) ≡ slices_of span
slice_length mode span d is = ap (λ m. length (jobs_in m span d)) is ∙ slice_count span d

pub cover_length : (mode : Mode) (span : Span) (d other : DesignOf) → mode ≡ CoverMode → other ≡ d → length (jobs_in mode span d) ≡ length (covers other)
cover_length mode span d other is same = ap (λ m. length (jobs_in m span d)) is ∙ cover_count span d ∙ ap (λ x. length (covers x)) (sym same)
