-- The slices of a span, and what bmc over them shows.
use Rattle.std.proofs.Common.{◌≡◌, ℕ, ◌+◌, ◌-◌, ◌*◌, ◌/◌, ◌%◌, ◌<◌, ◌≤◌, Contains, Some, None, sym, subst, arith}
use Rattle.std.specs.Prelude.{Option}
use Rattle.std.proofs.Math.Nat.{div-mul-le_self, le-div_iff_mul-le, mod-lt}
use Rattle.std.proofs.lemmas.Nat.{div-add-mod'}
use Rattle.design_core.specs.Shape.{DesignOf}
use Rattle.design_core.proofs.Lists.{Contains-from_place, place-from_Contains}
use Rattle.design_meaning.specs.Claims.{NoBreak}
use Rattle.sby_terms.specs.Span.{IsSpan, IsStride, first_from, first_of, last_from, last_of, slices_from, slices_of}
use Rattle.sby_terms.specs.declared.names.JobName.{JobName}
use Rattle.sby_terms.specs.declared.names.JobName.TheVariants.{Base}
use Rattle.sby_terms.specs.declared.names.Mode.TheVariants.{Bmc}
use Rattle.sby_terms.specs.declared.span.Span.{Span}
use Rattle.judge.proofs.Problems.{numbered, numbered-at}
use Rattle.judge.specs.Jobs.{Solvable, jobs_in}

-- a span has a slice
pub slices-some : (cycles : ℕ) (stride : Option ℕ) → 0 < slices_from cycles stride
slices-some cycles None = omega arith
slices-some cycles (Some stride) = omega arith

slice-from : (skip depth : ℕ) (stride : Option ℕ) (i : ℕ) → skip < depth → IsStride stride → i < slices_from (depth - skip) stride → first_from skip stride i < last_from skip depth stride i
slice-from skip depth None i some is lt = some
slice-from skip depth (Some stride) i some is lt =
    let below : i ≤ (depth - skip - 1) / stride = omega (arith, lt) in
    let far : i * stride ≤ depth - skip - 1 = (le-div_iff_mul-le is).0 below in
    let positive : 0 < stride = is in
    omega (arith, far, some, positive)

-- a slice has a cycle
pub slice-some : (span : Span) (i : ℕ) → IsSpan span → i < slices_of span → first_of span i < last_of span i
slice-some span i is lt = slice-from span.skip span.depth span.stride i is.some is.stride lt

first-least : (skip : ℕ) (stride : Option ℕ) (i : ℕ) → skip ≤ first_from skip stride i
first-least skip None i = omega arith
first-least skip (Some stride) i = omega arith

last-most : (skip depth : ℕ) (stride : Option ℕ) (i : ℕ) → last_from skip depth stride i ≤ depth
last-most skip depth None i = omega arith
last-most skip depth (Some stride) i = omega arith

-- a slice is within its span
pub slice-within : (span : Span) (i : ℕ) → (span.skip ≤ first_of span i) × (last_of span i ≤ span.depth)
slice-within span i = (first-least span.skip span.stride i, last-most span.skip span.depth span.stride i)

-- a run that ends in a cycle of the span ends in a slice
slice-of : (skip depth : ℕ) (stride : Option ℕ) (n : ℕ) → IsStride stride → skip < n → n ≤ depth
    → (i : ℕ) × (i < slices_from (depth - skip) stride) × (first_from skip stride i < n) × (n ≤ last_from skip depth stride i)
slice-of skip depth None n is lt le = (0, omega arith, lt, le)
slice-of skip depth (Some stride) n is lt le =
    let x : ℕ = n - skip - 1 in
    let i : ℕ = x / stride in
    let positive : 0 < stride = is in
    let low : i * stride ≤ x = div-mul-le_self x stride in
    let rest : x % stride < stride = mod-lt x positive in
    let whole : i * stride + x % stride ≡ x = div-add-mod' x stride in
    let within : i * stride ≤ depth - skip - 1 = omega (arith, low, lt, le) in
    let last : i ≤ (depth - skip - 1) / stride = (le-div_iff_mul-le is).1 within in
    (i, omega (arith, last), omega (arith, low, lt), omega (arith, rest, whole, lt, le))

module _ (d : DesignOf) (span : Span) (is : IsSpan span) where
  -- what no slice shows no cycle of the span does
  pub slices-cover : ((i : ℕ) → i < slices_of span → NoBreak d (first_of span i) (last_of span i)) → NoBreak d span.skip span.depth
  slices-cover each = λ m vs a lt le shows.
      let at = slice-of span.skip span.depth span.stride m is.stride lt le in
      each at.0 at.1 m vs a at.2 at.3 shows

  pub slices-within : NoBreak d span.skip span.depth → (i : ℕ) → NoBreak d (first_of span i) (last_of span i)
  slices-within none i = λ m vs a lt le shows.
      let w = slice-within span i in
      none m vs a (omega (arith, lt, w.0)) (omega (arith, le, w.1)) shows

  pub jobs-cover : ((job : JobName) → Contains (jobs_in Bmc span d) job → Solvable d job span → ⊥) → NoBreak d span.skip span.depth
  jobs-cover unsolved =
      slices-cover
      (λ i lt m vs a first last shows.
      unsolved (Base i) (Contains-from_place (jobs_in Bmc span d) i (Base i) (numbered-at Base (slices_of span) 0 i i lt (omega arith))) (m, vs, a, first, last, shows))

  pub jobs-within : NoBreak d span.skip span.depth → (job : JobName) → Contains (jobs_in Bmc span d) job → Solvable d job span → ⊥
  jobs-within none job has =
      let at = place-from_Contains (jobs_in Bmc span d) job has in
      let same : job ≡ Base (0 + at.0) = numbered Base (slices_of span) 0 at.0 job at.1 in
      subst (λ (j : JobName). Solvable d j span → ⊥) (sym same) (λ s. slices-within none (0 + at.0) s.0 s.1 s.2 s.3 s.4 s.5)
