-- The cycles at which a task looks, and its slices.
use Rattle.std.specs.Prelude.{ℕ, ◌+◌, ◌-◌, ◌*◌, ◌/◌, ◌<◌, ◌≤◌, min, Option, Some, None}
use Rattle.sby_terms.specs.declared.span.Span.{Span}

-- all cycles below the depth, as one slice
abbrev pub whole : ℕ → Span
whole depth = record { skip = 0; depth = depth; stride = None }

-- slice i begins after this many cycles
abbrev pub first_from : ℕ → Option ℕ → ℕ → ℕ
first_from skip None i = skip
first_from skip (Some stride) i = skip + i * stride

abbrev pub first_of : Span → ℕ → ℕ
first_of span i = first_from span.skip span.stride i

-- and ends after this many
abbrev pub last_from : ℕ → ℕ → Option ℕ → ℕ → ℕ
last_from skip depth None i = depth
last_from skip depth (Some stride) i = min depth (first_from skip (Some stride) i + stride)

abbrev pub last_of : Span → ℕ → ℕ
last_of span i = last_from span.skip span.depth span.stride i

-- as many slices as it takes to reach the depth
abbrev pub slices_from : ℕ → Option ℕ → ℕ
slices_from cycles None = 1
slices_from cycles (Some stride) = (cycles - 1) / stride + 1

abbrev pub slices_of : Span → ℕ
slices_of span = slices_from (span.depth - span.skip) span.stride

-- a stride, where one is given, has at least one cycle
abbrev pub IsStride : Option ℕ → Type 0
IsStride None = Unit {0}
IsStride (Some stride) = 0 < stride

-- a span that a task may have: some cycle is looked at, and there are at most 1,000 slices
pub record IsSpan (span : Span) : Type 0 where
  pub some : span.skip < span.depth
  pub stride : IsStride span.stride
  pub few : slices_of span ≤ 1000
