-- The cycles at which a task looks.
use Rattle.std.specs.Prelude.{◌≡◌, ℕ, ◌-◌, ◌*◌, ◌≤◌, Bool, true, cond, not, ◌&&◌, ◌||◌, leb, ltb, Option, Some, None, is_some, unwrap_or}
use Rattle.sby_terms.specs.Span.{IsSpan, whole}
use Rattle.sby_terms.specs.declared.names.Mode.{Mode}
use Rattle.sby_terms.specs.declared.names.Mode.TheVariants.{Bmc, Prove, ProveInv, Cover}
use Rattle.sby_terms.specs.declared.span.Span.{Span}

-- what the options say: no cycle is skipped, 20 is the depth, and there is one slice where nothing is said
abbrev pub said_span : Option ℕ → Option ℕ → Option ℕ → Span
said_span skip depth stride = record { skip = unwrap_or skip 0; depth = unwrap_or depth 20; stride = stride }

-- skip and stride stand in bmc alone
abbrev pub may_slice : Mode → Option ℕ → Option ℕ → Bool
may_slice Bmc skip stride = true
may_slice Prove skip stride = not (is_some skip || is_some stride)
may_slice ProveInv skip stride = not (is_some skip || is_some stride)
may_slice Cover skip stride = not (is_some skip || is_some stride)

-- 1,000 slices have at least these cycles
abbrev pub are_few : ℕ → Option ℕ → Bool
are_few cycles None = true
are_few cycles (Some stride) = leb cycles (1000 * stride)

abbrev pub fits : Span → Bool
fits span = ltb span.skip span.depth && are_few (span.depth - span.skip) span.stride

-- the cycles of a task of this mode, where it may have them
abbrev pub span_of : Mode → Option ℕ → Option ℕ → Option ℕ → Option Span
span_of mode skip depth stride = cond (may_slice mode skip stride && fits (said_span skip depth stride)) (Some (said_span skip depth stride)) None

-- cycles that a task of this mode may have: in prove and cover all below the depth, as one slice
pub record IsTaskSpan (mode : Mode) (span : Span) : Type 0 where
  pub is : IsSpan span
  pub high : span.depth ≤ 100000
  pub one : (mode ≡ Bmc → ⊥) → span ≡ whole span.depth
