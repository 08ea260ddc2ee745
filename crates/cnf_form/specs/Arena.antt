-- How clauses lie in one list of literals.
use Rattle.std.specs.Prelude.{ℕ, ◌≤◌, List, length, map, slice_range, All}
use Rattle.cnf_form.specs.declared.formula.Span.{Span}
use Rattle.cnf_form.specs.declared.literal.TheConstants.{MAX_VARS}
use Rattle.cnf_form.specs.Cnf.{LitOf, Within}

-- the clauses that lie at these places
abbrev pub clauses_at : List LitOf → List Span → List (List LitOf)
clauses_at lits spans = map (λ s. slice_range lits s.start s.end) spans

-- the place is one of the list's
abbrev pub SpanWithin : ℕ → Span → Type 0
SpanWithin size s = (s.start ≤ s.end) × (s.end ≤ size)

-- each place is one of the list's
pub record AreSpans (lits : List LitOf) (spans : List Span) : Type 0 where
  pub each : All (SpanWithin (length lits)) spans

-- what holds of a formula's fields
pub record IsArena (vars : ℕ) (lits : List LitOf) (spans : List Span) : Type 0 where
  pub limit : vars ≤ MAX_VARS
  pub places : AreSpans lits spans
  pub within : Within vars (clauses_at lits spans)
