-- What a finding is a finding of.
use Rattle.std.specs.Prelude.{ℕ, List}
use Rattle.sby_terms.specs.declared.names.Mode.{Mode}
use Rattle.sby_terms.specs.declared.span.Span.{Span}

-- a design's text, with the mode in which and the cycles at which it is asked about
pub record ProblemOf : Type 0 where
  pub text : List ℕ
  pub mode : Mode
  pub span : Span
