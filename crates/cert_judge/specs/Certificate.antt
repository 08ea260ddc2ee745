-- A certificate as far as it was said.
use Rattle.std.specs.Prelude.{Bool, List, Option, Some, None}
use Rattle.cnf_form.specs.Cnf.{FormulaOf}
use Rattle.cert_judge.specs.declared.stream.Outcome.{Outcome}

-- the formula, what the checker holds, the values so far, and the outcome once there is one
pub record CertificateOf (C : Type 0) : Type 0 where
  pub formula : FormulaOf
  pub checker : C
  pub bits : List Bool
  pub outcome : Option Outcome

abbrev pub with_outcome : {C : Type 0} → CertificateOf C → Outcome → CertificateOf C
with_outcome c o = record { formula = c.formula; checker = c.checker; bits = c.bits; outcome = Some o }

-- where there is no outcome yet, it is this one
abbrev pub outcome_or : {C : Type 0} → CertificateOf C → Option Outcome → Outcome → CertificateOf C
outcome_or c None o = with_outcome c o
outcome_or c (Some won) o = c

-- what a parser keeps, and the certificate that hears it
pub record LineOf (W C : Type 0) : Type 0 where
  pub parser : W
  pub certificate : CertificateOf C
