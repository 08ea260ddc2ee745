-- Where a clause stands under a trail.
use Rattle.std.specs.Prelude.{◌≢◌, List, Contains}
use Rattle.cnf_form.specs.Cnf.{LitOf}
use Rattle.unit_propagation.specs.declared.scan.Standing.{Standing}
use Rattle.unit_propagation.specs.declared.scan.Standing.TheVariants.{Falsified, Satisfied, One, Two}
use Rattle.unit_propagation.specs.Propagation.{IsUnassigned, IsSatisfied, IsFalsified, IsFalsifiedBut}

abbrev pub StandingFits : List LitOf → List LitOf → Standing → Type 0
StandingFits t c Falsified = IsFalsified t c
StandingFits t c Satisfied = IsSatisfied t c
StandingFits t c (One l) = Contains c l × IsUnassigned t l × IsFalsifiedBut t c l
StandingFits t c (Two l m) = Contains c l × Contains c m × (l ≢ m) × IsUnassigned t l × IsUnassigned t m
