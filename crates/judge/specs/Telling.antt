-- What the answer to a witness rests on, and what it tells.
use Rattle.std.specs.Prelude.{◌≡◌, List, Option, Some, None, Result, Ok, Err}
use Rattle.sby_bits.specs.Rows.{Row}
use Rattle.btor_witness.specs.Grammar.{WitnessOf}
use Rattle.cert_judge.specs.declared.stream.BadCert.{BadCert}
use Rattle.design_core.specs.Shape.{DesignOf, wire_bits}
use Rattle.design_meaning.specs.Runs.{CycleOf, kept_bits}
use Rattle.sby_terms.specs.declared.names.Answer.TheVariants.{Sat}
use Rattle.sby_terms.specs.declared.names.JobName.{JobName}
use Rattle.witness_judge.specs.Judging.{IsPlayed}
use Rattle.witness_judge.specs.declared.outcome.Outcome.{Outcome}
use Rattle.witness_judge.specs.declared.outcome.Outcome.TheVariants.{Played}
use Rattle.witness_judge.specs.declared.sought.Sought.{Sought}
use Rattle.judge.specs.Finding.{FindingOf}
use Rattle.judge.specs.Problem.{AskedOf}
use Rattle.judge.specs.Rows.{cycles_in}
use Rattle.judge.specs.Witness.{sought_in, witness_asked}
use Rattle.judge.specs.declared.judging.Progress.{Progress}
use Rattle.judge.specs.declared.judging.Progress.TheVariants.{More, Done, Unknown}

-- the rows are the run that a witness chooses, which shows what is sought for the job
abbrev pub ShowsSought : AskedOf → JobName → List Row → Type 0
ShowsSought p job rows = (s : Sought) × (x : WitnessOf) × (sought_in p job ≡ Some s) × IsPlayed (witness_asked p s) x rows

-- a design's run in the rows of its model
abbrev pub design_run : DesignOf → List Row → List CycleOf
design_run d rows = cycles_in (wire_bits d) d.free (kept_bits d) rows

-- a finding is Sat, and has the run that was played
abbrev pub IsToldRun : AskedOf → Option Outcome → Result Progress BadCert → Type 0
IsToldRun p outcome (Ok More) = Unit {0}
IsToldRun p outcome (Ok (Done f)) = (f.answer ≡ Sat) × ((rows : List Row) × (outcome ≡ Some (Played rows)) × (f.run ≡ Some (design_run p.design rows)))
IsToldRun p outcome (Ok Unknown) = Unit {0}
IsToldRun p outcome (Err b) = Unit {0}

-- a finding is kept; else all is as before
abbrev pub KeepsFound : Option FindingOf → Option FindingOf → Result Progress BadCert → Type 0
KeepsFound old new (Ok More) = new ≡ old
KeepsFound old new (Ok (Done f)) = new ≡ Some f
KeepsFound old new (Ok Unknown) = new ≡ old
KeepsFound old new (Err b) = new ≡ old

-- the answer by the finding that was kept
abbrev pub told_again : Option FindingOf → Progress
told_again (Some f) = Done f
told_again None = Unknown
