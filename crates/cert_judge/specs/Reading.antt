-- How the bytes of a stream are read, and the fate of what they say.
use Rattle.std.specs.Prelude.{ℕ, List, Option}
use Rattle.cnf_form.specs.Cnf.{LitOf, Assignment, FormulaOf}
use Rattle.cert_stream.specs.Machine as drup_machine
use Rattle.cert_stream.specs.Machine.{DrupOf}
use Rattle.cert_stream.specs.Telling as drup_telling
use Rattle.cert_stream.specs.Telling.{Saying}
use Rattle.cert_stream.specs.LratMachine as lrat_machine
use Rattle.cert_stream.specs.LratMachine.{LratOf}
use Rattle.cert_stream.specs.LratTelling as lrat_telling
use Rattle.cert_stream.specs.LratTelling.{LratSaying}
use Rattle.cert_stream.specs.declared.mode.ParseFault.{ParseFault}
use Rattle.proof_stream.specs.File as file
use Rattle.proof_stream.specs.File.{FileOf}
use Rattle.drup_check.specs.Checking.{CheckerOf}
use Rattle.lrat_check.specs.Checking.{HintedOf}
use Rattle.cert_judge.specs.Fate.{Fate}
use Rattle.cert_judge.specs.Drup as drup
use Rattle.cert_judge.specs.Lrat as lrat

-- For what a parser keeps, W, and what is said, S: what is kept after bytes, what they say, and the fault where no stream goes on.
pub record Parsing (W S : Type 0) : Type 0 where
  pub after : W → List ℕ → W
  pub said : W → List ℕ → List S
  pub fault : W → Option ParseFault

-- For what is said and what a checker holds, C: what a fault says, the values that sayings name, and the fate of sayings from a checker and
-- values on, and from a formula on.
pub record Meaning (S C : Type 0) : Type 1 where
  pub fault_said : Option ParseFault → List S
  pub lits : List S → List LitOf
  pub comes : FormulaOf → C → Assignment → List S → Option Fate → Type 0
  pub begins : FormulaOf → List S → Option Fate → Type 0

-- DRUP text
abbrev pub drup_parsing : Parsing DrupOf Saying
drup_parsing = record { after = drup_telling.after; said = drup_telling.said; fault = λ w. drup_machine.fault_of w.mode }

abbrev pub drup_meaning : Meaning Saying CheckerOf
drup_meaning = record {
  fault_said = drup_telling.fault_said;
  lits = drup.value_lits;
  comes = λ f c x ss fate. drup.SayingsFate f.clauses c.clauses x ss fate;
  begins = drup.StreamFate;
}

-- hinted text
abbrev pub lrat_parsing : Parsing LratOf LratSaying
lrat_parsing = record { after = lrat_telling.after; said = lrat_telling.said; fault = λ w. lrat_machine.fault_of w.mode }

abbrev pub lrat_meaning : Meaning LratSaying HintedOf
lrat_meaning = record {
  fault_said = lrat_telling.fault_said;
  lits = lrat.value_lits;
  comes = λ f c x ss fate. lrat.SayingsFate f.clauses (lrat.held c) x ss fate;
  begins = lrat.StreamFate;
}

-- a proof file, whose lines say what those of DRUP text say
abbrev pub file_parsing : Parsing FileOf Saying
file_parsing = record { after = file.after; said = file.said; fault = file.fault }
