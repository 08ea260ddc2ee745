-- A problem: a text, the design that it reads, its model, and the net from which each of its jobs is made as a formula.
use Rattle.std.specs.Prelude.{◌≡◌, ◌↔◌, ◌⊎◌, ◌≤◌, ◌^◌, ℕ, List, Option, Some, slice_get}
use Rattle.cnf_form.specs.Cnf.{Assignment, FormulaOf, Satisfies}
use Rattle.cnf_form.specs.Dimacs.{IsDimacs, dimacs_text}
use Rattle.task_net.specs.Asking.{HasOriginsInCone}
use Rattle.task_net.specs.Net.{IsTaskNet, TaskNetOf, task_encoded}
use Rattle.job_terms.specs.Encoding.{CanBeSatisfied, EncodedOf, IsDecoded, Propagates, decoded, empty_job}
use Rattle.design_core.specs.Shape.{DesignOf, IsDesign}
use Rattle.design_check.specs.Faults.{IsFlat}
use Rattle.design_reader.specs.Grammar.{Reads}
use Rattle.model_cone.specs.declared.asked.Asked.{Asked}
use Rattle.model_cone.specs.declared.asked.Asked.TheVariants as ask
use Rattle.model_core.specs.Choices.{AreChoicesFor}
use Rattle.model_core.specs.Served.{IsModel}
use Rattle.model_core.specs.Shape.{ModelOf}
use Rattle.design_graph.specs.Order.{IsOrder}
use Rattle.design_graph.specs.declared.driver.Driver.{Driver}
use Rattle.btor_emit.specs.Reads.{AreReadInputs}
use Rattle.btor_emit.specs.States.{AreStretches}
use Rattle.btor_emit.specs.declared.shape.State.{State}
use Rattle.place_rows.specs.Rows.{AreRowsOf}
use Rattle.source_rows.specs.Sources.{source_rows}
use Rattle.word_model.specs.Built.{IsBuilt}
use Rattle.word_model.specs.Model.{IsModelOf}
use Rattle.sby_terms.specs.Problem.{ProblemOf}
use Rattle.sby_terms.specs.declared.names.JobName.{JobName}
use Rattle.sby_terms.specs.declared.names.JobName.TheVariants.{Base, Step, Inv, Cover}
use Rattle.sby_terms.specs.declared.names.Mode.{Mode}
use Rattle.sby_terms.specs.declared.names.Mode.TheVariants.{Bmc, Prove, ProveInv, Cover as CoverMode}
use Rattle.sby_terms.specs.declared.span.Span.{Span}
use Rattle.net_jobs.specs.Jobs.{job_made}
use Rattle.bit_net.specs.Net.{NetOf}
use Rattle.net_pair.specs.Numbers.{HaveStates}
use Rattle.net_pair.specs.Pairing.{made, pair_of}
use Rattle.pair_form.specs.Pair.{PairOf}
use Rattle.pair_form.specs.Text.{pair_text}
use Rattle.word_model.specs.Numbers.{numbered_places}
use Rattle.judge.specs.Jobs.{AsksNothing, IsSpanFor, Solvable, jobs_of, span_of}

-- what a witness may say of a model: its state bits by longest stretches, and its inputs that are read, each a row of places
pub record ShapeOf : Type 0 where
  pub states : List State
  pub inputs : List (List ℕ)

-- what each `$anyseq` of the design gives is one input, and so is each other input bit
pub record IsShapeOf (d : DesignOf) (m : ModelOf) (s : ShapeOf) : Type 0 where
  pub stretches : AreStretches m s.states
  pub read : AreReadInputs m (source_rows d) s.inputs
  pub rows : AreRowsOf m.inputs s.inputs

-- what is asked, the design, its model, what a witness may say of that, the net of what the mode asks, and by their numbers the design's state
-- bits among those of the net
pub record AskedOf : Type 0 where
  pub problem : ProblemOf
  pub design : DesignOf
  pub model : ModelOf
  pub shape : ShapeOf
  pub net : TaskNetOf
  pub bits : List (Option ℕ)

-- the job at place i
abbrev pub IsJobAt : AskedOf → ℕ → JobName → Type 0
IsJobAt p i job = slice_get (jobs_of p.problem p.design) i ≡ Some job

-- one of the jobs
abbrev pub IsJob : AskedOf → JobName → Type 0
IsJob p job = (i : ℕ) × IsJobAt p i job

-- what the jobs of a mode ask
abbrev pub asked_in : Mode → Asked
asked_in Bmc = ask.Asserts
asked_in Prove = ask.Asserts
asked_in ProveInv = ask.Asserts
asked_in CoverMode = ask.Covers

-- one of the jobs that are made of cycles told one after the other, as all are but Inv
abbrev pub IsTold : AskedOf → JobName → Type 0
IsTold p job = IsJob p job × (job ≡ Inv → ⊥)

-- such a job as it is encoded, made from the net
abbrev pub IsEncodedOf : AskedOf → JobName → EncodedOf → Type 0
IsEncodedOf p job e = IsTold p job × (e ≡ task_encoded p.net job (span_of p.problem))

-- and its formula
abbrev pub IsFormulaOf : AskedOf → JobName → FormulaOf → Type 0
IsFormulaOf p job f = (e : EncodedOf) × IsEncodedOf p job e × (f ≡ e.formula)

-- its formula in DIMACS, as it is written
abbrev pub IsFormulaFile : AskedOf → JobName → List ℕ → Type 0
IsFormulaFile p job bytes = (f : FormulaOf) × IsFormulaOf p job f × (bytes ≡ dimacs_text f) × IsDimacs bytes f

-- the pair of two neighbouring cycles of the net
abbrev pub pair_in : AskedOf → PairOf
pair_in p = pair_of p.net.net p.bits

-- of Inv the pair, as it is written: its formula in DIMACS, with comment lines before it
abbrev pub IsPairFile : AskedOf → JobName → List ℕ → Type 0
IsPairFile p job bytes = IsJob p job × (job ≡ Inv) × (bytes ≡ pair_text (pair_in p)) × IsDimacs bytes (pair_in p).formula

-- what is put as the job's file
abbrev pub IsJobFile : AskedOf → JobName → List ℕ → Type 0
IsJobFile p job bytes = IsFormulaFile p job bytes ⊎ IsPairFile p job bytes

-- how many variables are made for a job
abbrev pub job_size : NetOf → List (Option ℕ) → JobName → Span → ℕ
job_size n bits (Base i) span = job_made n (Base i) span
job_size n bits Step span = job_made n Step span
job_size n bits Inv span = made n bits
job_size n bits (Cover k) span = job_made n (Cover k) span

-- What is promised of an encoded job: its formula can be satisfied exactly where the job can be solved, and has from 1 to 2 ^ 27
-- variables; where some variables are fixed, each of which stands for a bit that the job leaves free, unit propagation ends in a
-- conflict or fixes all others; over no statement the formula is one variable and the empty clause; and, but for Step, each
-- assignment tells choices for a run of the model, and one that satisfies the formula those for a run that shows the job's goal.
pub record IsEncodedJob (d : DesignOf) (m : ModelOf) (job : JobName) (span : Span) (e : EncodedOf) : Type 0 where
  pub speaks : CanBeSatisfied e.formula ↔ Solvable d job span
  pub vars : (1 ≤ e.formula.vars) × (e.formula.vars ≤ 2 ^ 27)
  pub propagates : Propagates e
  pub origins : HasOriginsInCone m job span e
  pub empty : AsksNothing d job → e.formula ≡ empty_job
  pub choices : (job ≡ Step → ⊥) → (x : Assignment) → AreChoicesFor m (decoded e x)
  pub decodes : (job ≡ Step → ⊥) → (x : Assignment) → Satisfies x e.formula.clauses → IsDecoded m job span (decoded e x)

-- the span is one that the mode may have; the text reads the design and no other, which is flat; the model is the design's, made of its
-- parts; a witness may say what is open in it; the net is that of what the mode asks, the state bits have their numbers, and each job fits
pub record IsProblem (p : AskedOf) : Type 0 where
  pub span : IsSpanFor p.problem.mode (span_of p.problem)
  pub reads : Reads p.problem.text p.design
  pub only : (d : DesignOf) → Reads p.problem.text d → d ≡ p.design
  pub design : IsDesign p.design
  pub flat : IsFlat p.design
  pub is_model : IsModel p.model
  pub model : IsModelOf p.design p.model
  pub built : (order : List Driver) × IsOrder p.design order × IsBuilt p.design order p.model
  pub shape : IsShapeOf p.design p.model p.shape
  pub net : IsTaskNet p.model (asked_in p.problem.mode) p.net
  pub bits : HaveStates p.net.states (numbered_places p.design) p.bits
  pub fits : (job : JobName) → IsJob p job → job_size p.net.net p.bits job (span_of p.problem) ≤ 2 ^ 27
