-- Witnesses of a job: their fates, and the run that they choose.
use Rattle.std.specs.Prelude.{◌≡◌, ℕ, ◌<◌, ◌≤◌, Bool, ◌&&◌, leb, List, length, take, Option, Some, None, MatchOption}
use Rattle.btor_core.specs.Shape.{BtorOf}
use Rattle.btor_emit.specs.Emission.{IsEmission}
use Rattle.btor_emit.specs.declared.goal.Goal.TheVariants as goal
use Rattle.btor_emit.specs.declared.shape.State.{State}
use Rattle.btor_text.specs.Grammar.{IsText}
use Rattle.btor_text.specs.Text.{text_of}
use Rattle.btor_witness.specs.Grammar.{WitnessOf}
use Rattle.cert_judge.specs.Fate.{Fate}
use Rattle.design_meaning.specs.Runs.{CycleOf, IsRunOf, valuations}
use Rattle.model_core.specs.Choices.{Plays}
use Rattle.model_core.specs.Meaning.{Cycle}
use Rattle.sby_terms.specs.Span.{first_of, last_of}
use Rattle.sby_terms.specs.declared.names.JobName.{JobName}
use Rattle.sby_terms.specs.declared.names.JobName.TheVariants.{Base, Step, Inv, Cover}
use Rattle.sby_terms.specs.declared.span.Span.{Span}
use Rattle.witness_judge.specs.Choosing.{AskedOf as WitnessAskedOf, choices_for, shape_of}
use Rattle.witness_judge.specs.Fate.{HasWitness, IsWitnessFate, IsWitnessFateSoFar}
use Rattle.witness_judge.specs.Playing.{AreAssumed, IsReached}
use Rattle.witness_judge.specs.declared.sought.Sought.{Sought}
use Rattle.source_rows.specs.Sources.{source_rows}
use Rattle.word_model.specs.Layout.{IsAlike, valued}
use Rattle.judge.specs.Jobs.{span_of}
use Rattle.judge.specs.Problem.{AskedOf}

-- What a witness shows for a job, and in which cycle its run ends. Of Step and Inv it shows nothing, as it tells one run from the start.
abbrev pub sought_of : Span → JobName → Option Sought
sought_of span (Base i) = Some (record { goal = goal.Asserts; first = first_of span i; last = last_of span i })
sought_of span Step = None
sought_of span Inv = None
sought_of span (Cover k) = Some (record { goal = goal.Cover k; first = 0; last = span.depth })

abbrev pub sought_in : AskedOf → JobName → Option Sought
sought_in p job = sought_of (span_of p.problem) job

-- what is asked of a witness
abbrev pub witness_asked : AskedOf → Sought → WitnessAskedOf
witness_asked p s = record { model = p.model; states = p.shape.states; inputs = p.shape.inputs; sought = s }

-- What is put as the job's file for engines that print witnesses: lines that have the model's runs, with an input for each `$anyseq` and each
-- other input bit that is read, and with what is sought as bad, as they are written.
abbrev pub IsLinesFile : AskedOf → JobName → List ℕ → Type 0
IsLinesFile p job bytes =
    MatchOption (sought_in p job) ⊥ (λ s. (m : BtorOf) × (states : List State) × (inputs : List (List ℕ)) × IsEmission p.model (source_rows p.design) s.goal m states inputs × (bytes ≡ text_of m) × IsText bytes m)

-- the fate of these bytes of a stream as a witness for the job, `most` of them at most: where more may follow
abbrev pub IsShownSoFar : AskedOf → JobName → List ℕ → ℕ → Option Fate → Type 0
IsShownSoFar p job bytes most fate = MatchOption (sought_in p job) ⊥ (λ s. IsWitnessFateSoFar (witness_asked p s) bytes most fate)

-- and where the stream ends with them
abbrev pub IsShown : AskedOf → JobName → List ℕ → ℕ → Fate → Type 0
IsShown p job bytes most fate = MatchOption (sought_in p job) ⊥ (λ s. IsWitnessFate (witness_asked p s) bytes most fate)

-- The run is the one that the witness chooses, as the design's wires, free bits and stored rows have it: each cycle is assumed, and the last
-- one is among those where it is sought, and has what is sought.
pub record IsChosen (p : AskedOf) (s : Sought) (x : WitnessOf) (run : List CycleOf) : Type 0 where
  pub rows : IsRunOf p.design run
  pub cycles : length run ≡ length x.frames
  pub within : length run ≤ s.last
  pub model_run : ℕ → Cycle
  pub plays : Plays p.model (choices_for (witness_asked p s) x.frames) model_run
  pub alike : (t : ℕ) → t < length run → IsAlike p.design (valuations p.design run t) (valued p.design (model_run t))
  pub assumed : AreAssumed p.model (length run) model_run
  pub reached : IsReached p.model s (length run) model_run x.bad

-- a witness in the bytes of a stream, `most` of them at most, chooses the run: where the stream ends with them, or where more may follow
abbrev pub IsWitnessRun : AskedOf → JobName → Bool → List ℕ → ℕ → List CycleOf → Type 0
IsWitnessRun p job ended bytes most run =
    MatchOption (sought_in p job) ⊥ (λ s. (x : WitnessOf) × HasWitness (ended && leb (length bytes) most) (shape_of (witness_asked p s)) (take most bytes) x × IsChosen p s x run)
