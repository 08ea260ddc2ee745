-- Runs that are played from the values of a stream.
use Rattle.std.specs.Prelude.{◌≡◌, ℕ, ◌<◌, Bool, List, length, Option, Some}
use Rattle.cnf_form.specs.Cnf.{Assignment, Satisfies}
use Rattle.design_meaning.specs.Runs.{CycleOf, IsRunOf, valuations}
use Rattle.job_terms.specs.Encoding.{EncodedOf, decoded}
use Rattle.model_core.specs.Choices.{Plays}
use Rattle.model_core.specs.Meaning.{Cycle}
use Rattle.cert_judge.specs.Kinds.{stream_values}
use Rattle.cert_judge.specs.declared.stream.StreamKind.{StreamKind}
use Rattle.word_model.specs.Layout.{IsAlike, valued}
use Rattle.sby_terms.specs.declared.names.JobName.{JobName}
use Rattle.sby_terms.specs.declared.names.JobName.TheVariants.{Step}
use Rattle.judge.specs.Problem.{AskedOf, IsEncodedOf}

-- The values satisfy the formula of the job, and the run is that of the model with the choices that they are decoded to, as the design's
-- wires, free bits and stored rows have it.
pub record IsPlayed (p : AskedOf) (e : EncodedOf) (x : Assignment) (run : List CycleOf) : Type 0 where
  pub satisfies : Satisfies x e.formula.clauses
  pub rows : IsRunOf p.design run
  pub cycles : length run ≡ length (decoded e x).inputs
  pub plays : (cs : ℕ → Cycle) × Plays p.model (decoded e x) cs × ((t : ℕ) → t < length run → IsAlike p.design (valuations p.design run t) (valued p.design (cs t)))

-- the run is played from the values that the bytes of a stream of a kind name, `most` of them at most: where it ends with them, or where
-- more may follow
abbrev pub IsValuesRun : AskedOf → JobName → StreamKind → Bool → List ℕ → ℕ → List CycleOf → Type 0
IsValuesRun p job kind ended bytes most run = (e : EncodedOf) × IsEncodedOf p job e × IsPlayed p e (stream_values kind e.formula.vars ended bytes most) run

-- but for Step, the run is there, and is played from the values
abbrev pub ShowsPlayed : AskedOf → JobName → Assignment → Option (List CycleOf) → Type 0
ShowsPlayed p job x shown = (job ≡ Step → ⊥) → (e : EncodedOf) × (run : List CycleOf) × (shown ≡ Some run) × IsEncodedOf p job e × IsPlayed p e x run
