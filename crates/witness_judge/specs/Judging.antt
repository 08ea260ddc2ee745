-- A judge of a stream as a witness, and what its answers tell.
use Rattle.std.specs.Prelude.{◌≡◌, ℕ, ◌≤◌, Bool, true, false, List, length, take, Option, Some, None, is_some, All}
use Rattle.sby_bits.specs.Rows.{Row}
use Rattle.sby_terms.specs.declared.names.Answer.TheVariants.{Sat}
use Rattle.model_core.specs.Choices.{Plays}
use Rattle.model_play.specs.Playing.{cycles_of}
use Rattle.cert_judge.specs.Fate.{Fate, Found, Unknown as UnknownFate, Bad as BadFate}
use Rattle.btor_witness.specs.Grammar.{WitnessOf}
use Rattle.btor_witness.specs.Machine.{StandsFor, WitnessesOf}
use Rattle.witness_judge.specs.Choosing.{AskedOf, IsAsked, choices_for, shape_of}
use Rattle.witness_judge.specs.Fate.{HasWitness, IsWitnessFate, IsWitnessFateSoFar}
use Rattle.witness_judge.specs.Playing.{AreAssumed, IsReached}
use Rattle.witness_judge.specs.declared.outcome.Outcome.{Outcome}
use Rattle.witness_judge.specs.declared.outcome.Outcome.TheVariants.{Played, Unknown, Bad}

-- what is asked, the greatest number of bytes, how many were taken, and the reader of the stream, while more may come
pub record JudgeOf : Type 0 where
  pub asked : AskedOf
  pub most : ℕ
  pub taken : ℕ
  pub reader : Option WitnessesOf

abbrev pub is_reading : JudgeOf → Bool
is_reading j = is_some j.reader

-- the judge reads, and has taken these bytes of a stream
pub record Took (j : JudgeOf) (bytes : List ℕ) : Type 0 where
  pub reader : (w : WitnessesOf) × (j.reader ≡ Some w) × StandsFor (shape_of j.asked) j.asked.sought.last w bytes × (w.taken ≤ j.taken)
  pub taken : j.taken ≡ length bytes
  pub within : j.taken ≤ j.most

-- some bytes were taken, if more may be
pub record IsJudge (j : JudgeOf) : Type 0 where
  pub asked : IsAsked j.asked
  pub took : is_reading j ≡ true → (bytes : List ℕ) × Took j bytes

-- the fate that an outcome is
abbrev pub fate_of : Outcome → Fate
fate_of (Played rows) = Found Sat
fate_of Unknown = UnknownFate
fate_of (Bad b) = BadFate b.kind b.at

-- the fate that is told; None tells that there is none yet
abbrev pub fate_told : Option Outcome → Option Fate
fate_told None = None
fate_told (Some o) = Some (fate_of o)

-- the rows are the run that a witness chooses, in each cycle a row with a bit for each place, and the run shows what is sought
pub record IsPlayed (a : AskedOf) (x : WitnessOf) (rows : List Row) : Type 0 where
  pub plays : Plays a.model (choices_for a x.frames) (cycles_of rows)
  pub cycles : length rows ≡ length x.frames
  pub wide : All (λ row. length row ≡ a.model.size) rows
  pub few : length rows ≤ a.sought.last
  pub assumed : AreAssumed a.model (length rows) (cycles_of rows)
  pub reached : IsReached a.model a.sought (length rows) (cycles_of rows) x.bad

-- so is that of a witness in the bytes, which are all where the stream ended
abbrev pub IsPlayedBy : AskedOf → Bool → List ℕ → List Row → Type 0
IsPlayedBy a ended bytes rows = (x : WitnessOf) × HasWitness ended (shape_of a) bytes x × IsPlayed a x rows

-- the same is asked, of the same number of bytes
abbrev pub IsSameJudge : JudgeOf → JudgeOf → Type 0
IsSameJudge old new = (new.asked ≡ old.asked) × (new.most ≡ old.most)

-- The judge took the bytes, and answers their fate so far, whatever pieces they came in, with the run of a witness that plays. Where there is none
-- yet, more may come.
pub record Feeds (old new : JudgeOf) (bytes : List ℕ) (o : Option Outcome) : Type 0 where
  pub took : o ≡ None → Took new bytes
  pub fate : IsWitnessFateSoFar old.asked bytes old.most (fate_told o)
  pub played : (rows : List Row) → o ≡ Some (Played rows) → IsPlayedBy old.asked false (take old.most bytes) rows

-- The judge answers the fate of the bytes as the whole stream, with the run of a witness that plays.
pub record Ends (old : JudgeOf) (bytes : List ℕ) (o : Outcome) : Type 0 where
  pub fate : IsWitnessFate old.asked bytes old.most (fate_of o)
  pub played : (rows : List Row) → o ≡ Played rows → IsPlayedBy old.asked true bytes rows
