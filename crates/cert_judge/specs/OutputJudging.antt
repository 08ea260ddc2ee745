-- A judge of an output, and what its answers tell.
use Rattle.std.specs.Prelude.{◌≡◌, ℕ, Bool, true, false, List, ◌++◌, Option, Some}
use Rattle.cnf_form.specs.Dimacs.{IsDimacs}
use Rattle.cert_judge.specs.Judging.{IsSameJudge, JudgeOf, HasTaken as StreamHasTaken, bits_of, formula_of, kind_of, outcome_of}
use Rattle.cert_judge.specs.Kinds.{stream_values}
use Rattle.cert_judge.specs.Lines.{AreValuesTold}
use Rattle.cert_judge.specs.Output.{has_values, stream_of}
use Rattle.cert_judge.specs.OutputFate.{IsOutputFate, IsOutputFateSoFar, own_fate}
use Rattle.cert_judge.specs.Outcomes.{fate_of, fate_told}
use Rattle.cert_judge.specs.Spots.{given, spot_after, values_after}
use Rattle.cert_judge.specs.declared.spot.Spot.{Spot}
use Rattle.cert_judge.specs.declared.spot.Spot.TheVariants.{Start}
use Rattle.cert_judge.specs.declared.stream.Outcome.{Outcome}
use Rattle.cert_judge.specs.declared.stream.StreamKind.TheVariants.{Drup}

-- the judge of the stream as which the output is read, where the bytes end in their line, and whether a line of values was read
pub record OutputOf (S : Type 0) : Type 0 where
  pub judge : JudgeOf S
  pub spot : Spot
  pub values : Bool

-- the judge took the bytes of an output
pub record HasTaken {S : Type 0} (o : OutputOf S) (bytes : List ℕ) : Type 0 where
  pub kind : kind_of o.judge ≡ Drup
  pub judge : StreamHasTaken o.judge (given Start bytes)
  pub spot : o.spot ≡ spot_after Start bytes
  pub values : o.values ≡ values_after Start false bytes

-- a judge of a stream took bytes; its outcome, once there is one, and out of memory stay
pub record Gave {S : Type 0} (old : JudgeOf S) (bytes : List ℕ) (new : JudgeOf S) : Type 0 where
  pub same : IsSameJudge old new
  pub stands : (text : List ℕ) → StreamHasTaken old text → StreamHasTaken new (text ++ bytes)
  pub again : (o : Outcome) → old.wanting ≡ false → outcome_of old ≡ Some o → new ≡ old
  pub wanting : old.wanting ≡ true → new.wanting ≡ true

-- a judge of an output took bytes
pub record Goes {S : Type 0} (old : OutputOf S) (bytes : List ℕ) (new : OutputOf S) : Type 0 where
  pub gave : Gave old.judge (given old.spot bytes) new.judge
  pub spot : new.spot ≡ spot_after old.spot bytes
  pub values : new.values ≡ values_after old.spot old.values bytes

-- The judge took the bytes, and answers their fate so far for each file of its formula, with the values that they name.
pub record Feeds {S : Type 0} (old new : OutputOf S) (bytes : List ℕ) (o : Option Outcome) : Type 0 where
  pub stands : HasTaken new bytes
  pub outcome : outcome_of new.judge ≡ o
  pub fate : (file : List ℕ) → IsDimacs file (formula_of old.judge) → IsOutputFateSoFar file bytes old.judge.most (fate_told o)
  pub values : AreValuesTold (formula_of old.judge) (stream_values Drup (formula_of old.judge).vars false (stream_of false bytes) old.judge.most) (bits_of new.judge) o

-- The judge answers the fate of the bytes as the whole output, None where the proof file decides, with the values that they name, and keeps
-- the outcome that this is the fate of.
pub record Ends {S : Type 0} (old new : OutputOf S) (bytes : List ℕ) (o : Option Outcome) : Type 0 where
  pub outcome : (x : Outcome) × (outcome_of new.judge ≡ Some x) × (fate_told o ≡ own_fate (has_values bytes) (fate_of x))
  pub fate : (file : List ℕ) → IsDimacs file (formula_of old.judge) → IsOutputFate file bytes old.judge.most (fate_told o)
  pub values : AreValuesTold (formula_of old.judge) (stream_values Drup (formula_of old.judge).vars true (stream_of true bytes) old.judge.most) (bits_of new.judge) o
