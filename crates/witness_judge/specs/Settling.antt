-- What a judge knows of a witness, and what it makes of it.
use Rattle.std.specs.Prelude.{◌≡◌, ◌<◌, List, length}
use Rattle.std.specs.List.{AllByRecursion}
use Rattle.sby_bits.specs.Rows.{Row}
use Rattle.cert_judge.specs.declared.stream.CertKind.TheVariants.{BadWitness as BadWitnessKind, EarlyEnd as EarlyEndKind}
use Rattle.btor_witness.specs.Found.{IsKept}
use Rattle.btor_witness.specs.Grammar.{FrameFits, WitnessOf}
use Rattle.btor_witness.specs.Machine.{WitnessesOf}
use Rattle.btor_witness.specs.declared.spot.Seen.{Seen}
use Rattle.btor_witness.specs.declared.spot.Seen.TheVariants.{More, Whole, Unknown, EarlyEnd, BadWitness}
use Rattle.witness_judge.specs.Choosing.{AskedOf, shape_of}
use Rattle.witness_judge.specs.Judging.{IsPlayed, fate_of}
use Rattle.witness_judge.specs.Playing.{PlaysTo}
use Rattle.witness_judge.specs.declared.outcome.Outcome.{Outcome}
use Rattle.witness_judge.specs.declared.outcome.Outcome.TheVariants as outcome

-- the reader keeps what the frames of a witness choose, but for those past the last
pub record HasChosen (a : AskedOf) (w : WitnessesOf) (x : WitnessOf) : Type 0 where
  pub kept : IsKept (shape_of a) a.sought.last x w
  pub some : 0 < length x.frames
  pub fits : AllByRecursion (FrameFits (shape_of a)) x.frames

-- the outcome is the fate of the witness, with its run
pub record Tells (a : AskedOf) (x : WitnessOf) (o : Outcome) : Type 0 where
  pub fate : PlaysTo a x (fate_of o)
  pub run : (rows : List Row) → o ≡ outcome.Played rows → IsPlayed a x rows

-- the outcome of a stream in which this is seen
abbrev pub Settles : AskedOf → WitnessesOf → Seen → Outcome → Type 0
Settles a w More o = o ≡ outcome.Unknown
Settles a w Whole o = (x : WitnessOf) → HasChosen a w x → Tells a x o
Settles a w Unknown o = o ≡ outcome.Unknown
Settles a w (EarlyEnd n) o = o ≡ outcome.Bad (record { kind = EarlyEndKind; at = n })
Settles a w (BadWitness n) o = o ≡ outcome.Bad (record { kind = BadWitnessKind; at = n })
