-- Streams of an inductive invariant, as evidence for the job Inv.
use Rattle.std.specs.Prelude.{◌≡◌, ℕ, List, Option, option_map}
use Rattle.cert_judge.specs.Fate.{Fate}
use Rattle.cert_judge.specs.Fate as fate
use Rattle.inv_fate.specs.Fate.{InvFate, InvFateOf, InvFateSoFar, Found, Unknown, Bad}
use Rattle.sby_terms.specs.declared.names.Answer.TheVariants.{Unsat}
use Rattle.sby_terms.specs.declared.names.JobName.{JobName}
use Rattle.sby_terms.specs.declared.names.JobName.TheVariants.{Inv}
use Rattle.judge.specs.Problem.{AskedOf, pair_in}

-- the fate of a stream of an invariant: one that is found shows that the job can't be solved
abbrev pub fate_in : InvFate → Fate
fate_in Found = fate.Found Unsat
fate_in Unknown = fate.Unknown
fate_in (Bad kind at) = fate.Bad kind at

-- the fate of these bytes of a stream as an invariant, `most` of them at most: where more may follow
abbrev pub IsProvedSoFar : AskedOf → JobName → List ℕ → ℕ → Option Fate → Type 0
IsProvedSoFar p job bytes most told = (job ≡ Inv) × ((x : Option InvFate) × InvFateSoFar (pair_in p) bytes most x × (told ≡ option_map fate_in x))

-- and where the stream ends with them
abbrev pub IsProved : AskedOf → JobName → List ℕ → ℕ → Fate → Type 0
IsProved p job bytes most told = (job ≡ Inv) × ((x : InvFate) × InvFateOf (pair_in p) bytes most x × (told ≡ fate_in x))
