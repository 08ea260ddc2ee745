-- A judge of a stream, and what its answers tell.
use Rattle.std.specs.Prelude.{◌≡◌, ◌⊎◌, ℕ, ◌<◌, ◌≤◌, Bool, List, ◌++◌, length, take, Option, Some, None}
use Rattle.cnf_form.specs.Cnf.{LitOf}
use Rattle.pair_form.specs.Pair.{IsInvariant, PairOf}
use Rattle.inv_stream.specs.Machine.{InvOf, InvSaying, fault}
use Rattle.inv_stream.specs.Telling.{after, at_end_says, fault_said, fresh, said}
use Rattle.cert_judge.specs.declared.stream.CertKind.TheVariants.{EarlyEnd, TooLong}
use Rattle.inv_fate.specs.Fate.{StreamFate, SayingsFate, InvFate, InvFateOf, InvFateSoFar}
use Rattle.inv_judge.specs.Claim.{ClaimOf, Leads, fate_of, fate_told, with_outcome}
use Rattle.inv_judge.specs.declared.outcome.InvOutcome.{InvOutcome}
use Rattle.inv_judge.specs.declared.outcome.InvOutcome.TheVariants.{Found, Bad}

-- what is kept of the bytes so far, how many there were, the greatest number of bytes, and whether memory ran out
pub record JudgeOf : Type 0 where
  pub parser : InvOf
  pub claim : ClaimOf
  pub count : ℕ
  pub most : ℕ
  pub wanting : Bool

abbrev pub pair_of : JudgeOf → PairOf
pair_of j = j.claim.pair

abbrev pub outcome_of : JudgeOf → Option InvOutcome
outcome_of j = j.claim.outcome

-- The bytes are undecided, and no fault is in them: the parser is what it is after them, and whatever more is said has from the claim on
-- the fate that it has after all that they say.
pub record AwaitsMore (w : InvOf) (c : ClaimOf) (bytes : List ℕ) : Type 0 where
  pub parser : w ≡ after (fresh c.pair.formula.vars) bytes
  pub whole : fault w ≡ None
  pub undecided : c.outcome ≡ None
  pub fate : (rest : List InvSaying) (fate : Option InvFate) → SayingsFate c.pair c.part c.invariant c.present rest fate → StreamFate c.pair (said (fresh c.pair.formula.vars) bytes ++ rest) fate

-- without an outcome, the bytes, `most` at most, are undecided
abbrev pub HasTakenWith : JudgeOf → List ℕ → Option InvOutcome → Type 0
HasTakenWith j bytes None = AwaitsMore j.parser j.claim bytes × (j.count ≡ length bytes) × (length bytes ≤ j.most)
HasTakenWith j bytes (Some o) = InvFateSoFar (pair_of j) bytes j.most (Some (fate_of o))

-- the judge took the bytes of a stream
abbrev pub HasTaken : JudgeOf → List ℕ → Type 0
HasTaken j bytes = HasTakenWith j bytes (outcome_of j)

-- the same pair, and the same number of bytes at most
pub record IsSameJudge (old new : JudgeOf) : Type 0 where
  pub pair : pair_of new ≡ pair_of old
  pub most : new.most ≡ old.most

-- The judge took the bytes, and answers their fate so far. Where they are a certificate, some clauses are an invariant of the pair.
pub record Feeds (old new : JudgeOf) (bytes : List ℕ) (o : Option InvOutcome) : Type 0 where
  pub stands : HasTaken new bytes
  pub outcome : outcome_of new ≡ o
  pub fate : InvFateSoFar (pair_of old) bytes old.most (fate_told o)
  pub found : o ≡ Some Found → (I : List (List LitOf)) × IsInvariant (pair_of old) I

-- The judge answered the fate of the bytes as the whole stream.
pub record IsOver (j : JudgeOf) (bytes : List ℕ) (o : InvOutcome) : Type 0 where
  pub outcome : outcome_of j ≡ Some o
  pub fate : InvFateOf (pair_of j) bytes j.most (fate_of o)
  pub found : o ≡ Found → (I : List (List LitOf)) × IsInvariant (pair_of j) I

-- The bytes, after those that the parser w stands for, lead with the fault that they have to the new claim; and where that has no outcome, the
-- parser stands for all.
pub record Heard (w : InvOf) (old : ClaimOf) (bytes : List ℕ) (v : InvOf) (new : ClaimOf) : Type 0 where
  pub leads : Leads old (said w bytes ++ fault_said (fault (after w bytes))) new
  pub kept : new.outcome ≡ None → v ≡ after w bytes
  pub whole : new.outcome ≡ None → fault (after w bytes) ≡ None

-- an outcome where there is none
abbrev pub outcome_or : ClaimOf → Option InvOutcome → InvOutcome → ClaimOf
outcome_or c None o = with_outcome c o
outcome_or c (Some p) o = c

-- a piece is taken as far as there is room for it; what is too much is an outcome where there is no other
abbrev pub TakesPiece : ℕ → ℕ → InvOf → ClaimOf → List ℕ → InvOf → ClaimOf → Type 0
TakesPiece most room w old piece v new =
    ((length piece ≤ room) × Heard w old piece v new)
    ⊎ ((claim : ClaimOf) × (room < length piece) × Heard w old (take room piece) v claim × (new ≡ outcome_or claim claim.outcome (Bad (record { kind = TooLong; at = most }))))

-- the stream's end is heard, and without an outcome it is too early
abbrev pub TakesEnd : ℕ → InvOf → ClaimOf → ClaimOf → Type 0
TakesEnd count w old new =
    (claim : ClaimOf) × Leads old (at_end_says w ++ fault_said (fault w)) claim × (new ≡ outcome_or claim claim.outcome (Bad (record { kind = EarlyEnd; at = count })))
