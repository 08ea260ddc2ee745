-- What the stream says of a pair.
use Rattle.std.specs.Prelude.{◌≡◌, ◌⊎◌, ℕ, ◌+◌, ◌<◌, ◌≤◌, ◌^◌, List, length}
use Rattle.cnf_form.specs.Cnf.{LitOf}
use Rattle.pair_form.specs.Pair.{IsInvariant, PairOf}
use Rattle.inv_fate.specs.Fate.{Found, InvFateOf}
use Rattle.pdr_run.specs.Breaking.{Breaks}
use Rattle.pdr_run.specs.Text.{broken_text, spent_text}

-- A stream that is found to be a certificate within every limit that is at least its length. So some clauses are an invariant of the pair.
pub record IsInvariantStream (p : PairOf) (stream : List ℕ) : Type 0 where
  pub found : (most : ℕ) → length stream ≤ most → InvFateOf p stream most Found
  pub invariant : (I : List (List LitOf)) × IsInvariant p I

-- a stream that says that the budget is spent, and on what: the two numbers make it up
abbrev pub IsSpentStream : ℕ → List ℕ → Type 0
IsSpentStream budget stream = (conflicts : ℕ) × (queries : ℕ) × (conflicts + queries ≡ budget) × (stream ≡ spent_text conflicts queries)

-- a stream that tells the length of a run that breaks an assertion
abbrev pub IsBrokenStream : PairOf → List ℕ → Type 0
IsBrokenStream p stream = (n : ℕ) × (n < 2 ^ 64) × Breaks p n × (stream ≡ broken_text n)

-- the stream with which the program ends with an exit status
abbrev pub IsAnswer : PairOf → ℕ → List ℕ → ℕ → Type 0
IsAnswer p budget stream exit = ((exit ≡ 20) × IsInvariantStream p stream) ⊎ ((exit ≡ 0) × IsSpentStream budget stream) ⊎ ((exit ≡ 0) × IsBrokenStream p stream)
