-- What is decided of a pair.
use Rattle.std.specs.Prelude.{ℕ, Bool, false, List, Option, Some, None, slice_get}
use Rattle.std.specs.declared.vec.Vec.{Vec}
use Rattle.cnf_form.specs.Cnf.{Assignment}
use Rattle.pair_form.specs.Pair.{PairOf}
use Rattle.cdcl_core.specs.Solving.{valued}
use Rattle.pdr_core.specs.Work.{IsSpent, WorkOf}
use Rattle.pdr_run.specs.Answer.{IsInvariantStream}
use Rattle.pdr_run.specs.Breaking.{Breaks}
use Rattle.pdr_run.specs.declared.deciding.Outcome.{Outcome}
use Rattle.pdr_run.specs.declared.deciding.Outcome.TheVariants.{Proved, Broken, Spent}

-- the assignment of a cycle's values, that of each variable at its number
abbrev pub valued_by : {X : Type 0} → Option (Vec Bool X) → Assignment
valued_by None = λ _. false
valued_by (Some values) = valued values.items

abbrev pub cycle_at : {X : Type 0} → List (Vec Bool X) → ℕ → Assignment
cycle_at cycles i = valued_by (slice_get cycles i)

-- what is said of the pair is so, and nothing is left where nothing is said
abbrev pub IsOutcome : PairOf → WorkOf → Outcome → Type 0
IsOutcome p work (Proved stream) = IsInvariantStream p stream.items
IsOutcome p work (Broken n) = Breaks p n
IsOutcome p work Spent = IsSpent work
