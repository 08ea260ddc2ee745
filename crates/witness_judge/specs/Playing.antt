-- The fate of a witness's run.
use Rattle.std.specs.Prelude.{◌≡◌, ◌⊎◌, ℕ, ◌-◌, ◌<◌, ◌≤◌, length}
use Rattle.sby_terms.specs.declared.names.Answer.TheVariants.{Sat}
use Rattle.model_core.specs.Choices.{Plays}
use Rattle.model_core.specs.Claims.{ReachRun, Shows}
use Rattle.model_core.specs.Meaning.{Assumed, Cycle}
use Rattle.model_core.specs.Shape.{ModelOf}
use Rattle.cert_judge.specs.Fate.{Fate, Found, Bad}
use Rattle.cert_judge.specs.declared.stream.CertKind.TheVariants.{NotPlaying}
use Rattle.btor_emit.specs.Goals.{IsGoal}
use Rattle.btor_emit.specs.declared.goal.Goal.{Goal}
use Rattle.btor_emit.specs.declared.goal.Goal.TheVariants as goal
use Rattle.btor_witness.specs.Grammar.{WitnessOf}
use Rattle.witness_judge.specs.Choosing.{AskedOf, choices_for}
use Rattle.witness_judge.specs.declared.sought.Sought.{Sought}

-- the first n cycles are assumed
abbrev pub AreAssumed : ModelOf → ℕ → (ℕ → Cycle) → Type 0
AreAssumed m n cs = (t : ℕ) → t < n → Assumed m (cs t)

-- of n cycles number t, counted from 0, is the first that isn't assumed
pub record IsFirstUnassumed (m : ModelOf) (n : ℕ) (cs : ℕ → Cycle) (t : ℕ) : Type 0 where
  pub within : t < n
  pub before : AreAssumed m t cs
  pub fails : Assumed m (cs t) → ⊥

-- the last of n cycles is late enough, and bad k is in it
pub record IsReached (m : ModelOf) (s : Sought) (n : ℕ) (cs : ℕ → Cycle) (k : ℕ) : Type 0 where
  pub late : s.first < n
  pub bad : IsGoal m s.goal (cs (n - 1)) k

-- the fate of a run of n cycles, for bad k
abbrev pub RunFate : ModelOf → Sought → ℕ → (ℕ → Cycle) → ℕ → Fate → Type 0
RunFate m s n cs k fate =
    ((t : ℕ) × IsFirstUnassumed m n cs t × (fate ≡ Bad NotPlaying t))
    ⊎ (AreAssumed m n cs × IsReached m s n cs k × (fate ≡ Found Sat))
    ⊎ (AreAssumed m n cs × (IsReached m s n cs k → ⊥) × (fate ≡ Bad NotPlaying (n - 1)))

-- The fate of a witness: it has too many frames, or the fate is that of the run that plays what they choose.
abbrev pub PlaysTo : AskedOf → WitnessOf → Fate → Type 0
PlaysTo a x fate =
    ((a.sought.last < length x.frames) × (fate ≡ Bad NotPlaying a.sought.last))
    ⊎ ((length x.frames ≤ a.sought.last) × ((cs : ℕ → Cycle) × Plays a.model (choices_for a x.frames) cs × RunFate a.model a.sought (length x.frames) cs x.bad fate))

-- a run of n cycles, each of them assumed, whose last breaks an assertion, or reaches the cover statement
abbrev pub ShowsGoal : ModelOf → Goal → ℕ → (ℕ → Cycle) → Type 0
ShowsGoal m goal.Asserts n cs = (k : ℕ) × Shows m n cs k
ShowsGoal m (goal.Cover j) n cs = ReachRun m n cs j

-- there is such a run, whose last cycle is one of those where the goal is sought
pub record IsFound (m : ModelOf) (s : Sought) : Type 0 where
  pub cycles : ℕ
  pub run : ℕ → Cycle
  pub late : s.first < cycles
  pub within : cycles ≤ s.last
  pub shows : ShowsGoal m s.goal cycles run
