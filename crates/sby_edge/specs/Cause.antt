-- Counts of faults. A count is a u64 that stays at its greatest value.
use Rattle.std.specs.Prelude.{◌≡◌, ℕ, ◌+◌, ◌-◌, ◌<◌, ◌≤◌, ◌^◌, min, Result, OnErr, IsErrOf, IsOk}
use Rattle.sby_edge.specs.declared.outside.Fail.{Fail}
use Rattle.sby_edge.specs.declared.outside.Fail.TheVariants.{Failed as FailFailed, Memory as FailMemory}

-- the greatest u64
abbrev pub greatest : ℕ
greatest = 2 ^ 64 - 1

-- one more, or the greatest u64
abbrev pub counted : ℕ → ℕ
counted n = min (n + 1) greatest

-- the count has risen, or stands at the greatest u64
abbrev pub Rose : ℕ → ℕ → Type 0
Rose before now = counted before ≤ now

-- the count rises where the call failed; an answer leaves it as it was, and so does out of memory
pub record HasCause {T : Type 0} (before now : ℕ) (result : Result T Fail) : Type 0 where
  pub later : before ≤ now
  pub stays : before ≡ greatest → now ≡ before
  pub ok : IsOk result → now ≡ before
  pub failed : IsErrOf result FailFailed → Rose before now
  pub memory : IsErrOf result FailMemory → now ≡ before

-- of a call that takes no memory: the count didn't fall, and has risen where the call failed
pub record HasPlainCause {T E : Type 0} (before now : ℕ) (result : Result T E) : Type 0 where
  pub later : before ≤ now
  pub stays : before ≡ greatest → now ≡ before
  pub failed : OnErr result (Rose before now)

-- the count rose where that of a part, which is spent, is above 0, and else stands
pub record RisesBy (part before now : ℕ) : Type 0 where
  pub later : before ≤ now
  pub stays : before ≡ greatest → now ≡ before
  pub rose : 0 < part → Rose before now
  pub stood : part ≡ 0 → now ≡ before

-- the three counts of a bay or a yard
pub record CountsOf : Type 0 where
  pub starts : ℕ
  pub reads : ℕ
  pub holds : ℕ
