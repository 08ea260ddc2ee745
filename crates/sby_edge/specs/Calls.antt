-- The calls of a form in memory.
use Rattle.std.specs.Prelude.{◌≡◌, ℕ, List, Contains, Result, IsOk, IsErrOf}
use Rattle.sby_edge.specs.Cause.{counted}
use Rattle.sby_edge.specs.declared.outside.Fail.{Fail}
use Rattle.sby_edge.specs.declared.outside.Fail.TheVariants.{Failed as FailFailed, Memory as FailMemory}

-- the calls that are listed to fail, counted from 1; how many were made, and how many of these failed
pub record CallsOf : Type 0 where
  pub failing : List ℕ
  pub made : ℕ
  pub faults : ℕ

-- nothing called yet
abbrev pub uncalled : List ℕ → CallsOf
uncalled failing = record { failing = failing; made = 0; faults = 0 }

-- after one more call, which was served
abbrev pub served : CallsOf → CallsOf
served calls = record calls { made = counted calls.made }

-- after one more call, which failed
abbrev pub failed : CallsOf → CallsOf
failed calls = record calls { made = counted calls.made; faults = counted calls.faults }

-- the next call is listed to fail
abbrev pub NextFails : CallsOf → Type 0
NextFails calls = Contains calls.failing (counted calls.made)

-- one call was made, with this answer; out of memory makes none
pub record Called {T : Type 0} (before now : CallsOf) (result : Result T Fail) : Type 0 where
  pub ok : IsOk result → now ≡ served before
  pub failed_call : IsErrOf result FailFailed → now ≡ failed before
  pub memory : IsErrOf result FailMemory → now ≡ before
