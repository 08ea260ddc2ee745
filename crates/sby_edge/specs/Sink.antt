-- Output: the bytes taken so far.
use Rattle.std.specs.Prelude.{◌≡◌, ◌⊎◌, ℕ, ◌<◌, List, ◌++◌, length, take, Option, option_map, IfSome, IfOk, OnErr, Result, Ok, Err}

-- a sink that tells has taken the first `count` bytes of the piece, and nothing where the call failed
abbrev pub Takes : {E : Type 0} → Option (List ℕ) → Option (List ℕ) → List ℕ → Result ℕ E → Type 0
Takes before now piece (Ok count) = now ≡ option_map (λ taken. taken ++ take count piece) before
Takes before now piece (Err _) = now ≡ before

-- this many bytes are all that were taken, where both are told
abbrev pub AreAll : Option ℕ → Option (List ℕ) → Type 0
AreAll count taken = IfSome count (λ n. IfSome taken (λ bytes. n ≡ length bytes))

-- How many bytes had been taken when a call last failed, or took nothing of a piece that isn't empty, where it is told: all so far,
-- if this call did; else as many as before.
pub record EndsAt {E : Type 0} (before now : Option ℕ) (taken : Option (List ℕ)) (piece : List ℕ) (result : Result ℕ E) : Type 0 where
  pub failed : OnErr result (AreAll now taken)
  pub nothing : IfOk result (λ count. count ≡ 0 → 0 < length piece → AreAll now taken)
  pub ok : IfOk result (λ count. (0 < count) ⊎ (length piece ≡ 0) → now ≡ before)
