-- What an end of a connection tells.
use Rattle.std.specs.Prelude.{◌≡◌, ℕ, ◌≤◌, ◌<◌, List, [], ◌++◌, length, take, drop, Option, None, Some, IfSome, option_map, Result, Ok, Err}

-- A read gave the first bytes of those left, and none only where none was left. `buffer` is the buffer after it.
abbrev pub Receives : {E : Type 0} → Option (List ℕ) → Option (List ℕ) → List ℕ → Result ℕ E → Type 0
Receives before now buffer (Err _) = now ≡ before
Receives None now buffer (Ok count) = now ≡ None
Receives (Some bytes) now buffer (Ok count) =
    (count ≤ length bytes) × (take count buffer ≡ take count bytes) × (now ≡ Some (drop count bytes)) × (count ≡ 0 → bytes ≡ [])

-- these bytes were read, the first of those left, where they are told
abbrev pub Took : Option (List ℕ) → Option (List ℕ) → List ℕ → Type 0
Took before now bytes = IfSome before (λ all. (rest : List ℕ) × (all ≡ bytes ++ rest) × (now ≡ Some rest))

-- no byte is left, where they are told
abbrev pub IsOut : Option (List ℕ) → Type 0
IsOut left = IfSome left (λ bytes. bytes ≡ [])

-- fewer bytes than n are left, where they are told
abbrev pub HasFewer : Option (List ℕ) → ℕ → Type 0
HasFewer left n = IfSome left (λ bytes. length bytes < n)

-- these bytes were written after the others, where they are told
abbrev pub Grew : Option (List ℕ) → Option (List ℕ) → List ℕ → Type 0
Grew before now bytes = now ≡ option_map (λ written. written ++ bytes) before
