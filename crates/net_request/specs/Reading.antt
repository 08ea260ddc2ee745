-- What the steps of reading a request answer.
use Rattle.std.specs.Prelude.{◌≡◌, ℕ, ◌++◌, ◌<◌, ◌≤◌, ◌^◌, List, length, Option, None, Some, IfSome}
use Rattle.std.specs.Int.{w64, to_be_bytes}
use lib.ListN.{get_or}
use Rattle.net_link.specs.Link.{HasFewer, Took}

-- eight bytes, or none: fewer were left
abbrev pub IsWord : Option (List ℕ) → Option (List ℕ) → Option (List ℕ) → Type 0
IsWord before now (Some word) = Took before now word × (length word ≡ 8) × ((i : ℕ) → get_or word i 0 < 256)
IsWord before now None = HasFewer before 8

-- a number of eight bytes between these bounds, or none: the bytes begin with no such number
abbrev pub IsNumber : Option (List ℕ) → Option (List ℕ) → ℕ → ℕ → Option ℕ → Type 0
IsNumber before now least most (Some n) = Took before now (to_be_bytes w64 n) × (least ≤ n) × (n ≤ most)
IsNumber before now least most None = IfSome before (λ bytes. (n : ℕ) (rest : List ℕ) → bytes ≡ to_be_bytes w64 n ++ rest → least ≤ n → n ≤ most → n < 2 ^ 64 → ⊥)

-- n bytes, or none: fewer were left
abbrev pub AreBytes : Option (List ℕ) → Option (List ℕ) → ℕ → Option (List ℕ) → Type 0
AreBytes before now n (Some job) = Took before now job × (length job ≡ n)
AreBytes before now n None = HasFewer before n
