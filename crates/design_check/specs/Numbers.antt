-- Numbers as the machine has them.
use Rattle.std.specs.Prelude.{◌≡◌, ℕ, ◌≤◌, ◌^◌, Option, None, Some}

-- the number, or None where it is past 64 bits
abbrev pub IsNumber : Option ℕ → ℕ → Type 0
IsNumber None n = 2 ^ 64 ≤ n
IsNumber (Some m) n = m ≡ n
