-- The address of a connection.
use Rattle.std.specs.Prelude.{◌≡◌, ℕ, ◌≤◌, Bool, false, ◌&&◌, ◌||◌, eqb, List, [], ◌∷◌, ◌++◌, length, is_some, decimal}
use Rattle.sby_terms.specs.Number.{number_upto}

-- a host, a colon and a port from 1 to 65,535
abbrev pub IsAddress : List ℕ → Type 0
IsAddress word = (host : List ℕ) × (port : ℕ) × (word ≡ host ++ 58 ∷ decimal port) × (1 ≤ length host) × (1 ≤ port) × (port ≤ 65535)

-- some colon has a port after it, to the end
abbrev pub ends_in_port : List ℕ → Bool
ends_in_port [] = false
ends_in_port (b ∷ bs) = (eqb b 58 && is_some (number_upto 65535 bs)) || ends_in_port bs

-- some colon that isn't the first byte
abbrev pub is_address : List ℕ → Bool
is_address [] = false
is_address (b ∷ bs) = ends_in_port bs
