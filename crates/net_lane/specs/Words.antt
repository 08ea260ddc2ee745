-- The words of a start on an engine elsewhere.
use Rattle.std.specs.Prelude.{◌≡◌, ℕ, ◌≤◌, List, [], ◌∷◌, Option, Some, None, codes, decimal}
use Rattle.sby_terms.specs.Address.{IsAddress}

-- an address alone, or an address, --conflicts and a number from 1 to 1,000,000,000
abbrev pub AsksOf : List (List ℕ) → List ℕ → Option ℕ → Type 0
AsksOf words address None = words ≡ address ∷ []
AsksOf words address (Some n) = (words ≡ address ∷ codes "--conflicts" ∷ decimal n ∷ []) × (1 ≤ n) × (n ≤ 1000000000)

-- so after the word net, where the address is a host, a colon and a port
abbrev pub AsksNet : List (List ℕ) → List ℕ → Option ℕ → Type 0
AsksNet words address conflicts = (rest : List (List ℕ)) × (words ≡ codes "net" ∷ rest) × AsksOf rest address conflicts × IsAddress address

-- the budget of the request: without a number the greatest that can be asked
abbrev pub budget_of : Option ℕ → ℕ
budget_of None = 1000000000
budget_of (Some n) = n
