-- What the words of the engines' programs ask for.
use Rattle.std.specs.Prelude.{◌≡◌, ℕ, ◌≤◌, Bool, true, false, List, [], ◌∷◌, Option, Some, None, codes, decimal}
use Rattle.sby_terms.specs.Address.{IsAddress}

-- a file alone, or --conflicts, a number from 1 to 1,000,000,000 and a file
abbrev pub AsksPlainly : List (List ℕ) → Option ℕ → List ℕ → Type 0
AsksPlainly words None file = words ≡ file ∷ []
AsksPlainly words (Some n) file = (words ≡ codes "--conflicts" ∷ decimal n ∷ file ∷ []) × (1 ≤ n) × (n ≤ 1000000000)

-- so; with hints, after the word --hints
abbrev pub Asks : List (List ℕ) → Bool → Option ℕ → List ℕ → Type 0
Asks words false conflicts file = AsksPlainly words conflicts file
Asks words true conflicts file = (rest : List (List ℕ)) × (words ≡ codes "--hints" ∷ rest) × AsksPlainly rest conflicts file

-- --serve, an address, --count and a number of connections from 1 to 1,000,000
abbrev pub AsksToServe : List (List ℕ) → List ℕ → ℕ → Type 0
AsksToServe words address count =
    (words ≡ codes "--serve" ∷ address ∷ codes "--count" ∷ decimal count ∷ []) × IsAddress address × (1 ≤ count) × (count ≤ 1000000)
