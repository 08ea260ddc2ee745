-- Connections that come and go back.
use Rattle.std.specs.Prelude.{◌≡◌, ℕ, List, [], ◌∷◌, Option, None, Some, option_map}

-- what was written to a connection, where it is told, and how often a call of it failed
pub record Returned : Type 0 where
  pub written : Option (List ℕ)
  pub faults : ℕ

abbrev pub returned : Option (List ℕ) → ℕ → Returned
returned written faults = record { written = written; faults = faults }

-- where a door listens after it was opened at this address, where that is told
abbrev pub now_at : List ℕ → Option (Option (List ℕ)) → Option (Option (List ℕ))
now_at address before = option_map (λ _. Some address) before

-- the first of the requests came, and is what its connection gives, where they are told
abbrev pub Comes : Option (List (List ℕ)) → Option (List (List ℕ)) → Option (List ℕ) → Type 0
Comes None now left = now ≡ None
Comes (Some []) now left = ⊥
Comes (Some (bytes ∷ more)) now left = (now ≡ Some more) × (left ≡ Some bytes)
