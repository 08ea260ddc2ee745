-- Bytes without a line of s or v.
use Rattle.std.specs.Prelude.{◌≡◌, ℕ, Bool, false, ◌&&◌, List, [], ◌∷◌}
use Rattle.proof_stream.specs.Text.{is_claim, next_starts}

-- no line of s or v begins in the bytes; `starts` tells whether a line may begin at the first
abbrev pub Passes : Bool → List ℕ → Type 0
Passes starts [] = Unit {0}
Passes starts (b ∷ bs) = ((starts && is_claim b) ≡ false) × Passes (next_starts starts b) bs

-- whether one may begin after them
abbrev pub starts_after : Bool → List ℕ → Bool
starts_after starts [] = starts
starts_after starts (b ∷ bs) = starts_after (next_starts starts b) bs
