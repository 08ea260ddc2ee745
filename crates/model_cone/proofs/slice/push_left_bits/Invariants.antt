use Rattle.std.proofs.Common.{◌≡◌, ◌++◌, ◌∷◌, [], ℕ, map, not, take}
use Rattle.std.specs.List.{filter}
use Rattle.model_cone.specs.Slice.{kept_by, zeroes}
use Rattle.model_cone.proofs.slice.push_left_bits.Given as goal

abbrev pub invariant-loop-place : goal.invariant-loop-place
invariant-loop-place l =
    l.draft ≡ record l.fn.draft { nodes = l.fn.draft.nodes ++ map (λ (p : ℕ). zeroes l.zero (p ∷ [])) (filter (λ (p : ℕ). not (kept_by l.marks p)) (take l.place-index l.places)) }
