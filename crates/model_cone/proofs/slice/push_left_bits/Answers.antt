use Rattle.std.proofs.Common.{◌<◌, ◌∷◌, [], ℕ, List, length, get_or, map, not, arith}
use Rattle.std.specs.List.{filter}
use Rattle.std.proofs.lemmas.Option.{slice_get-get_or}
use Rattle.model_cone.specs.Slice.{kept_by, zeroes}
use Rattle.model_cone.proofs.Growing.{mapped-split, nodes-grow}
use Rattle.model_cone.proofs.slice.push_left_bits.Goals as goal

pub loop-place-preserved : goal.loop-place-preserved
loop-place-preserved c =
    let keep = kept_by c.args.marks.now in
    let ps = c.args.places.now in
    let i = c.loop-place.place-index in
    let l : i < length ps = omega arith in
    nodes-grow (λ (qs : List ℕ). map (λ (p : ℕ). zeroes c.args.zero (p ∷ [])) (filter (λ (p : ℕ). not (keep p)) qs))
    (mapped-split (λ (p : ℕ). zeroes c.args.zero (p ∷ [])) (λ (p : ℕ). not (keep p))) ps i (get_or ps i 0) (slice_get-get_or ps i 0 l) _ _ _ c.loop-place.invariant c.in_ok-push_left_bit.ensures
