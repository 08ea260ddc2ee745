use Rattle.std.proofs.Common.{◌≡◌, ◌⊎◌, ◌<◌, ℕ, List, Some, length, get_or, ap, subst, arith}
use Rattle.std.specs.Prelude.{slice_get}
use Rattle.std.proofs.lemmas.Option.{slice_get-get_or}
use Rattle.model_core.specs.declared.model.Control.{Control}
use Rattle.model_cone.proofs.Marks.{spread-then}
use Rattle.model_cone.proofs.Reading.{bit-spread, register-is}
use Rattle.model_cone.proofs.marking.mark_bit.Goals as goal

-- the bit's place in a row that has one for each bit
at-bit : (row other : List ℕ) (n k : ℕ) → row ≡ other → length other ≡ n → k < n → slice_get other k ≡ Some (get_or row k 0)
at-bit row other n k e w l =
    let s : length row ≡ length other = ap (λ (xs : List ℕ). length xs) e in
    subst (λ (xs : List ℕ). slice_get xs k ≡ Some (get_or row k 0)) e (slice_get-get_or row k 0 (omega arith))

pub returns : goal.returns
returns c =
    let m = c.args.model.now in
    let k = c.args.bit in
    let b = c.requires.bit in
    let is = register-is m c.requires.model c.args.register b.0 b.1 in
    let d = get_or c.d.result.now k 0 in
    let v = get_or c.value.result.now k 0 in
    let x = c.enable.result.place in
    let y = c.reset.result.place in
    bit-spread m c.args.register k b.0 b.1 d v x y (at-bit c.d.result.now b.0.d (length b.0.q) k (c.d.ensures b.0 b.1) is.d b.2)
    (at-bit c.value.result.now b.0.value (length b.0.q) k (c.value.ensures b.0 b.1) is.value b.2)
    (ap (λ (z : Control). z.place) (c.enable.ensures b.0 b.1)) (ap (λ (z : Control). z.place) (c.reset.ensures b.0 b.1)) _ _ _ _
    (spread-then (λ p. ((p ≡ d) ⊎ (p ≡ v)) ⊎ (p ≡ x)) (λ p. p ≡ y) _ _ _ _ _ _
    (spread-then (λ p. (p ≡ d) ⊎ (p ≡ v)) (λ p. p ≡ x) _ _ _ _ _ _
    (spread-then (λ p. p ≡ d) (λ p. p ≡ v) _ _ _ _ _ _ c.in_ok-mark.ensures c.in_ok-mark-2.ensures)
    c.in_ok-mark-3.ensures)
    c.in_ok-mark-4.ensures)
