-- The places of a design's bits: each bit has a place of its own.
use Rattle.std.proofs.Common.{◌≡◌, inl, inr, ℕ, zero, suc, ◌+◌, ◌<◌, ◌≤◌, Bool, true, false, cond, List, [], ◌∷◌, take, Some, refl, ap, ◌∙◌, arith}
use Rattle.std.specs.Prelude.{slice_get}
use Rattle.std.specs.List.{sum_by}
use Rattle.std.proofs.lemmas.Bool.{cases_lt}
use Rattle.std.proofs.lemmas.List.Sums.{sum_by-cons}
use Rattle.design_core.specs.Shape.{WireOf, DesignOf, IsDeclared, wire_bits}
use Rattle.design_core.specs.Places.{offset, place_of, places}
use Rattle.design_signals.specs.declared.sig_bit.SigBit.{SigBit}
use Rattle.design_signals.specs.declared.sig_bit.SigBit.TheVariants.{Wire, Const, Free}

module _ {X : Type 0} (f : X → ℕ) where
  -- what stands before i, and i's own part, are not more than what stands before a later place
  pub sum_by-before : (xs : List X) (i j : ℕ) (x : X) → i < j → slice_get xs i ≡ Some x → sum_by f (take i xs) + f x ≤ sum_by f (take j xs)
  sum_by-before [] i j x lt h = cc
  sum_by-before (y ∷ xs) i zero x lt h = absurd (omega arith)
  sum_by-before (y ∷ xs) zero (suc j) x lt h =
      let e : y ≡ x = cc in
      let same : f y ≡ f x = ap f e in
      omega (arith, sum_by-cons f y (take j xs))
  sum_by-before (y ∷ xs) (suc i) (suc j) x lt h =
      let before : sum_by f (take i xs) + f x ≤ sum_by f (take j xs) = sum_by-before xs i j x (omega arith) h in
      omega (arith, sum_by-cons f y (take i xs), sum_by-cons f y (take j xs))

  pub sum_by-within : (xs : List X) (i : ℕ) (x : X) → slice_get xs i ≡ Some x → sum_by f (take i xs) + f x ≤ sum_by f xs
  sum_by-within [] i x h = cc
  sum_by-within (y ∷ xs) zero x h =
      let e : y ≡ x = cc in
      let same : f y ≡ f x = ap f e in
      omega (arith, sum_by-cons f y xs)
  sum_by-within (y ∷ xs) (suc i) x h =
      let before : sum_by f (take i xs) + f x ≤ sum_by f xs = sum_by-within xs i x h in
      omega (arith, sum_by-cons f y (take i xs), sum_by-cons f y xs)

module _ (d : DesignOf) where
  bit_number : Bool → ℕ
  bit_number b = cond b 1 0

  pub bit_number-most : (b : Bool) → cond b 1 0 ≤ 1
  bit_number-most true = omega arith
  bit_number-most false = omega arith

  bit_number-same : (a b : Bool) → ◌≡◌ {A = ℕ} (cond a 1 0) (cond b 1 0) → a ≡ b
  bit_number-same true true h = refl
  bit_number-same false false h = refl
  bit_number-same true false h = absurd (omega arith)
  bit_number-same false true h = absurd (omega arith)

  -- a wire's bit stands among the wires' bits
  pub place_of-wire : (w b : ℕ) → IsDeclared d.wires d.free (Wire w b) → offset d w + b < wire_bits d
  place_of-wire w b h = let within = sum_by-within (λ (x : WireOf). x.width) d.wires w h.0 h.1 in omega (arith, within, h.2)

  pub place_of-within : (a : SigBit) → IsDeclared d.wires d.free a → place_of d a < places d
  place_of-within (Wire w b) h = omega (arith, place_of-wire w b h)
  place_of-within (Const b) h = omega (arith, bit_number-most b)
  place_of-within (Free n) h = omega arith

  -- two bits of one place are one bit
  pub place_of-same : (a b : SigBit) → IsDeclared d.wires d.free a → IsDeclared d.wires d.free b → place_of d a ≡ place_of d b → a ≡ b
  place_of-same (Wire w b) (Wire u c) h k e =
      elim (cases_lt w u) as (λ _. ◌≡◌ {A = SigBit} (Wire w b) (Wire u c)) [
        | inl lt ↦ absurd (omega (arith, sum_by-before (λ (x : WireOf). x.width) d.wires w u h.0 lt h.1, h.2))
        | inr le ↦ elim (cases_lt u w) as (λ _. ◌≡◌ {A = SigBit} (Wire w b) (Wire u c)) [
          | inl lt ↦ absurd (omega (arith, sum_by-before (λ (x : WireOf). x.width) d.wires u w k.0 lt k.1, k.2))
          | inr ge ↦
              let same : w ≡ u = omega arith in
              let at : offset d w ≡ offset d u = ap (offset d) same in
              let bit : b ≡ c = omega arith in
              ap (λ (x : ℕ). Wire x b) same ∙ ap (λ (x : ℕ). Wire u x) bit
        ]
      ]
  place_of-same (Wire w b) (Const c) h k e = absurd (omega (arith, place_of-wire w b h))
  place_of-same (Wire w b) (Free n) h k e = absurd (omega (arith, place_of-wire w b h))
  place_of-same (Const c) (Wire w b) h k e = absurd (omega (arith, place_of-wire w b k))
  place_of-same (Free n) (Wire w b) h k e = absurd (omega (arith, place_of-wire w b k))
  place_of-same (Const a) (Const b) h k e = ap Const (bit_number-same a b (omega arith))
  place_of-same (Const a) (Free n) h k e = absurd (omega (arith, bit_number-most a))
  place_of-same (Free n) (Const a) h k e = absurd (omega (arith, bit_number-most a))
  place_of-same (Free m) (Free n) h k e = ap Free (omega arith)
