-- The cycle that gives a valuation: what each place has.
use Rattle.std.proofs.Common.{◌≡◌, inl, inr, ℕ, zero, suc, ◌+◌, ◌-◌, ◌<◌, ◌≤◌, Bool, true, false, cond, eqb, List, [], ◌∷◌, length, take, Option, Some, refl, ap, sym, subst, ◌∙◌, arith}
use Rattle.std.specs.Prelude.{ltb, slice_get}
use Rattle.std.specs.List.{sum_by}
use Rattle.std.proofs.lemmas.Bool.{lt-ltb, le-ltb, eq-eqb, eqb-true}
use Rattle.std.proofs.lemmas.List.Sums.{sum_by-cons}
use Rattle.design_core.specs.Places.{offset, places}
use Rattle.design_core.specs.Shape.{CellOf, DesignOf, IsDeclared, WireOf, wire_bits}
use Rattle.design_core.proofs.Places.{place_of-wire, sum_by-within}
use Rattle.design_meaning.specs.Meaning.{Valuation, IsCell, bit_in}
use Rattle.design_meaning.specs.Runs.{kept_offset, kept_width}
use Rattle.design_signals.specs.declared.sig_bit.SigBit.{SigBit}
use Rattle.design_signals.specs.declared.sig_bit.SigBit.TheVariants.{Wire, Const, Free}
use Rattle.model_core.specs.Meaning.{Cycle}
use Rattle.word_model.specs.Layout.{IsAlike, valued, zero_place}

-- which part a place stands in, and at which place of it
locate : {X : Type 0} → (X → ℕ) → List X → ℕ → ℕ × ℕ
locate f [] p = (0, p)
locate f (x ∷ xs) p = cond (ltb p (f x)) (0, p) (suc (locate f xs (p - f x)).0, (locate f xs (p - f x)).1)

located : {X : Type 0} (f : X → ℕ) (xs : List X) (i k : ℕ) (x : X) → slice_get xs i ≡ Some x → k < f x → (p : ℕ) → p ≡ sum_by f (take i xs) + k → locate f xs p ≡ (i, k)
unfolding locate
located f [] i k x at lt p e = absurd cc
located {X = X} f (y ∷ xs) zero k x at lt p e =
    let same : y ≡ x = cc in
    let width : f y ≡ f x = ap f same in
    let here : p ≡ k = omega (arith, e) in
    let less : p < f y = omega (arith, here, width, lt) in
    ap (λ (b : Bool). cond b (0, p) (suc (locate f xs (p - f y)).0, (locate f xs (p - f y)).1)) (lt-ltb p (f y) less)
    ∙ ap (λ (n : ℕ). (0, n)) here
located {X = X} f (y ∷ xs) (suc i) k x at lt p e =
    let whole : p ≡ f y + (sum_by f (take i xs) + k) = omega (arith, e, sum_by-cons f y (take i xs)) in
    let more : f y ≤ p = omega (arith, whole) in
    let rest : p - f y ≡ sum_by f (take i xs) + k = omega (arith, whole) in
    let later : locate f xs (p - f y) ≡ (i, k) = located f xs i k x at lt (p - f y) rest in
    ap (λ (b : Bool). cond b (0, p) (suc (locate f xs (p - f y)).0, (locate f xs (p - f y)).1)) (le-ltb p (f y) more)
    ∙ ap (λ (r : ℕ × ℕ). (suc r.0, r.1)) later

abbrev wire_at : DesignOf → ℕ → ℕ × ℕ
wire_at d p = locate (λ (x : WireOf). x.width) d.wires p

abbrev kept_at : DesignOf → ℕ → ℕ × ℕ
kept_at d p = locate kept_width d.cells (p - places d)

pub coded : DesignOf → Valuation → Cycle
coded d v p =
    cond (ltb p (wire_bits d)) (v.wire (wire_at d p).0 (wire_at d p).1)
    (cond (ltb p (zero_place d)) (v.free (p - wire_bits d))
    (cond (ltb p (places d)) (eqb p (suc (zero_place d))) (v.kept (kept_at d p).0 (kept_at d p).1)))

module _ (d : DesignOf) (v : Valuation) where
  coded-wire : (p : ℕ) → p < wire_bits d → coded d v p ≡ v.wire (wire_at d p).0 (wire_at d p).1
  unfolding coded
  coded-wire p h =
      ap (λ (b : Bool). cond b (v.wire (wire_at d p).0 (wire_at d p).1) (cond (ltb p (zero_place d)) (v.free (p - wire_bits d)) (cond (ltb p (places d)) (eqb p (suc (zero_place d))) (v.kept (kept_at d p).0 (kept_at d p).1))))
      (lt-ltb p (wire_bits d) h)

  past-wires : (p : ℕ) → wire_bits d ≤ p
      → coded d v p ≡ cond (ltb p (zero_place d)) (v.free (p - wire_bits d)) (cond (ltb p (places d)) (eqb p (suc (zero_place d))) (v.kept (kept_at d p).0 (kept_at d p).1))
  unfolding coded
  past-wires p h =
      ap (λ (b : Bool). cond b (v.wire (wire_at d p).0 (wire_at d p).1) (cond (ltb p (zero_place d)) (v.free (p - wire_bits d)) (cond (ltb p (places d)) (eqb p (suc (zero_place d))) (v.kept (kept_at d p).0 (kept_at d p).1))))
      (le-ltb p (wire_bits d) h)

  past-free : (p : ℕ) → zero_place d ≤ p → coded d v p ≡ cond (ltb p (places d)) (eqb p (suc (zero_place d))) (v.kept (kept_at d p).0 (kept_at d p).1)
  past-free p h =
      past-wires p (omega (arith, h))
      ∙ ap (λ (b : Bool). cond b (v.free (p - wire_bits d)) (cond (ltb p (places d)) (eqb p (suc (zero_place d))) (v.kept (kept_at d p).0 (kept_at d p).1))) (le-ltb p (zero_place d) h)

  coded-free : (n : ℕ) → n < d.free → coded d v (wire_bits d + n) ≡ v.free n
  coded-free n h =
      let less : wire_bits d + n < zero_place d = omega (arith, h) in
      let back : wire_bits d + n - wire_bits d ≡ n = omega arith in
      past-wires (wire_bits d + n) (omega arith)
      ∙ (ap (λ (b : Bool). cond b (v.free (wire_bits d + n - wire_bits d)) (cond (ltb (wire_bits d + n) (places d)) (eqb (wire_bits d + n) (suc (zero_place d))) (v.kept (kept_at d (wire_bits d + n)).0 (kept_at d (wire_bits d + n)).1)))
      (lt-ltb (wire_bits d + n) (zero_place d) less)
      ∙ ap v.free back)

  coded-const : (p : ℕ) → zero_place d ≤ p → p < places d → coded d v p ≡ eqb p (suc (zero_place d))
  coded-const p from to = past-free p from ∙ ap (λ (b : Bool). cond b (eqb p (suc (zero_place d))) (v.kept (kept_at d p).0 (kept_at d p).1)) (lt-ltb p (places d) to)

  pub coded-low : coded d v (zero_place d) ≡ false
  coded-low = coded-const (zero_place d) (omega arith) (omega arith) ∙ other (eqb (zero_place d) (suc (zero_place d))) (λ e. let n : zero_place d ≡ suc (zero_place d) = eqb-true (zero_place d) (suc (zero_place d)) e in absurd (omega (arith, n)))
    where
      other : (b : Bool) → (b ≡ true → ⊥) → b ≡ false
      other true h = absurd (h refl)
      other false h = refl

  pub coded-high : coded d v (suc (zero_place d)) ≡ true
  coded-high = coded-const (suc (zero_place d)) (omega arith) (omega arith) ∙ eq-eqb (suc (zero_place d)) (suc (zero_place d)) refl

  coded-kept : (i k : ℕ) (c : CellOf) → IsCell d i c → k < kept_width c → coded d v (places d + kept_offset d i + k) ≡ v.kept i k
  coded-kept i k c at lt =
      let p : ℕ = places d + kept_offset d i + k in
      let from : zero_place d ≤ places d + kept_offset d i + k = omega arith in
      let past : places d ≤ places d + kept_offset d i + k = omega arith in
      let at_part : places d + kept_offset d i + k - places d ≡ kept_offset d i + k = omega arith in
      let found : kept_at d (places d + kept_offset d i + k) ≡ (i, k) = located kept_width d.cells i k c at lt (places d + kept_offset d i + k - places d) at_part in
      past-free (places d + kept_offset d i + k) from
      ∙ (ap (λ (b : Bool). cond b (eqb (places d + kept_offset d i + k) (suc (zero_place d))) (v.kept (kept_at d (places d + kept_offset d i + k)).0 (kept_at d (places d + kept_offset d i + k)).1))
      (le-ltb (places d + kept_offset d i + k) (places d) past)
      ∙ ap (λ (r : ℕ × ℕ). v.kept r.0 r.1) found)

  coded-bit : (b : SigBit) → IsDeclared d.wires d.free b → bit_in v b ≡ bit_in (valued d (coded d v)) b
  coded-bit (Wire w b) h =
      let lt : b < h.0.width = h.2 in
      let found : wire_at d (offset d w + b) ≡ (w, b) = located (λ (x : WireOf). x.width) d.wires w b h.0 h.1 lt (offset d w + b) refl in
      sym (coded-wire (offset d w + b) (place_of-wire d w b h) ∙ ap (λ (r : ℕ × ℕ). v.wire r.0 r.1) found)
  coded-bit (Const b) h = refl
  coded-bit (Free n) h = sym (coded-free n h)

  pub coded-alike : IsAlike d v (valued d (coded d v))
  coded-alike = record { bits = coded-bit; kept = λ i k c at lt. sym (coded-kept i k c at lt) }
