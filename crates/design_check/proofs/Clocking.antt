-- Registers whose clock differs from the first one's.
use Rattle.std.proofs.Common.{◌≡◌, inl, inr, ℕ, ◌<◌, true, List, length, Some, None, sym, subst, arith}
use Rattle.std.specs.Prelude.{slice_get, position}
use Rattle.std.proofs.lemmas.Bool.{cases_lt}
use Rattle.std.proofs.lemmas.Option.{slice_get_within}
use Rattle.design_core.specs.Shape.{CellOf, DesignOf}
use Rattle.design_core.specs.Table.{is_clocked}
use Rattle.design_meaning.specs.Meaning.{IsCell}
use Rattle.design_check.specs.Faults.{IsFirstClocked, IsOneClock, IsOtherClock}
use Rattle.design_check.proofs.Firsts.{IsFirstPlace, first-position, Passes}
use Rattle.design_core.proofs.Lists.{one_at}

module _ (d : DesignOf) where
  first_clock-same : (f g : ℕ) (a b : CellOf) → IsFirstClocked d f a → IsFirstClocked d g b → a ≡ b
  first_clock-same f g a b h k =
      elim (cases_lt f g) as (λ _. a ≡ b) [
        | inl less ↦ absurd (k.2 f a less h.0 h.1)
        | inr most ↦ elim (cases_lt g f) as (λ _. a ≡ b) [
          | inl less ↦ absurd (h.2 g b less k.0 k.1)
          | inr least ↦ let e : f ≡ g = omega arith in one_at d.cells g a b (subst (λ (j : ℕ). slice_get d.cells j ≡ Some a) e h.0) k.0
        ]
      ]

  pub first_clock-from : (f : ℕ) (a : CellOf) → Some f ≡ position (λ (c : CellOf). is_clocked c.kind) d.cells → IsCell d f a → IsFirstClocked d f a
  first_clock-from f a e at =
      let h = subst (IsFirstPlace (Passes (λ (c : CellOf). is_clocked c.kind) d.cells)) (sym e) (first-position (λ (c : CellOf). is_clocked c.kind) d.cells) in
      (at, subst (λ (x : CellOf). is_clocked x.kind ≡ true) (one_at d.cells f h.0.0 a h.0.1 at) h.0.2, λ k x less there clocked. h.1 k less (x, there, clocked))

  pub no_clock : None ≡ position (λ (c : CellOf). is_clocked c.kind) d.cells → (i : ℕ) (c : CellOf) → IsCell d i c → IsOtherClock d c → ⊥
  no_clock e i c at h =
      let none = subst (IsFirstPlace (Passes (λ (c : CellOf). is_clocked c.kind) d.cells)) (sym e) (first-position (λ (c : CellOf). is_clocked c.kind) d.cells) in
      none i (c, at, h.0)

  module _ (f : ℕ) (a : CellOf) (first : IsFirstClocked d f a) (place : ℕ)
      (before : (k : ℕ) (x : CellOf) → k < place → slice_get d.cells k ≡ Some x → is_clocked x.kind ≡ true → IsOneClock d a x) where
    pub none-before : (k : ℕ) (c : CellOf) → k < place → IsCell d k c → IsOtherClock d c → ⊥
    none-before k c less at h =
        let other = h.1 in
        other.3 (subst (λ (x : CellOf). IsOneClock d x c) (first_clock-same f other.0 a other.1 first other.2) (before k c less at h.0))

    pub clock-differs : (c : CellOf) → is_clocked c.kind ≡ true → (IsOneClock d a c → ⊥) → IsOtherClock d c
    clock-differs c clocked other = (clocked, (f, a, first, other))

pub first_clock-within : (cells : List CellOf) (f : ℕ) → Some f ≡ position (λ (c : CellOf). is_clocked c.kind) cells → f < length cells
first_clock-within cells f e =
    let h = subst (IsFirstPlace (Passes (λ (c : CellOf). is_clocked c.kind) cells)) (sym e) (first-position (λ (c : CellOf). is_clocked c.kind) cells) in
    slice_get_within cells f h.0.0 h.0.1
