-- Room for the registers among the cells that are still to come.
use Rattle.std.proofs.Common.{◌≡◌, ◌⊎◌, ◌↔◌, inl, inr, ℕ, suc, ◌+◌, ◌<◌, ◌≤◌, ◌^◌, List, [], ◌∷◌, length, drop, Some, refl, ap, sym, subst, ◌∙◌, arith}
use Rattle.std.specs.Prelude.{slice_get}
use Rattle.std.specs.List.{sum_by}
use Rattle.std.proofs.lemmas.List.{drop_all}
use Rattle.std.proofs.lemmas.List.Sums.{sum_by-cons}
use Rattle.design_core.specs.Shape.{CellOf, DesignOf, wire_bits}
use Rattle.design_lower.specs.Lowering.{FitsReset}
use Rattle.design_lower.specs.Room.{AreRegisters, HasRoom}
use Rattle.design_lower.proofs.Midway.{drop-at}
use Rattle.design_lower.proofs.Rooms.{wide}

-- the registers among these cells have so few bits, and are so few
abbrev pub IsRoomFor : List CellOf → ℕ → ℕ → Type 0
IsRoomFor cells bits count = (rs : List CellOf) × AreRegisters cells rs × (sum_by wide rs ≤ bits) × (length rs ≤ count)

pub room-start : (d : DesignOf) (bits count : ℕ) → wire_bits d + d.free + bits ≡ 2 ^ 21 → length d.cells + count ≡ 2 ^ 27 → IsRoomFor (drop 0 d.cells) bits count ↔ HasRoom d
room-start d bits count all cells = (
  λ r. let b = r.2 in let n = r.3 in record { registers = r.0; each = r.1; bits = omega (arith, all, b); cells = omega (arith, cells, n) },
  λ h. (h.registers, h.each, (let b = h.bits in omega (arith, all, b)), (let n = h.cells in omega (arith, cells, n))),
)

pub room-end : (cells : List CellOf) (i bits count : ℕ) → length cells ≤ i → IsRoomFor (drop i cells) bits count
room-end cells i bits count all = subst (λ (l : List CellOf). IsRoomFor l bits count) (sym (drop_all i cells all)) ([], refl, omega arith, omega arith)

module _ (cells : List CellOf) (i : ℕ) (c : CellOf) (at : slice_get cells i ≡ Some c) where
  pub room-pass : (bits count : ℕ) → (FitsReset c → ⊥) → IsRoomFor (drop (i + 1) cells) bits count ↔ IsRoomFor (drop i cells) bits count
  room-pass bits count unfit = subst (λ (l : List CellOf). IsRoomFor (drop (i + 1) cells) bits count ↔ IsRoomFor l bits count) (sym (drop-at cells i c at)) (
    λ r. (r.0, inl (unfit, r.1), r.2, r.3),
    λ r. elim r.1 as (λ _. IsRoomFor (drop (i + 1) cells) bits count) [ inl out ↦ (r.0, out.1, r.2, r.3) | inr fit ↦ absurd (unfit fit.0) ],
  )

  module _ (fits : FitsReset c) where
    one-more : (rs rest : List CellOf) → rs ≡ c ∷ rest → (sum_by wide rs ≡ wide c + sum_by wide rest) × (length rs ≡ suc (length rest))
    one-more rs rest e = (ap (λ (l : List CellOf). sum_by wide l) e ∙ sum_by-cons wide c rest, ap (λ (l : List CellOf). length l) e)

    pub room-take : (bits count left less : ℕ) → left + wide c ≡ bits → less + 1 ≡ count → IsRoomFor (drop (i + 1) cells) left less ↔ IsRoomFor (drop i cells) bits count
    room-take bits count left less hb hn = subst (λ (l : List CellOf). IsRoomFor (drop (i + 1) cells) left less ↔ IsRoomFor l bits count) (sym (drop-at cells i c at)) (
      λ r.
          let one = one-more (c ∷ r.0) r.0 refl in
          let s = one.0 in
          let n = one.1 in
          let b = r.2 in
          let m = r.3 in
          (c ∷ r.0, inr (fits, (r.0, refl, r.1)), omega (arith, s, b, hb), omega (arith, n, m, hn)),
      λ r. elim r.1 as (λ _. IsRoomFor (drop (i + 1) cells) left less) [
        | inl out ↦ absurd (out.0 fits)
        | inr fit ↦
            let one = one-more r.0 fit.1.0 fit.1.1 in
            let s = one.0 in
            let n = one.1 in
            let b = r.2 in
            let m = r.3 in
            (fit.1.0, fit.1.2, omega (arith, s, b, hb), omega (arith, n, m, hn))
      ],
    )

    pub room-none : (bits count : ℕ) → (bits < wide c) ⊎ (count ≡ 0) → IsRoomFor (drop i cells) bits count → ⊥
    room-none bits count h room = by (subst (λ (l : List CellOf). IsRoomFor l bits count) (drop-at cells i c at) room)
      where
        by : IsRoomFor (c ∷ drop (i + 1) cells) bits count → ⊥
        by r = elim r.1 as (λ _. ⊥) [
          | inl out ↦ out.0 fits
          | inr fit ↦
              let one = one-more r.0 fit.1.0 fit.1.1 in
              let s = one.0 in
              let n = one.1 in
              let b = r.2 in
              let m = r.3 in
              elim h as (λ _. ⊥) [ inl less ↦ absurd (omega (arith, s, b, less)) | inr none ↦ absurd (omega (arith, n, m, none)) ]
        ]

-- one equivalence after the other
pub through : {P Q R : Type 0} → P ↔ Q → Q ↔ R → P ↔ R
through h k = (λ p. k.0 (h.0 p), λ r. h.1 (k.1 r))
