-- Places that stand where others stand.
use Rattle.std.proofs.Common.{◌≡◌, ◌⊎◌, inl, inr, ℕ, ◌+◌, ◌<◌, ◌≢◌, List, Some, false, length, set, refl, sym, ap, subst, ◌∙◌, arith}
use Rattle.std.specs.Prelude.{Contains, slice_get}
use Rattle.std.proofs.lemmas.Bool.{cases_eq, cases_lt}
use Rattle.std.proofs.lemmas.List.{length-set}
use Rattle.std.proofs.lemmas.Option.{slice_get-get_or, slice_get_within}
use Rattle.btor_emit.specs.Emitting.{AreAliased}
use Rattle.btor_emit.specs.Table.{Table, seat_at}
use Rattle.btor_emit.specs.declared.table.Seat.{Seat}
use Rattle.btor_emit.specs.declared.table.Seat.TheVariants.{Digit}
use Rattle.btor_emit.proofs.Seating.{set_at, set_beside}
use Rattle.model_core.proofs.Lists.{contained_at, place_of_contained}

-- the first n places stand so
pub record AreAliasedTo (before now : Table) (places others : List ℕ) (n : ℕ) : Type 0 where
  pub size : length now ≡ length before
  pub each : (p : ℕ) → ((k q : ℕ) × (k < n) × (slice_get places k ≡ Some p) × (slice_get others k ≡ Some q) × (slice_get now p ≡ slice_get before q)) ⊎ (((k : ℕ) → k < n → slice_get places k ≡ Some p → ⊥) × (slice_get now p ≡ slice_get before p))

pub aliased_none : (t : Table) (places others : List ℕ) → AreAliasedTo t t places others 0
aliased_none t places others = record { size = refl; each = λ p. inr ((λ k l h. absurd (omega arith)), refl) }

pub aliased_more : (before mid now : Table) (places others : List ℕ) (i x y : ℕ) → i < length places → ((p : ℕ) → Contains places p → Contains others p → ⊥) → slice_get places i ≡ Some x → slice_get others i ≡ Some y
    → x < length mid → y < length mid → now ≡ set mid x (seat_at mid y) → AreAliasedTo before mid places others i → AreAliasedTo before now places others (i + 1)
aliased_more before mid now places others i x y l apart at there inside within is old =
    subst (λ (t : Table). AreAliasedTo before t places others (i + 1)) (sym is) (record { size = length-set mid x v ∙ old.size; each = λ p. by p (cases_eq p x) })
  where
    v : Seat
    v = seat_at mid y

    new : Table
    new = set mid x v

    kept : (p : ℕ) → (p ≡ x → ⊥) → slice_get new p ≡ slice_get mid p
    kept p n = set_beside mid x p v n

    y_there : slice_get mid y ≡ slice_get before y
    y_there =
        elim (old.each y) as (λ _. slice_get mid y ≡ slice_get before y) [
          | inl h ↦ absurd (apart y (contained_at places y h.0 h.3) (contained_at others y i there))
          | inr h ↦ h.1
        ]

    here : slice_get new x ≡ slice_get before y
    here = set_at mid x v inside ∙ sym (slice_get-get_or mid y (Digit false) within) ∙ y_there

    by : (p : ℕ) → (p ≡ x) ⊎ (p ≢ x) → ((k q : ℕ) × (k < i + 1) × (slice_get places k ≡ Some p) × (slice_get others k ≡ Some q) × (slice_get new p ≡ slice_get before q)) ⊎ (((k : ℕ) → k < i + 1 → slice_get places k ≡ Some p → ⊥) × (slice_get new p ≡ slice_get before p))
    by p (inl e) = inl (i, y, omega arith, subst (λ (w : ℕ). slice_get places i ≡ Some w) (sym e) at, there, subst (λ (w : ℕ). slice_get new w ≡ slice_get before y) (sym e) here)
    by p (inr n) =
        elim (old.each p) as (λ _. ((k q : ℕ) × (k < i + 1) × (slice_get places k ≡ Some p) × (slice_get others k ≡ Some q) × (slice_get new p ≡ slice_get before q)) ⊎ (((k : ℕ) → k < i + 1 → slice_get places k ≡ Some p → ⊥) × (slice_get new p ≡ slice_get before p))) [
          | inl h ↦ inl (h.0, h.1, (let b = h.2 in omega arith), h.3, h.4, kept p n ∙ h.5)
          | inr h ↦ inr (
            (λ k b a.
                elim (cases_lt k i) as (λ _. ⊥) [
                  | inl under ↦ h.0 k under a
                  | inr over ↦
                      let z : k ≡ i = omega arith in
                      let s : Some p ≡ Some x = sym a ∙ ap (λ (w : ℕ). slice_get places w) z ∙ at in
                      n cc
                ]),
            kept p n ∙ h.1,
          )
        ]

pub aliased_all : (before now : Table) (places others : List ℕ) (n : ℕ) → n ≡ length places → AreAliasedTo before now places others n → AreAliased before now places others
aliased_all before now places others n e old = record {
  size = old.size;
  each = λ p.
      elim (old.each p) as (λ _. ((k q : ℕ) × (slice_get places k ≡ Some p) × (slice_get others k ≡ Some q) × (slice_get now p ≡ slice_get before q)) ⊎ ((Contains places p → ⊥) × (slice_get now p ≡ slice_get before p))) [
        | inl h ↦ inl (h.0, h.1, h.3, h.4, h.5)
        | inr h ↦ inr ((λ c. let at = place_of_contained places p c in h.0 at.0 (let b = slice_get_within places at.0 p at.1 in omega arith) at.1), h.1)
      ];
}
