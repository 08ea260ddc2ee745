-- Where open bits begin.
use Rattle.std.proofs.Common.{◌≡◌, ◌⊎◌, ℕ, zero, suc, ◌+◌, ◌≤◌, true, false, List, [], ◌∷◌, ◌++◌, Option, Some, None, refl, ap, sym, ◌∙◌, inl, inr, arith}
use Rattle.std.specs.Prelude.{IfSome, slice_get, map}
use Rattle.std.proofs.lemmas.Bool.{cases_Bool}
use Rattle.std.proofs.lemmas.List.{map-append}
use Rattle.std.proofs.lemmas.Option.{same_Some}
use Rattle.btor_witness.specs.Shape.{open_bits, open_width, place_of, places_from, slot_of, widths}
use Rattle.btor_witness.specs.declared.shape.Slot.{Slot}
use Rattle.btor_witness.specs.declared.shape.Place.{Place}

pub slot_same : (at : ℕ) (s : Slot) → slot_of (place_of at s) ≡ s
slot_same at s = elim (cases_Bool s.is_open) [ inl t ↦ rw t refl | inr f ↦ rw f refl ]

open_push : (slots : List Slot) (s : Slot) → open_bits (slots ++ s ∷ []) ≡ open_bits slots + open_width s
open_push [] s = omega arith
open_push (t ∷ slots) s = let e = open_push slots s in omega arith

places_push : (at : ℕ) (slots : List Slot) (s : Slot) → places_from at (slots ++ s ∷ []) ≡ places_from at slots ++ place_of (at + open_bits slots) s ∷ []
places_push at [] s = ap (λ (n : ℕ). place_of n s ∷ []) (omega arith)
places_push at (t ∷ slots) s =
    ap (λ (ps : List Place). place_of at t ∷ ps) (places_push (at + open_width t) slots s)
    ∙ ap (λ (n : ℕ). place_of at t ∷ (places_from (at + open_width t) slots ++ place_of n s ∷ [])) (omega arith)

pub push_slots : (places : List Place) (bits : ℕ) (s : Slot) → map slot_of (places ++ place_of bits s ∷ []) ≡ map slot_of places ++ s ∷ []
push_slots places bits s = map-append slot_of places (place_of bits s ∷ []) ∙ ap (λ (t : Slot). map slot_of places ++ t ∷ []) (slot_same bits s)

pub push_places : (places more : List Place) (bits sum : ℕ) (s : Slot) → places ≡ places_from 0 (map slot_of places) → bits ≡ open_bits (map slot_of places) → more ≡ places ++ place_of bits s ∷ [] → sum ≡ bits + open_width s
    → (more ≡ places_from 0 (map slot_of more)) × (sum ≡ open_bits (map slot_of more))
push_places places more bits sum s e b is add =
    let slots = ap (map slot_of) is ∙ push_slots places bits s in (
      is ∙ ap (λ (ps : List Place). ps ++ place_of bits s ∷ []) e ∙ ap (λ (n : ℕ). places_from 0 (map slot_of places) ++ place_of n s ∷ []) b
          ∙ ap (λ (n : ℕ). places_from 0 (map slot_of places) ++ place_of n s ∷ []) (omega arith)
          ∙ sym (places_push 0 (map slot_of places) s) ∙ ap (places_from 0) (sym slots),
      add ∙ ap (λ (n : ℕ). n + open_width s) b ∙ sym (open_push (map slot_of places) s) ∙ ap open_bits (sym slots),
    )

-- open bits lie within them all
pub place_within : (at : ℕ) (slots : List Slot) (n : ℕ) (p : Place) (first : ℕ) → slice_get (places_from at slots) n ≡ Some p → p.first ≡ Some first → first + p.width ≤ at + open_bits slots
place_within at [] n p first e f = cc
place_within here (s ∷ slots) zero p first e f = by (cases_Bool s.is_open) (same_Some (place_of here s) p e)
  where
    by : (s.is_open ≡ true) ⊎ (s.is_open ≡ false) → place_of here s ≡ p → first + p.width ≤ here + open_bits (s ∷ slots)
    by (inl t) same =
        let k : Some here ≡ Some first = rw t at (ap (λ (p : Place). p.first) same ∙ f) in
        let a = same_Some here first k in
        let w : s.width ≡ p.width = ap (λ (p : Place). p.width) same in
        let o : open_width s ≡ s.width = rw t refl in
        omega arith
    by (inr g) same = let k = rw g at (ap (λ (p : Place). p.first) same ∙ f) in cc
place_within at (s ∷ slots) (suc n) p first e f = let again = place_within (at + open_width s) slots n p first e f in omega arith

pub place_width : (at : ℕ) (slots : List Slot) (n : ℕ) (p : Place) → slice_get (places_from at slots) n ≡ Some p → slice_get (widths slots) n ≡ Some p.width
place_width at [] n p e = cc
place_width at (s ∷ slots) zero p e = ap (λ (p : Place). Some p.width) (same_Some (place_of at s) p e)
place_width at (s ∷ slots) (suc n) p e = place_width (at + open_width s) slots n p e

pub place_none : (at : ℕ) (slots : List Slot) (n : ℕ) → slice_get (places_from at slots) n ≡ None → slice_get (widths slots) n ≡ None
place_none at [] n e = refl
place_none at (s ∷ slots) zero e = cc
place_none at (s ∷ slots) (suc n) e = place_none (at + open_width s) slots n e

-- a row of the right width fits where it is put
pub row_fits : (slots : List Slot) (n len base total : ℕ) → slice_get (widths slots) n ≡ Some len → base + open_bits slots ≤ total → IfSome (slice_get (places_from 0 slots) n) (λ p. IfSome p.first (λ first. base + first + len ≤ total))
row_fits slots n len base total e room = by (slice_get (places_from 0 slots) n) refl
  where
    first_fits : (p : Place) → slice_get (places_from 0 slots) n ≡ Some p → (o : Option ℕ) → p.first ≡ o → IfSome o (λ first. base + first + len ≤ total)
    first_fits p is None f = tt
    first_fits p is (Some first) f =
        let w = place_within 0 slots n p first is f in
        let same = same_Some p.width len (sym (place_width 0 slots n p is) ∙ e) in
        omega arith

    by : (o : Option Place) → slice_get (places_from 0 slots) n ≡ o → IfSome o (λ p. IfSome p.first (λ first. base + first + len ≤ total))
    by None is = tt
    by (Some p) is = first_fits p is p.first refl
