-- Names of new wires.
use Rattle.std.proofs.Common.{◌≡◌, ◌⊎◌, inl, inr, ℕ, zero, suc, ◌+◌, ◌<◌, ◌^◌, List, [], ◌∷◌, length, map, Some, Contains, decimal, refl, ap, sym, ◌∙◌}
use Rattle.std.specs.Prelude.{slice_get}
use Rattle.std.specs.Str.Parse.{digits_value}
use Rattle.std.proofs.lemmas.Fmt.{decimal_is_IsNumeral}
use Rattle.design_core.specs.Shape.{WireOf, CellOf, DesignOf}
use Rattle.design_core.proofs.Lists.{Contains-from_place, place-from_Contains}
use Rattle.design_core.proofs.Designs.{slice_get-append}
use Rattle.design_meaning.specs.Meaning.{IsCell}
use Rattle.design_lower.specs.Lowering.{FitsReset, kept_name, names, register, with_lowered}
use Rattle.design_lower.proofs.Cells.{enabled-form, form-of, lowered-cases, other-there, place-cases, plain-form, register-there}
use Rattle.design_lower.proofs.Lists.{get-behind, get-either}

tail : (a b : ℕ) (xs ys : List ℕ) → a ∷ xs ≡ b ∷ ys → xs ≡ ys
tail a b xs ys e = cc

-- numbers with one name are one
pub same-number : (m n : ℕ) → m < 2 ^ 64 → n < 2 ^ 64 → kept_name m ≡ kept_name n → m ≡ n
same-number m n hm hn e =
    let a = decimal_is_IsNumeral m hm in
    let b = decimal_is_IsNumeral n hn in
    let same : decimal m ≡ decimal n = tail _ _ _ _ (tail _ _ _ _ (tail _ _ _ _ (tail _ _ _ _ (tail _ _ _ _ (tail _ _ _ _ e))))) in
    sym a.1 ∙ (ap (λ (l : List ℕ). digits_value 10 l) same ∙ b.1)

-- an element of mapped lists, by its place
map-at : {X Y : Type 0} (f : X → Y) (xs : List X) (k : ℕ) (x : X) → slice_get xs k ≡ Some x → slice_get (map f xs) k ≡ Some (f x)
map-at f [] k x h = cc
map-at f (y ∷ xs) zero x h = let same : y ≡ x = cc in ap (λ z. Some (f z)) same
map-at f (y ∷ xs) (suc k) x h = map-at f xs k x h

map-from : {X Y : Type 0} (f : X → Y) (xs : List X) (k : ℕ) (y : Y) → slice_get (map f xs) k ≡ Some y → (x : X) × (slice_get xs k ≡ Some x) × (f x ≡ y)
map-from f [] k y h = cc
map-from f (x ∷ xs) zero y h = (x, refl, cc)
map-from f (x ∷ xs) (suc k) y h = map-from f xs k y h

-- a name is a wire's or a cell's
abbrev pub IsNamed : DesignOf → List ℕ → Type 0
IsNamed d n = ((k : ℕ) × (w : WireOf) × (slice_get d.wires k ≡ Some w) × (w.name ≡ n)) ⊎ ((k : ℕ) × (c : CellOf) × IsCell d k c × (c.name ≡ n))

module _ (d : DesignOf) (n : List ℕ) where
  pub named-from : Contains (names d) n → IsNamed d n
  named-from h =
      let p = place-from_Contains (names d) n h in
      elim (get-either (map (λ (w : WireOf). w.name) d.wires) (map (λ (c : CellOf). c.name) d.cells) p.0 n p.1) as (λ _. IsNamed d n) [
        | inl front ↦ let w = map-from (λ (x : WireOf). x.name) d.wires p.0 n front in inl (p.0, w.0, w.1, w.2)
        | inr rest ↦ let c = map-from (λ (x : CellOf). x.name) d.cells rest.0 n rest.2 in inr (rest.0, c.0, c.1, c.2)
      ]

  pub named-to : IsNamed d n → Contains (names d) n
  named-to (inl h) =
      Contains-from_place (names d) h.0 n
      (slice_get-append (map (λ (w : WireOf). w.name) d.wires) (map (λ (c : CellOf). c.name) d.cells) h.0 n (map-at (λ (w : WireOf). w.name) d.wires h.0 h.1 h.2 ∙ ap (λ (l : List ℕ). Some l) h.3))
  named-to (inr h) =
      Contains-from_place (names d) (length (map (λ (w : WireOf). w.name) d.wires) + h.0) n
      (get-behind (map (λ (w : WireOf). w.name) d.wires) (map (λ (c : CellOf). c.name) d.cells) h.0 ∙ (map-at (λ (c : CellOf). c.name) d.cells h.0 h.1 h.2 ∙ ap (λ (l : List ℕ). Some l) h.3))

-- lowering a cell adds the new wire's name, and takes none away
module _ (d : DesignOf) (i : ℕ) (c : CellOf) (at : IsCell d i c) (fits : FitsReset c) (wire : WireOf) where
  register-name : (register (length d.wires) c).name ≡ c.name
  register-name = elim (form-of c fits) as (λ _. (register (length d.wires) c).name ≡ c.name) [
    | inl plain ↦ ap (λ (x : CellOf). x.name) (plain-form (length d.wires) c plain.1)
    | inr enabled ↦ ap (λ (x : CellOf). x.name) (enabled-form (length d.wires) c enabled.1)
  ]

  pub names-kept : (n : List ℕ) → Contains (names d) n → Contains (names (with_lowered d i c wire)) n
  names-kept n h = named-to (with_lowered d i c wire) n (elim (named-from d n h) as (λ _. IsNamed (with_lowered d i c wire) n) [
    | inl w ↦ inl (w.0, w.1, slice_get-append d.wires (wire ∷ []) w.0 w.1 w.2, w.3)
    | inr x ↦ elim (place-cases d i c at wire x.0 x.1 x.2) as (λ _. IsNamed (with_lowered d i c wire) n) [
      | inl e ↦ inr (i, register (length d.wires) c, register-there d i c at wire, register-name ∙ (ap (λ (y : CellOf). y.name) (sym e.1) ∙ x.3))
      | inr o ↦ inr (x.0, x.1, other-there d i c at wire x.0 x.1 x.2 o, x.3)
    ]
  ])

  pub new-name : Contains (names (with_lowered d i c wire)) wire.name
  new-name = named-to (with_lowered d i c wire) wire.name (inl (length d.wires + 0, wire, get-behind d.wires (wire ∷ []) 0, refl))

  pub names-new : (n : List ℕ) → Contains (names (with_lowered d i c wire)) n → Contains (names d) n ⊎ (n ≡ wire.name)
  names-new n h = elim (named-from (with_lowered d i c wire) n h) as (λ _. Contains (names d) n ⊎ (n ≡ wire.name)) [
    | inl w ↦ elim (get-either d.wires (wire ∷ []) w.0 w.1 w.2) as (λ _. Contains (names d) n ⊎ (n ≡ wire.name)) [
      | inl old ↦ inl (named-to d n (inl (w.0, w.1, old, w.3)))
      | inr new ↦ inr (sym w.3 ∙ ap (λ (y : WireOf). y.name) (only new.0 w.1 new.2))
    ]
    | inr x ↦ elim (lowered-cases d i c at wire x.0 x.1 x.2) as (λ _. Contains (names d) n ⊎ (n ≡ wire.name)) [
      | inl e ↦ inl (named-to d n (inr (i, c, at, sym register-name ∙ (ap (λ (y : CellOf). y.name) (sym e.1) ∙ x.3))))
      | inr rest ↦ elim rest as (λ _. Contains (names d) n ⊎ (n ≡ wire.name)) [
        | inl o ↦ inl (named-to d n (inr (x.0, x.1, o.1, x.3)))
        | inr e ↦ inl (named-to d n (inr (i, c, at, ap (λ (y : CellOf). y.name) (sym e) ∙ x.3)))
      ]
    ]
  ]
    where
      only : (k : ℕ) (w : WireOf) → slice_get (wire ∷ []) k ≡ Some w → w ≡ wire
      only zero w e = cc
      only (suc k) w e = absurd cc
