-- Which bits are given a value.
use Rattle.std.proofs.Common.{◌≡◌, ◌⊎◌, inl, inr, ℕ, zero, suc, Bool, true, false, ◌&&◌, ◌||◌, eqb, List, [], ◌∷◌, replicate, Some, Contains, refl, ap, sym, subst, ◌∙◌, arith}
use Rattle.std.specs.Prelude.{slice_get}
use Rattle.std.specs.List.{flat_map, list_any}
use Rattle.std.proofs.lemmas.Bool.{eqb-true, eq-eqb, false≢true}
use Rattle.std.proofs.lemmas.List.{length-replicate}
use Rattle.std.proofs.lemmas.List.Elements.{Contains-append_left, Contains-append_right, Contains-append_cases}
use Rattle.design_core.specs.Asked.{output_of}
use Rattle.design_core.specs.Places.{place_of, places}
use Rattle.design_core.specs.Shape.{CellOf, ConnectOf, DesignOf, IsDeclared, IsDesign}
use Rattle.design_core.specs.Table.{role_of}
use Rattle.design_core.specs.declared.table.Role.{Role}
use Rattle.design_core.specs.declared.table.Role.TheVariants.{Combinational, Register, AsyncResetRegister, Constant, Initial, Source, Statement, Unsupported}
use Rattle.design_core.proofs.Lists.{Contains-from_place, place-from_Contains}
use Rattle.design_core.proofs.Places.{place_of-same}
use Rattle.design_graph.proofs.Declared.{left-declared, output-declared}
use Rattle.design_graph.proofs.MarkSets.{replicate-unmarked}
use Rattle.design_graph.specs.Edges.{Marks}
use Rattle.design_meaning.specs.States.{given, given_of_role, is_wire_bit}
use Rattle.design_signals.specs.declared.sig_bit.SigBit.{SigBit}
use Rattle.design_signals.specs.declared.sig_bit.SigBit.TheVariants.{Wire, Const, Free}
use Rattle.design_states.specs.Bits.{IsCellGiven, IsConnectGiven, IsGivenMarks, is_given}

nothing : {X : Type 0} (x : X) → Contains [] x → ⊥
nothing x h = let lt = h.1 in absurd (omega (arith, lt))

module _ {X Y : Type 0} (f : X → List Y) where
  -- an element of the lists put together is one of some list
  pub in-lists : (xs : List X) (k : ℕ) (x : X) (y : Y) → slice_get xs k ≡ Some x → Contains (f x) y → Contains (flat_map f xs) y
  in-lists [] k x y at h = absurd cc
  in-lists (z ∷ xs) zero x y at h = let same : z ≡ x = cc in Contains-append_left (f z) (flat_map f xs) y (subst (λ (e : X). Contains (f e) y) (sym same) h)
  in-lists (z ∷ xs) (suc k) x y at h = Contains-append_right (f z) (flat_map f xs) y (in-lists xs k x y at h)

  pub from-lists : (xs : List X) (y : Y) → Contains (flat_map f xs) y → (k : ℕ) × (x : X) × (slice_get xs k ≡ Some x) × Contains (f x) y
  from-lists [] y h = absurd (nothing y h)
  from-lists (x ∷ xs) y h = elim (Contains-append_cases (f x) (flat_map f xs) y h) as (λ _. (k : ℕ) × (z : X) × (slice_get (x ∷ xs) k ≡ Some z) × Contains (f z) y) [
    | inl first ↦ (0, x, refl, first)
    | inr later ↦ let r = from-lists xs y later in (suc r.0, r.1, r.2, r.3)
  ]

given-role : (r : Role) (out : List SigBit) (a : SigBit) → is_given r ≡ true → Contains out a → Contains (given_of_role r out) a
given-role Combinational out a e h = h
given-role Register out a e h = h
given-role AsyncResetRegister out a e h = h
given-role Constant out a e h = h
given-role Initial out a e h = h
given-role Source out a e h = absurd (false≢true e)
given-role Statement out a e h = absurd (false≢true e)
given-role Unsupported out a e h = absurd (false≢true e)

role-given : (r : Role) (out : List SigBit) (a : SigBit) → Contains (given_of_role r out) a → (is_given r ≡ true) × Contains out a
role-given Combinational out a h = (refl, h)
role-given Register out a h = (refl, h)
role-given AsyncResetRegister out a h = (refl, h)
role-given Constant out a h = (refl, h)
role-given Initial out a h = (refl, h)
role-given Source out a h = absurd (nothing a h)
role-given Statement out a h = absurd (nothing a h)
role-given Unsupported out a h = absurd (nothing a h)

module _ (d : DesignOf) where
  cells-give : CellOf → List SigBit
  cells-give c = given_of_role (role_of c.kind) (output_of c)

  pub given-cell : (i : ℕ) (c : CellOf) (a : SigBit) → slice_get d.cells i ≡ Some c → is_given (role_of c.kind) ≡ true → Contains (output_of c) a → Contains (given d) a
  given-cell i c a at e h =
      Contains-append_left (flat_map (λ (x : CellOf). given_of_role (role_of x.kind) (output_of x)) d.cells) (flat_map (λ (j : ConnectOf). j.left) d.connects) a
      (in-lists (λ (x : CellOf). given_of_role (role_of x.kind) (output_of x)) d.cells i c a at (given-role (role_of c.kind) (output_of c) a e h))

  pub given-connect : (k : ℕ) (j : ConnectOf) (a : SigBit) → slice_get d.connects k ≡ Some j → Contains j.left a → Contains (given d) a
  given-connect k j a at h =
      Contains-append_right (flat_map (λ (x : CellOf). given_of_role (role_of x.kind) (output_of x)) d.cells) (flat_map (λ (x : ConnectOf). x.left) d.connects) a
      (in-lists (λ (x : ConnectOf). x.left) d.connects k j a at h)

  pub given-cases : (a : SigBit) → Contains (given d) a
      → ((i : ℕ) × (c : CellOf) × (slice_get d.cells i ≡ Some c) × (is_given (role_of c.kind) ≡ true) × Contains (output_of c) a)
      ⊎ ((k : ℕ) × (j : ConnectOf) × (slice_get d.connects k ≡ Some j) × Contains j.left a)
  given-cases a h =
      elim (Contains-append_cases (flat_map (λ (x : CellOf). given_of_role (role_of x.kind) (output_of x)) d.cells) (flat_map (λ (x : ConnectOf). x.left) d.connects) a h)
      as (λ _. ((i : ℕ) × (c : CellOf) × (slice_get d.cells i ≡ Some c) × (is_given (role_of c.kind) ≡ true) × Contains (output_of c) a)
      ⊎ ((k : ℕ) × (j : ConnectOf) × (slice_get d.connects k ≡ Some j) × Contains j.left a)) [
        | inl cells ↦
            let r = from-lists (λ (x : CellOf). given_of_role (role_of x.kind) (output_of x)) d.cells a cells in
            let g = role-given (role_of r.1.kind) (output_of r.1) a r.3 in
            inl (r.0, r.1, r.2, g.0, g.1)
        | inr connects ↦ inr (from-lists (λ (x : ConnectOf). x.left) d.connects a connects)
      ]

  module _ (shape : IsDesign d) (first then : List Bool) (cells : Marks (replicate (places d) false) (IsCellGiven d) first) (connects : Marks first (IsConnectGiven d) then) where
    pub given-marked : IsGivenMarks d then
    given-marked = record {
      size = connects.size ∙ (cells.size ∙ length-replicate (places d) false);
      given_bits = λ a da. (λ h. marked a da (connects.only (place_of d a) h), λ h. marks a (given-cases a h));
    }
      where
        of-cells : (a : SigBit) → IsDeclared d.wires d.free a → IsCellGiven d (place_of d a) → Contains (given d) a
        of-cells a da q =
            let at = q.4 in
            let same : at.0 ≡ a = place_of-same d at.0 a (output-declared d shape q.0 q.1 at.0 q.2 at.1) da (sym at.2) in
            given-cell q.0 q.1 a q.2 q.3 (subst (λ (x : SigBit). Contains (output_of q.1) x) same at.1)

        of-connects : (a : SigBit) → IsDeclared d.wires d.free a → IsConnectGiven d (place_of d a) → Contains (given d) a
        of-connects a da q =
            let at = q.3 in
            let k = place-from_Contains q.1.left at.0 at.1 in
            let same : at.0 ≡ a = place_of-same d at.0 a (left-declared d shape q.0 k.0 q.1 at.0 q.2 k.1) da (sym at.2) in
            given-connect q.0 q.1 a q.2 (subst (λ (x : SigBit). Contains q.1.left x) same at.1)

        marked : (a : SigBit) → IsDeclared d.wires d.free a → (slice_get first (place_of d a) ≡ Some true) ⊎ IsConnectGiven d (place_of d a) → Contains (given d) a
        marked a da (inr q) = of-connects a da q
        marked a da (inl h) = elim (cells.only (place_of d a) h) as (λ _. Contains (given d) a) [
          | inl old ↦ absurd (replicate-unmarked (places d) (place_of d a) old)
          | inr q ↦ of-cells a da q
        ]

        marks : (a : SigBit) → ((i : ℕ) × (c : CellOf) × (slice_get d.cells i ≡ Some c) × (is_given (role_of c.kind) ≡ true) × Contains (output_of c) a)
            ⊎ ((k : ℕ) × (j : ConnectOf) × (slice_get d.connects k ≡ Some j) × Contains j.left a) → slice_get then (place_of d a) ≡ Some true
        marks a (inl q) = connects.kept (place_of d a) (cells.added (place_of d a) (q.0, q.1, q.2, q.3, (a, q.4, refl)))
        marks a (inr q) = connects.added (place_of d a) (q.0, q.1, q.2, (a, q.3, refl))

-- ---- the test of the definition

one_of : (a b : Bool) → (a || b) ≡ true → (a ≡ true) ⊎ (b ≡ true)
one_of true b h = inl refl
one_of false b h = inr h

both : (a b : Bool) → (a && b) ≡ true → (a ≡ true) × (b ≡ true)
both true true h = (refl, refl)
both true false h = absurd cc
both false b h = absurd cc

same-bit : (w b : ℕ) (y : SigBit) → is_wire_bit w b y ≡ true → y ≡ Wire w b
same-bit w b (Wire x c) h =
    let parts = both (eqb w x) (eqb b c) h in
    ap (λ (k : ℕ). Wire k c) (sym (eqb-true w x parts.0)) ∙ ap (λ (k : ℕ). Wire w k) (sym (eqb-true b c parts.1))
same-bit w b (Const x) h = absurd cc
same-bit w b (Free n) h = absurd cc

itself : (w b : ℕ) (y : SigBit) → y ≡ Wire w b → is_wire_bit w b y ≡ true
itself w b y e = ap (is_wire_bit w b) e ∙ (ap (λ (t : Bool). t && eqb b b) (eq-eqb w w refl) ∙ eq-eqb b b refl)

or-true : (a b : Bool) → b ≡ true → (a || b) ≡ true
or-true true b h = refl
or-true false b h = h

pub tested : (w b : ℕ) (xs : List SigBit) → Contains xs (Wire w b) → list_any (is_wire_bit w b) xs ≡ true
tested w b xs h = let at = place-from_Contains xs (Wire w b) h in by xs at.0 at.1
  where
    by : (ys : List SigBit) (k : ℕ) → slice_get ys k ≡ Some (Wire w b) → list_any (is_wire_bit w b) ys ≡ true
    by [] k e = absurd cc
    by (y ∷ ys) zero e = let same : y ≡ Wire w b = cc in ap (λ (t : Bool). t || list_any (is_wire_bit w b) ys) (itself w b y same)
    by (y ∷ ys) (suc k) e = or-true (is_wire_bit w b y) (list_any (is_wire_bit w b) ys) (by ys k e)

pub untested : (w b : ℕ) (xs : List SigBit) → (Contains xs (Wire w b) → ⊥) → list_any (is_wire_bit w b) xs ≡ false
untested w b xs none = is-false (list_any (is_wire_bit w b) xs) (λ e. none (found xs e))
  where
    is-false : (t : Bool) → (t ≡ true → ⊥) → t ≡ false
    is-false true h = absurd (h refl)
    is-false false h = refl

    found : (ys : List SigBit) → list_any (is_wire_bit w b) ys ≡ true → Contains ys (Wire w b)
    found [] e = absurd cc
    found (y ∷ ys) e = elim (one_of (is_wire_bit w b y) (list_any (is_wire_bit w b) ys) e) as (λ _. Contains (y ∷ ys) (Wire w b)) [
      | inl here ↦ Contains-from_place (y ∷ ys) 0 (Wire w b) (ap (λ (x : SigBit). Some x) (same-bit w b y here))
      | inr later ↦ let at = place-from_Contains ys (Wire w b) (found ys later) in Contains-from_place (y ∷ ys) (suc at.0) (Wire w b) at.1
    ]
