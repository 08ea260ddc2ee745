-- Which places are state bits, inputs, and what nodes give.
use Rattle.std.proofs.Common.{◌≡◌, ◌⊎◌, inl, inr, ℕ, zero, suc, ◌+◌, ◌-◌, ◌<◌, ◌≤◌, Bool, true, false, cond, not, List, [], ◌∷◌, ◌++◌, length, map, take, Option, Some, Contains, All, refl, ap, sym, subst, ◌∙◌, arith}
use Rattle.std.specs.Prelude.{slice_get}
use Rattle.std.specs.List.{enumerate_from, filter, flat_map, list_any, range_with_len, sum_by}
use Rattle.std.proofs.lemmas.Bool.{cases_lt, false≢true, true≢false}
use Rattle.std.proofs.lemmas.List.{append-nil, length-map}
use Rattle.std.proofs.lemmas.List.Elements.{Contains-append_cases}
use Rattle.std.proofs.lemmas.List.Sums.{sum_by-cons}
use Rattle.design_check.specs.Faults.{IsFlat}
use Rattle.design_check.specs.declared.fault.FaultKind.TheVariants.{TwoDrivers}
use Rattle.design_check.proofs.Placing.{none-drivers}
use Rattle.design_core.specs.Asked.{output_of}
use Rattle.design_core.specs.Places.{offset, place_of, places}
use Rattle.design_core.specs.Shape.{CellOf, ConnectOf, DesignOf, IsDeclared, IsDesign, WireOf, wire_bits}
use Rattle.design_core.specs.Table.{role_of}
use Rattle.design_core.specs.declared.table.Role.{Role}
use Rattle.design_core.specs.declared.table.Role.TheVariants.{Combinational, Register, AsyncResetRegister, Constant, Initial, Source, Statement, Unsupported}
use Rattle.design_core.proofs.Lists.{Contains-from_place, one_at, place-from_Contains}
use Rattle.design_core.proofs.Places.{place_of-same, place_of-wire, place_of-within}
use Rattle.design_graph.specs.Items.{IsDrivenOnce}
use Rattle.design_graph.specs.Order.{Drives, IsOrder, is_in_cycle}
use Rattle.design_graph.specs.declared.driver.Driver.{Driver}
use Rattle.design_graph.specs.declared.driver.Driver.TheVariants.{Cell, Connect}
use Rattle.design_graph.specs.declared.item.Item.TheVariants.{Cell as CellItem, Connect as ConnectItem}
use Rattle.design_graph.proofs.Declared.{left-declared, output-declared}
use Rattle.design_graph.proofs.Unique.{one-cell, one-connect, one-drive, driven-wire}
use Rattle.design_meaning.specs.Meaning.{IsCell}
use Rattle.design_meaning.specs.States.{given as given_bits, input_bits, is_wire_bit, open_bits}
use Rattle.design_meaning.proofs.Inputs.{not_both}
use Rattle.design_signals.specs.declared.sig_bit.SigBit.{SigBit}
use Rattle.design_signals.specs.declared.sig_bit.SigBit.TheVariants.{Wire, Const, Free}
use Rattle.design_states.specs.Bits.{is_given}
use Rattle.design_states.proofs.Giving.{from-lists, given-cell, given-connect}
use Rattle.model_core.proofs.Lists.{all_from}
use Rattle.model_core.specs.Shape.{ModelOf, NodeOf, given, states}
use Rattle.word_model.specs.Built.{IsBuilt}
use Rattle.word_model.specs.Layout.{kept_place, kept_places, signal_places}
use Rattle.word_model.specs.Nodes.{IsNodeOf, IsNodeOfRole}
use Rattle.word_model.specs.Registers.{registers_of_role}
use Rattle.word_model.proofs.Alike.{from-filter}
use Rattle.word_model.proofs.Beginning.{cell-places}
use Rattle.word_model.proofs.Distinct.{range-at}
use Rattle.word_model.proofs.Following.{enumerated-back, only-one}
use Rattle.word_model.proofs.Framed.{beside}
use Rattle.word_model.proofs.Meant.{register-states}

pub map-member : {X Y : Type 0} (f : X → Y) (xs : List X) (y : Y) → Contains (map f xs) y → (x : X) × Contains xs x × (f x ≡ y)
map-member {X = X} f xs y h = let at = place-from_Contains (map f xs) y h in by xs at.0 at.1
  where
    by : (zs : List X) (k : ℕ) → slice_get (map f zs) k ≡ Some y → (x : X) × Contains zs x × (f x ≡ y)
    by [] k e = absurd cc
    by (z ∷ zs) zero e = (z, (0, omega arith, refl), cc)
    by (z ∷ zs) (suc k) e = let r = by zs k e in (r.0, (let c = r.1 in let lt = c.1 in (suc c.0, omega (arith, lt), c.2)), r.2)

pub in-range : (n k : ℕ) → Contains (range_with_len 0 n) k → k < n
in-range n k h = let at = place-from_Contains (range_with_len 0 n) k h in let r = range-at 0 n at.0 k at.1 in let e = r.0 in let lt = r.1 in omega (arith, e, lt)

-- a state bit's place: that of a bit that a cell drives from a state, or of a kept bit
abbrev pub IsStatePlace : DesignOf → ℕ → CellOf → ℕ → Type 0
IsStatePlace d i x p =
    ((a : SigBit) × Contains (output_of x) a × (p ≡ place_of d a) × (is_in_cycle (role_of x.kind) ≡ false) × (is_given (role_of x.kind) ≡ true))
    ⊎ ((k : ℕ) × (role_of x.kind ≡ AsyncResetRegister) × (k < length (output_of x)) × (p ≡ kept_place d i k))

pub state-place : (d : DesignOf) (i : ℕ) (x : CellOf) (p : ℕ) → Contains (cell-places d (i, x)) p → IsStatePlace d i x p
state-place d i x p h = by (role_of x.kind) refl h
  where
    nothing : Contains (let xs : List ℕ = [] in xs) p → ⊥
    nothing c = let lt = c.1 in absurd (omega (arith, lt))

    signal : (r : Role) → role_of x.kind ≡ r → is_in_cycle r ≡ false → is_given r ≡ true → Contains (signal_places d (output_of x) ++ []) p → IsStatePlace d i x p
    signal r role out has c =
        let m = map-member (place_of d) (output_of x) p (subst (λ (l : List ℕ). Contains l p) (append-nil (signal_places d (output_of x))) c) in
        inl (m.0, m.1, sym m.2, ap is_in_cycle role ∙ out, ap is_given role ∙ has)

    by : (r : Role) → role_of x.kind ≡ r → Contains (flat_map (λ g. g.q) (registers_of_role r d i x)) p → IsStatePlace d i x p
    by Combinational role c = absurd (nothing c)
    by Register role c = signal Register role refl refl c
    by AsyncResetRegister role c =
        let m = map-member (kept_place d i) (range_with_len 0 (length (output_of x))) p (subst (λ (l : List ℕ). Contains l p) (append-nil (kept_places d i (length (output_of x)))) c) in
        inr (m.0, role, in-range (length (output_of x)) m.0 m.1, sym m.2)
    by Constant role c = signal Constant role refl refl c
    by Initial role c = signal Initial role refl refl c
    by Source role c = absurd (nothing c)
    by Statement role c = absurd (nothing c)
    by Unsupported role c = absurd (nothing c)

-- an input bit is an open bit of a wire or a free bit
wire-part : (d : DesignOf) (b : SigBit) → Contains (flat_map (open_bits d) (enumerate_from 0 d.wires)) b → (w : ℕ) × (n : ℕ) × (b ≡ Wire w n) × IsDeclared d.wires d.free (Wire w n)
wire-part d b wires =
    let r = from-lists (open_bits d) (enumerate_from 0 d.wires) b wires in
    let back = enumerated-back 0 d.wires r.0 r.1 r.2 in
    let place : r.0 ≡ r.1.0 = (let n = back.0 in omega (arith, n)) in
    let wire = subst (λ (n : ℕ). slice_get d.wires n ≡ Some r.1.1) place back.1 in
    let m = map-member (λ n. Wire r.1.0 n) (filter (λ n. not (list_any (is_wire_bit r.1.0 n) (given_bits d))) (range_with_len 0 r.1.1.width)) b r.3 in
    let at = place-from_Contains (filter (λ n. not (list_any (is_wire_bit r.1.0 n) (given_bits d))) (range_with_len 0 r.1.1.width)) m.0 m.1 in
    let f = from-filter (λ n. not (list_any (is_wire_bit r.1.0 n) (given_bits d))) (range_with_len 0 r.1.1.width) at.0 m.0 at.1 in
    let within = range-at 0 r.1.1.width f.0 m.0 f.1 in
    let lt : m.0 < r.1.1.width = (let e = within.0 in let l = within.1 in omega (arith, e, l)) in
    (r.1.0, m.0, sym m.2, (r.1.1, wire, lt))

pub input-cases : (d : DesignOf) (b : SigBit) → Contains (input_bits d) b → ((w : ℕ) × (n : ℕ) × (b ≡ Wire w n)) ⊎ ((n : ℕ) × (b ≡ Free n))
input-cases d b h =
    elim (Contains-append_cases (flat_map (open_bits d) (enumerate_from 0 d.wires)) (map (λ n. Free n) (range_with_len 0 d.free)) b h) as (λ _. ((w : ℕ) × (n : ℕ) × (b ≡ Wire w n)) ⊎ ((n : ℕ) × (b ≡ Free n))) [
      | inl wires ↦ let r = wire-part d b wires in inl (r.0, r.1, r.2)
      | inr frees ↦ let m = map-member (λ n. Free n) (range_with_len 0 d.free) b frees in inr (m.0, sym m.2)
    ]

pub input-declared : (d : DesignOf) (b : SigBit) → Contains (input_bits d) b → IsDeclared d.wires d.free b
input-declared d b h =
    elim (Contains-append_cases (flat_map (open_bits d) (enumerate_from 0 d.wires)) (map (λ n. Free n) (range_with_len 0 d.free)) b h) as (λ _. IsDeclared d.wires d.free b) [
      | inl wires ↦ let r = wire-part d b wires in subst (λ (z : SigBit). IsDeclared d.wires d.free z) (sym r.2) r.3
      | inr frees ↦
          let m = map-member (λ n. Free n) (range_with_len 0 d.free) b frees in
          subst (λ (z : SigBit). IsDeclared d.wires d.free z) m.2 (in-range d.free m.0 m.1)
    ]

module _ (d : DesignOf) (shape : IsDesign d) (flat : IsFlat d) where
  pub once : IsDrivenOnce d
  once = none-drivers d (flat TwoDrivers)

  -- a driver within the cycle is the only one of its bits
  pub one-driver : (r s : Driver) (a : SigBit) → Drives d r a → Drives d s a → r ≡ s
  one-driver (Cell i) (Cell j) a h g = ap (λ n. Cell n) (one-cell d once i j h.0 g.0 a h.1 h.2 g.1 g.2)
  one-driver (Connect i k) (Connect j l) a h g =
      let e = one-connect d once i k j l h.0 g.0 a h.1 h.2 g.1 g.2 in
      ap (λ n. Connect n k) e.0 ∙ ap (λ n. Connect j n) e.1
  one-driver (Cell i) (Connect j l) a h g = absurd (apart i j l a h g)
    where
      clash : (m n : ℕ) → CellItem m ≡ ConnectItem n → ⊥
      clash m n e = cc

      apart : (m n o : ℕ) (b : SigBit) → Drives d (Cell m) b → Drives d (Connect n o) b → ⊥
      apart m n o b p q =
          let at = place-from_Contains (output_of p.0) b p.2 in
          clash m n (one-drive d once (CellItem m) (ConnectItem n) at.0 o b (p.0, p.1, at.1) (q.0, q.1, q.2)).0
  one-driver (Connect i k) (Cell j) a h g = absurd (apart j i k a g h)
    where
      clash : (m n : ℕ) → CellItem m ≡ ConnectItem n → ⊥
      clash m n e = cc

      apart : (m n o : ℕ) (b : SigBit) → Drives d (Cell m) b → Drives d (Connect n o) b → ⊥
      apart m n o b p q =
          let at = place-from_Contains (output_of p.0) b p.2 in
          clash m n (one-drive d once (CellItem m) (ConnectItem n) at.0 o b (p.0, p.1, at.1) (q.0, q.1, q.2)).0

  pub drives-wire : (r : Driver) (a : SigBit) → Drives d r a → (w : ℕ) × (b : ℕ) × (a ≡ Wire w b)
  drives-wire (Cell i) a h = let at = place-from_Contains (output_of h.0) a h.2 in driven-wire d once (CellItem i) at.0 a (h.0, h.1, at.1)
  drives-wire (Connect i k) a h = driven-wire d once (ConnectItem i) k a (h.0, h.1, h.2)

  pub drives-declared : (r : Driver) (a : SigBit) → Drives d r a → IsDeclared d.wires d.free a
  drives-declared (Cell i) a h = output-declared d shape i h.0 a h.1 h.2
  drives-declared (Connect i k) a h = left-declared d shape i k h.0 a h.1 h.2

  module _ (order : List Driver) (ordered : IsOrder d order) (m : ModelOf) (built : IsBuilt d order m) where
    -- what a node gives is what its driver drives
    pub node-gives : (n : ℕ) (y : NodeOf) (p : ℕ) → slice_get m.nodes n ≡ Some y → Contains y.y p → (r : Driver) × (slice_get order n ≡ Some r) × ((a : SigBit) × Drives d r a × (p ≡ place_of d a))
    node-gives n y p at h =
        let r = beside m.nodes order (Cell 0) (sym built.nodes.size) n y at in
        (r.0, r.1, by r.0 (built.nodes.each n r.0 y r.1 at))
      where
        of-role : (i : ℕ) (x : CellOf) → IsCell d i x → (role : Role) → IsNodeOfRole role d i x y → (a : SigBit) × Drives d (Cell i) a × (p ≡ place_of d a)
        of-role i x cell Combinational is =
            let c = map-member (place_of d) (output_of x) p (subst (λ (z : NodeOf). Contains z.y p) is h) in
            (c.0, (x, cell, c.1), sym c.2)
        of-role i x cell Register is = absurd is
        of-role i x cell AsyncResetRegister is =
            let c = map-member (place_of d) (output_of x) p (subst (λ (z : NodeOf). Contains z.y p) is h) in
            (c.0, (x, cell, c.1), sym c.2)
        of-role i x cell Constant is = absurd is
        of-role i x cell Initial is = absurd is
        of-role i x cell Source is = absurd is
        of-role i x cell Statement is = absurd is
        of-role i x cell Unsupported is = absurd is

        by : (r : Driver) → IsNodeOf d r y → (a : SigBit) × Drives d r a × (p ≡ place_of d a)
        by (Cell i) is = of-role i is.0 is.1 (role_of is.0.kind) is.2
        by (Connect i k) is =
            let c = map-member (place_of d) (is.1 ∷ []) p (subst (λ (z : NodeOf). Contains z.y p) is.6 h) in
            (is.1, (is.0, is.3, is.4), sym (only-place is.1 c.0 c.1 c.2))
          where
            only-place : (a z : SigBit) → Contains (a ∷ []) z → place_of d z ≡ p → place_of d a ≡ p
            only-place a z c e = let same : a ≡ z = only-one a z c in ap (place_of d) same ∙ e

    -- the driver of a place that a node gives
    pub given-owner : (p : ℕ) → Contains (given m.nodes) p → (n : ℕ) × (r : Driver) × (slice_get order n ≡ Some r) × ((a : SigBit) × Drives d r a × (p ≡ place_of d a))
    given-owner p h = let r = from-lists (λ (y : NodeOf). y.y) m.nodes p h in let g = node-gives r.0 r.1 p r.2 r.3 in (r.0, g.0, g.1, g.2)

    -- the cell of a state bit's place
    pub state-owner : (p : ℕ) → Contains (states m) p → (i : ℕ) × (x : CellOf) × IsCell d i x × IsStatePlace d i x p
    state-owner p h =
        let r = from-lists (cell-places d) (enumerate_from 0 d.cells) p (subst (λ (l : List ℕ). Contains l p) (register-states d shape flat order ordered m built) h) in
        let back = enumerated-back 0 d.cells r.0 r.1 r.2 in
        let place : r.0 ≡ r.1.0 = (let n = back.0 in omega (arith, n)) in
        (r.1.0, r.1.1, subst (λ (n : ℕ). slice_get d.cells n ≡ Some r.1.1) place back.1, state-place d r.1.0 r.1.1 p r.3)

    pub input-owner : (p : ℕ) → Contains m.inputs p → (b : SigBit) × Contains (input_bits d) b × (p ≡ place_of d b)
    input-owner p h = let c = map-member (place_of d) (input_bits d) p (subst (λ (l : List ℕ). Contains l p) built.inputs h) in (c.0, c.1, sym c.2)

pub inputs-declared : (d : DesignOf) → All (IsDeclared d.wires d.free) (input_bits d)
inputs-declared d = all_from (IsDeclared d.wires d.free) (input_bits d) (λ k b at. input-declared d b (Contains-from_place (input_bits d) k b at))
