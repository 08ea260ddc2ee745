-- Each place of a model stands once among the constants, the state bits, the inputs and what nodes give.
use Rattle.std.proofs.Common.{◌≡◌, ◌⊎◌, inl, inr, ℕ, zero, suc, ◌+◌, ◌-◌, ◌<◌, ◌≤◌, Bool, true, false, cond, List, [], ◌∷◌, ◌++◌, length, map, take, Option, Some, Contains, All, refl, ap, sym, subst, ◌∙◌, arith}
use Rattle.std.specs.Prelude.{slice_get}
use Rattle.std.specs.List.{enumerate_from, filter, flat_map, range_with_len, sum_by}
use Rattle.std.proofs.lemmas.Bool.{cases_lt, false≢true, true≢false}
use Rattle.std.proofs.lemmas.List.{append-nil, length-map}
use Rattle.std.proofs.lemmas.List.Elements.{Contains-append_cases}
use Rattle.design_check.specs.Faults.{IsFlat}
use Rattle.design_core.specs.Asked.{output_of}
use Rattle.design_core.specs.Places.{offset, place_of, places}
use Rattle.design_core.specs.Shape.{CellOf, ConnectOf, DesignOf, IsDeclared, IsDesign, WireOf, wire_bits}
use Rattle.design_core.specs.Table.{role_of}
use Rattle.design_core.specs.declared.table.Role.{Role}
use Rattle.design_core.specs.declared.table.Role.TheVariants.{Combinational, Register, AsyncResetRegister, Constant, Initial, Source, Statement, Unsupported}
use Rattle.design_core.proofs.Lists.{Contains-from_place, one_at, place-from_Contains}
use Rattle.design_core.proofs.Places.{place_of-same, place_of-wire, place_of-within, sum_by-before, sum_by-within}
use Rattle.design_graph.specs.Items.{DrivesBit}
use Rattle.design_graph.specs.Order.{Drives, IsDriver, IsOrder, is_in_cycle}
use Rattle.design_graph.specs.declared.driver.Driver.{Driver}
use Rattle.design_graph.specs.declared.driver.Driver.TheVariants.{Cell, Connect}
use Rattle.design_graph.specs.declared.item.Item.TheVariants.{Cell as CellItem, Connect as ConnectItem}
use Rattle.design_graph.proofs.Declared.{left-declared, output-declared}
use Rattle.design_graph.proofs.Unique.{one-cell, one-drive, driven-wire}
use Rattle.design_meaning.specs.Meaning.{IsCell}
use Rattle.design_meaning.specs.Runs.{kept_bits, kept_by_role, kept_offset, kept_width}
use Rattle.design_meaning.specs.States.{given as given_bits, input_bits, open_bits}
use Rattle.design_meaning.proofs.Inputs.{not_both}
use Rattle.design_signals.specs.declared.sig_bit.SigBit.{SigBit}
use Rattle.design_signals.specs.declared.sig_bit.SigBit.TheVariants.{Wire, Const, Free}
use Rattle.design_states.specs.Bits.{is_given}
use Rattle.design_states.proofs.Giving.{from-lists, given-cell, given-connect}
use Rattle.model_core.specs.Shape.{ModelOf, NodeOf, given, states}
use Rattle.word_model.specs.Built.{IsBuilt}
use Rattle.word_model.specs.Layout.{kept_place, kept_places, signal_places, zero_place}
use Rattle.word_model.specs.Nodes.{IsNodeOf, IsNodeOfRole}
use Rattle.word_model.specs.Registers.{registers_of_role}
use Rattle.word_model.proofs.Beginning.{cell-places}
use Rattle.word_model.proofs.Distinct.{Distinct, distinct-append, distinct-cons, distinct-filter, distinct-flat, distinct-map, distinct-none, distinct-range}
use Rattle.word_model.proofs.Following.{enumerated-back}
use Rattle.word_model.proofs.Framed.{beside}
use Rattle.word_model.proofs.Meant.{register-states}
use Rattle.word_model.proofs.Owning.{IsStatePlace, drives-declared, drives-wire, given-owner, in-range, input-declared, input-owner, map-member, node-gives, once, one-driver, state-owner, state-place}

module _ (d : DesignOf) (shape : IsDesign d) (flat : IsFlat d) where
  same-bit : (a b : SigBit) → IsDeclared d.wires d.free a → IsDeclared d.wires d.free b → place_of d a ≡ place_of d b → a ≡ b
  same-bit = place_of-same d

  pub wire-below : (a : SigBit) → IsDeclared d.wires d.free a → (w : ℕ) × (b : ℕ) × (a ≡ Wire w b) → place_of d a < wire_bits d
  wire-below a da w =
      subst (λ (z : SigBit). place_of d z < wire_bits d) (sym w.2)
      (place_of-wire d w.0 w.1 (subst (λ (z : SigBit). IsDeclared d.wires d.free z) w.2 da))

  -- an output has each bit once
  output-distinct : (i : ℕ) (x : CellOf) → IsCell d i x → Distinct (output_of x)
  output-distinct i x at k l a h g = (one-drive d (once d shape flat) (CellItem i) (CellItem i) k l a (x, at, h) (x, at, g)).1

  output-places : (i : ℕ) (x : CellOf) → IsCell d i x → Distinct (signal_places d (output_of x))
  output-places i x at =
      distinct-map (place_of d) (output_of x) (λ a b ha hb e. same-bit a b (output-declared d shape i x a at ha) (output-declared d shape i x b at hb) e) (output-distinct i x at)

  kept-distinct : (i n : ℕ) → Distinct (kept_places d i n)
  kept-distinct i n = distinct-map (kept_place d i) (range_with_len 0 n) (λ a b ha hb e. omega (arith, e)) (distinct-range 0 n)

  cell-distinct : (i : ℕ) (x : CellOf) → IsCell d i x → Distinct (cell-places d (i, x))
  cell-distinct i x at = by (role_of x.kind)
    where
      alone : (ps : List ℕ) → Distinct ps → Distinct (ps ++ [])
      alone ps h = subst (λ (l : List ℕ). Distinct l) (sym (append-nil ps)) h

      by : (r : Role) → Distinct (flat_map (λ g. g.q) (registers_of_role r d i x))
      by Combinational = distinct-none
      by Register = alone (signal_places d (output_of x)) (output-places i x at)
      by AsyncResetRegister = alone (kept_places d i (length (output_of x))) (kept-distinct i (length (output_of x)))
      by Constant = alone (signal_places d (output_of x)) (output-places i x at)
      by Initial = alone (signal_places d (output_of x)) (output-places i x at)
      by Source = distinct-none
      by Statement = distinct-none
      by Unsupported = distinct-none

  pub kept-end : (i k : ℕ) (x : CellOf) → IsCell d i x → role_of x.kind ≡ AsyncResetRegister → k < length (output_of x) → kept_place d i k < places d + kept_bits d
  kept-end i k x at role lt =
      let width : kept_width x ≡ length (output_of x) = ap (λ (r : Role). kept_by_role r (length (output_of x))) role in
      omega (arith, sum_by-within kept_width d.cells i x at, width, lt)

  kept-apart : (i j k l : ℕ) (x : CellOf) → IsCell d i x → role_of x.kind ≡ AsyncResetRegister → k < length (output_of x) → kept_place d i k ≡ kept_place d j l → i < j → ⊥
  kept-apart i j k l x at role lt e less =
      let width : kept_width x ≡ length (output_of x) = ap (λ (r : Role). kept_by_role r (length (output_of x))) role in
      absurd (omega (arith, sum_by-before kept_width d.cells i j x less at, width, lt, e))

  -- a place is a state bit of one cell
  one-state : (i j p : ℕ) (x y : CellOf) → IsCell d i x → IsCell d j y → IsStatePlace d i x p → IsStatePlace d j y p → i ≡ j
  one-state i j p x y ax ay (inl h) (inl g) =
      let dh = output-declared d shape i x h.0 ax h.1 in
      let dg = output-declared d shape j y g.0 ay g.1 in
      let same : h.0 ≡ g.0 = same-bit h.0 g.0 dh dg (sym h.2 ∙ g.2) in
      one-cell d (once d shape flat) i j x y g.0 ax (subst (λ (a : SigBit). Contains (output_of x) a) same h.1) ay g.1
  one-state i j p x y ax ay (inl h) (inr g) =
      let e = h.2 in
      let f = g.3 in
      absurd (omega (arith, e, f, place_of-within d h.0 (output-declared d shape i x h.0 ax h.1)))
  one-state i j p x y ax ay (inr h) (inl g) =
      let e = h.3 in
      let f = g.2 in
      absurd (omega (arith, e, f, place_of-within d g.0 (output-declared d shape j y g.0 ay g.1)))
  one-state i j p x y ax ay (inr h) (inr g) = by (cases_lt i j) (cases_lt j i)
    where
      meet : kept_place d i h.0 ≡ kept_place d j g.0
      meet = sym h.3 ∙ g.3

      by : (i < j) ⊎ (j ≤ i) → (j < i) ⊎ (i ≤ j) → i ≡ j
      by (inl less) other = absurd (kept-apart i j h.0 g.0 x ax h.1 h.2 meet less)
      by (inr most) (inl less) = absurd (kept-apart j i g.0 h.0 y ay g.1 g.2 (sym meet) less)
      by (inr most) (inr least) = omega (arith, most, least)

  -- inputs stand once
  open-distinct : Distinct (input_bits d)
  open-distinct =
      distinct-append (flat_map (open_bits d) (enumerate_from 0 d.wires)) (map (λ n. Free n) (range_with_len 0 d.free)) wires
      (distinct-map (λ n. Free n) (range_with_len 0 d.free) (λ m n hm hn e. free-one m n e) (distinct-range 0 d.free)) apart
    where
      free-one : (m n : ℕ) → ◌≡◌ {A = SigBit} (Free m) (Free n) → m ≡ n
      free-one m n e = cc

      wire-one : (u w m n : ℕ) → ◌≡◌ {A = SigBit} (Wire u m) (Wire w n) → (u ≡ w) × (m ≡ n)
      wire-one u w m n e = (cc, cc)

      clash : (w m n : ℕ) → ◌≡◌ {A = SigBit} (Wire w m) (Free n) → ⊥
      clash w m n e = cc

      wire-of : (e : ℕ × WireOf) (a : SigBit) → Contains (open_bits d e) a → (n : ℕ) × (Wire e.0 n ≡ a)
      wire-of (w, x) a h = let c = map-member (λ n. Wire w n) _ a h in (c.0, c.2)

      wires : Distinct (flat_map (open_bits d) (enumerate_from 0 d.wires))
      wires =
          distinct-flat (open_bits d) (enumerate_from 0 d.wires)
          (λ k e at. distinct-map (λ n. Wire e.0 n) _ (λ m n hm hn g. (wire-one e.0 e.0 m n g).1) (distinct-filter _ (range_with_len 0 e.1.width) (distinct-range 0 e.1.width)))
          (λ k l e f a ae af he hf.
          let p = wire-of e a he in
          let q = wire-of f a hf in
          let same = (wire-one e.0 f.0 p.0 q.0 (p.1 ∙ sym q.1)).0 in
          let be = (enumerated-back 0 d.wires k e ae).0 in
          let bf = (enumerated-back 0 d.wires l f af).0 in
          omega (arith, same, be, bf))

      apart : (a : SigBit) → Contains (flat_map (open_bits d) (enumerate_from 0 d.wires)) a → Contains (map (λ n. Free n) (range_with_len 0 d.free)) a → ⊥
      apart a h g =
          let r = from-lists (open_bits d) (enumerate_from 0 d.wires) a h in
          let p = wire-of r.1 a r.3 in
          let q = map-member (λ n. Free n) (range_with_len 0 d.free) a g in
          clash r.1.0 p.0 q.0 (p.1 ∙ sym q.2)

  -- a bit that is driven within the cycle, or from a state, is given a value
  driven-given : (r : Driver) (a : SigBit) → IsDriver d r → Drives d r a → Contains (given_bits d) a
  driven-given (Cell i) a is h = given-cell d i h.0 a h.1 (in-cycle-given (role_of h.0.kind) (let same = one_at d.cells i is.0 h.0 is.1 h.1 in subst (λ (z : CellOf). is_in_cycle (role_of z.kind) ≡ true) same is.2)) h.2
    where
      in-cycle-given : (r : Role) → is_in_cycle r ≡ true → is_given r ≡ true
      in-cycle-given Combinational e = refl
      in-cycle-given Register e = absurd (false≢true e)
      in-cycle-given AsyncResetRegister e = refl
      in-cycle-given Constant e = absurd (false≢true e)
      in-cycle-given Initial e = absurd (false≢true e)
      in-cycle-given Source e = absurd (false≢true e)
      in-cycle-given Statement e = absurd (false≢true e)
      in-cycle-given Unsupported e = absurd (false≢true e)
  driven-given (Connect i k) a is h = given-connect d i h.0 a h.1 (Contains-from_place h.0.left k a h.2)

  no-input : (a : SigBit) → (w : ℕ) × (b : ℕ) × (a ≡ Wire w b) → Contains (given_bits d) a → Contains (input_bits d) a → ⊥
  no-input a w g h =
      not_both d w.0 w.1 (subst (λ (z : SigBit). Contains (given_bits d) z) w.2 g) (subst (λ (z : SigBit). Contains (input_bits d) z) w.2 h)

  module _ (order : List Driver) (ordered : IsOrder d order) (m : ModelOf) (built : IsBuilt d order m) where
    node-distinct : (n : ℕ) (y : NodeOf) → slice_get m.nodes n ≡ Some y → Distinct y.y
    node-distinct n y at = by r.0 (built.nodes.each n r.0 y r.1 at)
      where
        r : (q : Driver) × (slice_get order n ≡ Some q)
        r = beside m.nodes order (Cell 0) (sym built.nodes.size) n y at

        of-role : (i : ℕ) (x : CellOf) → IsCell d i x → (role : Role) → IsNodeOfRole role d i x y → Distinct y.y
        of-role i x cell Combinational is = subst (λ (z : NodeOf). Distinct z.y) (sym is) (output-places i x cell)
        of-role i x cell Register is = absurd is
        of-role i x cell AsyncResetRegister is = subst (λ (z : NodeOf). Distinct z.y) (sym is) (output-places i x cell)
        of-role i x cell Constant is = absurd is
        of-role i x cell Initial is = absurd is
        of-role i x cell Source is = absurd is
        of-role i x cell Statement is = absurd is
        of-role i x cell Unsupported is = absurd is

        none : (a : ℕ) → Contains (let xs : List ℕ = [] in xs) a → ⊥
        none a c = let lt = c.1 in absurd (omega (arith, lt))

        by : (q : Driver) → IsNodeOf d q y → Distinct y.y
        by (Cell i) is = of-role i is.0 is.1 (role_of is.0.kind) is.2
        by (Connect i k) is = subst (λ (z : NodeOf). Distinct z.y) (sym is.6) (distinct-cons (place_of d is.1) [] (none (place_of d is.1)) distinct-none)

    pub states-distinct : Distinct (states m)
    states-distinct =
        subst (λ (l : List ℕ). Distinct l) (sym (register-states d shape flat order ordered m built))
        (distinct-flat (cell-places d) (enumerate_from 0 d.cells)
        (λ k e at. cell-distinct e.0 e.1 (cell-at k e at))
        (λ k l e f p ae af he hf.
        let same = one-state e.0 f.0 p e.1 f.1 (cell-at k e ae) (cell-at l f af) (state-place d e.0 e.1 p he) (state-place d f.0 f.1 p hf) in
        let be = (enumerated-back 0 d.cells k e ae).0 in
        let bf = (enumerated-back 0 d.cells l f af).0 in
        omega (arith, same, be, bf)))
      where
        cell-at : (k : ℕ) (e : ℕ × CellOf) → slice_get (enumerate_from 0 d.cells) k ≡ Some e → IsCell d e.0 e.1
        cell-at k e at =
            let b = enumerated-back 0 d.cells k e at in
            let place : k ≡ e.0 = (let n = b.0 in omega (arith, n)) in
            subst (λ (n : ℕ). slice_get d.cells n ≡ Some e.1) place b.1

    pub inputs-distinct : Distinct m.inputs
    inputs-distinct =
        subst (λ (l : List ℕ). Distinct l) (sym built.inputs)
        (distinct-map (place_of d) (input_bits d) (λ a b ha hb e. same-bit a b (input-declared d a ha) (input-declared d b hb) e) open-distinct)

    pub given-distinct : Distinct (given m.nodes)
    given-distinct =
        distinct-flat (λ (y : NodeOf). y.y) m.nodes (λ n y at. node-distinct n y at)
        (λ k l y z p ay az hy hz.
        let r = node-gives d shape flat order ordered m built k y p ay hy in
        let s = node-gives d shape flat order ordered m built l z p az hz in
        let a = r.2 in
        let b = s.2 in
        let same : a.0 ≡ b.0 = same-bit a.0 b.0 (drives-declared d shape flat r.0 a.0 a.1) (drives-declared d shape flat s.0 b.0 b.1) (sym a.2 ∙ b.2) in
        let one : r.0 ≡ s.0 = one-driver d shape flat r.0 s.0 b.0 (subst (λ (q : SigBit). Drives d r.0 q) same a.1) b.1 in
        ordered.once k l s.0 (subst (λ (q : Driver). slice_get order k ≡ Some q) one r.1) s.1)

    pub states-inputs : (p : ℕ) → Contains (states m) p → Contains m.inputs p → ⊥
    states-inputs p h g =
        let s = state-owner d shape flat order ordered m built p h in
        let b = input-owner d shape flat order ordered m built p g in
        by s.0 s.1 s.2 s.3 b.0 b.1 b.2
      where
        by : (i : ℕ) (x : CellOf) → IsCell d i x → IsStatePlace d i x p → (b : SigBit) → Contains (input_bits d) b → p ≡ place_of d b → ⊥
        by i x at (inl s) b has e =
            let da = output-declared d shape i x s.0 at s.1 in
            let same : s.0 ≡ b = same-bit s.0 b da (input-declared d b has) (sym s.2 ∙ e) in
            let wire = driven-wire d (once d shape flat) (CellItem i) (place-from_Contains (output_of x) s.0 s.1).0 s.0 (x, at, (place-from_Contains (output_of x) s.0 s.1).1) in
            no-input s.0 wire (given-cell d i x s.0 at s.4 s.1) (subst (λ (z : SigBit). Contains (input_bits d) z) (sym same) has)
        by i x at (inr s) b has e = let f = s.3 in absurd (omega (arith, e, f, place_of-within d b (input-declared d b has)))

    pub given-apart : (p : ℕ) → Contains (given m.nodes) p → (Contains (states m) p → ⊥) × (Contains m.inputs p → ⊥) × (p < wire_bits d)
    given-apart p h = (
      λ s. let t = state-owner d shape flat order ordered m built p s in from-state t.0 t.1 t.2 t.3,
      λ s.
          let b = input-owner d shape flat order ordered m built p s in
          let same : a.0 ≡ b.0 = same-bit a.0 b.0 da (input-declared d b.0 b.1) (sym a.2 ∙ b.2) in
          no-input a.0 wire (driven-given o.1 a.0 (ordered.drivers o.0 o.1 o.2) a.1) (subst (λ (z : SigBit). Contains (input_bits d) z) (sym same) b.1),
      let e = a.2 in omega (arith, e, wire-below a.0 da wire),
    )
      where
        o : (n : ℕ) × (r : Driver) × (slice_get order n ≡ Some r) × ((a : SigBit) × Drives d r a × (p ≡ place_of d a))
        o = given-owner d shape flat order ordered m built p h

        a : (b : SigBit) × Drives d o.1 b × (p ≡ place_of d b)
        a = o.3

        da : IsDeclared d.wires d.free a.0
        da = drives-declared d shape flat o.1 a.0 a.1

        wire : (w : ℕ) × (b : ℕ) × (a.0 ≡ Wire w b)
        wire = drives-wire d shape flat o.1 a.0 a.1

        other-role : (i : ℕ) (x : CellOf) → IsCell d i x → is_in_cycle (role_of x.kind) ≡ false → (r : Driver) (b : SigBit) → IsDriver d r → Drives d r b → Contains (output_of x) b → ⊥
        other-role i x cell out r b is drives has =
            let one : r ≡ Cell i = one-driver d shape flat r (Cell i) b drives (x, cell, has) in
            let of-cell : IsDriver d (Cell i) = subst (λ (q : Driver). IsDriver d q) one is in
            let same = one_at d.cells i of-cell.0 x of-cell.1 cell in
            true≢false (sym (subst (λ (z : CellOf). is_in_cycle (role_of z.kind) ≡ true) same of-cell.2) ∙ out)

        from-state : (i : ℕ) (x : CellOf) → IsCell d i x → IsStatePlace d i x p → ⊥
        from-state i x cell (inl s) =
            let same : a.0 ≡ s.0 = same-bit a.0 s.0 da (output-declared d shape i x s.0 cell s.1) (sym a.2 ∙ s.2) in
            other-role i x cell s.3 o.1 a.0 (ordered.drivers o.0 o.1 o.2) a.1 (subst (λ (z : SigBit). Contains (output_of x) z) (sym same) s.1)
        from-state i x cell (inr s) = let f = s.3 in let e = a.2 in absurd (omega (arith, f, e, wire-below a.0 da wire))
