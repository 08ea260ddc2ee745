-- A model that is made of a flat design's parts is a model: each place stands once, and each node reads what stands before it.
use Rattle.std.proofs.Common.{◌≡◌, ◌⊎◌, inl, inr, ℕ, zero, suc, ◌+◌, ◌-◌, ◌*◌, ◌^◌, ◌<◌, ◌≤◌, Bool, true, false, cond, not, ◌&&◌, ◌||◌, List, [], ◌∷◌, ◌++◌, length, map, take, get_or, Option, Some, Contains, All, refl, ap, sym, subst, ◌∙◌, arith}
use Rattle.std.specs.Prelude.{slice_get}
use Rattle.std.specs.List.{enumerate_from, flat_map, list_any, range_with_len, sum_by}
use Rattle.std.proofs.lemmas.Bool.{cases_lt, false≢true, true≢false}
use Rattle.std.proofs.lemmas.List.{length-map}
use Rattle.std.proofs.lemmas.Option.{slice_get_within}
use Rattle.std.proofs.lemmas.List.Elements.{Contains-append_left, Contains-append_right, Contains-append_cases}
use Rattle.std.proofs.lemmas.List.Sums.{sum_by-cons}
use Rattle.design_check.specs.Faults.{IsFlat}
use Rattle.design_core.specs.Asked.{output_of}
use Rattle.design_core.specs.Places.{offset, place_of, places}
use Rattle.design_core.specs.Shape.{CellOf, ConnectOf, DesignOf, IsDeclared, IsDesign, WireOf, wire_bits}
use Rattle.design_core.specs.Table.{role_of}
use Rattle.design_core.specs.declared.table.Role.{Role}
use Rattle.design_core.specs.declared.table.Role.TheVariants.{Combinational, Register, AsyncResetRegister, Constant, Initial, Source, Statement, Unsupported}
use Rattle.design_core.proofs.Lists.{Contains-from_place, one_at, place-from_Contains}
use Rattle.design_core.proofs.Places.{place_of-same, place_of-wire, place_of-within, bit_number-most}
use Rattle.design_graph.specs.Order.{Drives, DrivesFrom, IsDriver, IsOrder, is_in_cycle}
use Rattle.design_graph.specs.declared.driver.Driver.{Driver}
use Rattle.design_graph.specs.declared.driver.Driver.TheVariants.{Cell, Connect}
use Rattle.design_graph.proofs.Declared.{output-declared}
use Rattle.design_meaning.specs.Meaning.{IsCell}
use Rattle.design_meaning.specs.Runs.{kept_bits, kept_by_role, kept_offset, kept_width}
use Rattle.design_meaning.specs.States.{given as given_bits, input_bits, open_bits}
use Rattle.design_meaning.proofs.Inputs.{given_or_input}
use Rattle.design_signals.specs.declared.sig_bit.SigBit.{SigBit}
use Rattle.design_signals.specs.declared.sig_bit.SigBit.TheVariants.{Wire, Const, Free}
use Rattle.design_states.specs.Bits.{is_given}
use Rattle.design_states.proofs.Giving.{given-cases, in-lists}
use Rattle.model_core.specs.Shape.{ModelOf, NodeOf, given, sources, states}
use Rattle.word_model.specs.Built.{IsBuilt}
use Rattle.word_model.specs.Layout.{kept_place, kept_places, signal_places, zero_place}
use Rattle.word_model.specs.Nodes.{IsNodeOf, IsNodeOfRole}
use Rattle.word_model.specs.Registers.{registers_of_role}
use Rattle.word_model.proofs.Beginning.{cell-places}
use Rattle.word_model.proofs.Distinct.{Distinct, distinct-append, distinct-cons}
use Rattle.word_model.proofs.Following.{enumerated}
use Rattle.word_model.proofs.Framed.{beside, no-node}
use Rattle.word_model.proofs.Meant.{register-states}
use Rattle.word_model.proofs.Stating.{mapped-at}
use Rattle.word_model.proofs.Once.{given-apart, given-distinct, inputs-distinct, kept-end, states-distinct, states-inputs, wire-below}
use Rattle.design_graph.proofs.Unique.{output-wire}
use Rattle.word_model.proofs.Owning.{IsStatePlace, input-cases, input-declared, input-owner, once, state-owner}

-- in which part a place stands, and where
found : {X : Type 0} (f : X → ℕ) (xs : List X) (p : ℕ) → p < sum_by f xs → (i : ℕ) × (x : X) × (k : ℕ) × (slice_get xs i ≡ Some x) × (k < f x) × (p ≡ sum_by f (take i xs) + k)
found f [] p h = absurd (omega (arith, h))
found {X = X} f (x ∷ xs) p h = elim (cases_lt p (f x)) as (λ _. (i : ℕ) × (z : X) × (k : ℕ) × (slice_get (x ∷ xs) i ≡ Some z) × (k < f z) × (p ≡ sum_by f (take i (x ∷ xs)) + k)) [
  | inl less ↦ (0, x, p, refl, less, omega arith)
  | inr most ↦
      let rest : p - f x < sum_by f xs = omega (arith, h, most, sum_by-cons f x xs) in
      let r = found f xs (p - f x) rest in
      (suc r.0, r.1, r.2, r.3, r.4, (let e = r.5 in omega (arith, e, most, sum_by-cons f x (take r.0 xs))))
]

module _ (d : DesignOf) (shape : IsDesign d) (flat : IsFlat d) (order : List Driver) (ordered : IsOrder d order) (m : ModelOf) (built : IsBuilt d order m) where
  input-below : (p : ℕ) → Contains m.inputs p → p < zero_place d
  input-below p h =
      let b = input-owner d shape flat order ordered m built p h in
      let e = b.2 in
      by b.0 (input-declared d b.0 b.1) (input-cases d b.0 b.1) e
    where
      by : (b : SigBit) → IsDeclared d.wires d.free b → ((w : ℕ) × (n : ℕ) × (b ≡ Wire w n)) ⊎ ((n : ℕ) × (b ≡ Free n)) → p ≡ place_of d b → p < zero_place d
      by b db (inl w) e = let lt = wire-below d shape flat b db w in omega (arith, e, lt)
      by b db (inr f) e =
          let at : place_of d b ≡ wire_bits d + f.0 = ap (place_of d) f.1 in
          let lt : f.0 < d.free = subst (λ (z : SigBit). IsDeclared d.wires d.free z) f.1 db in
          omega (arith, e, at, lt)

  -- a state bit is a wire's bit or stands after the constants
  state-where : (p : ℕ) → Contains (states m) p → (p < wire_bits d) ⊎ ((places d ≤ p) × (p < places d + kept_bits d))
  state-where p h = let s = state-owner d shape flat order ordered m built p h in by s.0 s.1 s.2 s.3
    where
      by : (i : ℕ) (x : CellOf) → IsCell d i x → IsStatePlace d i x p → (p < wire_bits d) ⊎ ((places d ≤ p) × (p < places d + kept_bits d))
      by i x at (inl s) =
          let e = s.2 in
          let da = output-declared d shape i x s.0 at s.1 in
          let lt = wire-below d shape flat s.0 da (output-wire d (once d shape flat) i x s.0 at s.1) in
          inl (omega (arith, e, lt))
      by i x at (inr s) = let e = s.3 in inr (omega (arith, e), (let lt = kept-end d shape flat i s.0 x at s.1 s.2 in omega (arith, e, lt)))

  pub once-all : Distinct (sources m ++ given m.nodes)
  once-all =
      distinct-cons m.zero (suc m.zero ∷ ((states m ++ m.inputs) ++ given m.nodes)) no-zero
      (distinct-cons (suc m.zero) ((states m ++ m.inputs) ++ given m.nodes) (λ h. no-const (suc m.zero) (omega arith) (let z = built.zero in omega (arith, z)) h)
      (distinct-append (states m ++ m.inputs) (given m.nodes)
      (distinct-append (states m) m.inputs (states-distinct d shape flat order ordered m built) (inputs-distinct d shape flat order ordered m built) (states-inputs d shape flat order ordered m built))
      (given-distinct d shape flat order ordered m built)
      (λ p h g. let apart = given-apart d shape flat order ordered m built p g in
      elim (Contains-append_cases (states m) m.inputs p h) as (λ _. ⊥) [ inl s ↦ apart.0 s | inr i ↦ apart.1 i ])))
    where
      no-const : (p : ℕ) → m.zero ≤ p → p < places d → Contains ((states m ++ m.inputs) ++ given m.nodes) p → ⊥
      no-const p from to h =
          let z = built.zero in
          elim (Contains-append_cases (states m ++ m.inputs) (given m.nodes) p h) as (λ _. ⊥) [
            | inl s ↦ elim (Contains-append_cases (states m) m.inputs p s) as (λ _. ⊥) [
              | inl t ↦ elim (state-where p t) as (λ _. ⊥) [
                | inl low ↦ absurd (omega (arith, low, z, from))
                | inr high ↦ let past = high.0 in absurd (omega (arith, past, to))
              ]
              | inr t ↦ let lt = input-below p t in absurd (omega (arith, lt, z, from))
            ]
            | inr g ↦ let lt = (given-apart d shape flat order ordered m built p g).2 in absurd (omega (arith, lt, z, from))
          ]

      one-or : (p x : ℕ) (xs : List ℕ) → Contains (x ∷ xs) p → (x ≡ p) ⊎ Contains xs p
      one-or p x xs h = by h.0 h.1 h.2
        where
          by : (k : ℕ) → k < length (x ∷ xs) → get_or (x ∷ xs) k p ≡ p → (x ≡ p) ⊎ Contains xs p
          by zero lt e = inl e
          by (suc k) lt e = inr (k, omega (arith, lt), e)

      no-zero : Contains (suc m.zero ∷ ((states m ++ m.inputs) ++ given m.nodes)) m.zero → ⊥
      no-zero h = elim (one-or m.zero (suc m.zero) ((states m ++ m.inputs) ++ given m.nodes) h) as (λ _. ⊥) [
        | inl e ↦ absurd (omega (arith, e))
        | inr rest ↦ no-const m.zero (omega arith) (let z = built.zero in omega (arith, z)) rest
      ]

  there : (y : ℕ) (xs : List ℕ) (p : ℕ) → Contains xs p → Contains (y ∷ xs) p
  there y xs p h = let lt = h.1 in (suc h.0, omega (arith, lt), h.2)

  pub from-sources : (p : ℕ) → Contains (sources m) p → Contains (sources m ++ given m.nodes) p
  from-sources p h = Contains-append_left (sources m) (given m.nodes) p h

  state-source : (p : ℕ) → Contains (states m) p → Contains (sources m) p
  state-source p h =
      there m.zero (suc m.zero ∷ (states m ++ m.inputs)) p (there (suc m.zero) (states m ++ m.inputs) p (Contains-append_left (states m) m.inputs p h))

  input-source : (p : ℕ) → Contains m.inputs p → Contains (sources m) p
  input-source p h =
      there m.zero (suc m.zero ∷ (states m ++ m.inputs)) p (there (suc m.zero) (states m ++ m.inputs) p (Contains-append_right (states m) m.inputs p h))

  zero-source : (p : ℕ) → p ≡ m.zero → Contains (sources m) p
  zero-source p e = (0, omega arith, sym e)

  one-source : (p : ℕ) → p ≡ suc m.zero → Contains (sources m) p
  one-source p e = (1, omega arith, sym e)

  cell-state : (i : ℕ) (x : CellOf) (p : ℕ) → IsCell d i x → Contains (cell-places d (i, x)) p → Contains (states m) p
  cell-state i x p at h =
      subst (λ (l : List ℕ). Contains l p) (sym (register-states d shape flat order ordered m built))
      (in-lists (cell-places d) (enumerate_from 0 d.cells) i (i, x) p (enumerated 0 d.cells i i x (omega arith) at) h)

  bit-input : (b : SigBit) → Contains (input_bits d) b → Contains m.inputs (place_of d b)
  bit-input b h = subst (λ (l : List ℕ). Contains l (place_of d b)) (sym built.inputs) (mapped (input_bits d) h)
    where
      mapped : (xs : List SigBit) → Contains xs b → Contains (map (place_of d) xs) (place_of d b)
      mapped xs c = let at = place-from_Contains xs b c in Contains-from_place (map (place_of d) xs) at.0 (place_of d b) (mapped-at (place_of d) xs at.0 b at.1)

  node-for : (r : Driver) → IsDriver d r → (n : ℕ) × (y : NodeOf) × (slice_get m.nodes n ≡ Some y) × IsNodeOf d r y
  node-for r is =
      let at = place-from_Contains order r (ordered.all r is) in
      let x = beside order m.nodes no-node built.nodes.size at.0 r at.1 in
      (at.0, x.0, x.1, built.nodes.each at.0 r x.0 at.1 x.1)

  in-given : (n : ℕ) (y : NodeOf) (p : ℕ) → slice_get m.nodes n ≡ Some y → Contains y.y p → Contains (given m.nodes) p
  in-given n y p at h = in-lists (λ (z : NodeOf). z.y) m.nodes n y p at h

  place-in : (bits : List SigBit) (b : SigBit) → Contains bits b → Contains (signal_places d bits) (place_of d b)
  place-in bits b h = let at = place-from_Contains bits b h in Contains-from_place (signal_places d bits) at.0 (place_of d b) (mapped-at (place_of d) bits at.0 b at.1)

  -- a bit that a cell gives a value is a state bit, or a node gives it
  cell-known : (i : ℕ) (x : CellOf) (b : SigBit) → IsCell d i x → Contains (output_of x) b → is_given (role_of x.kind) ≡ true → Contains (sources m ++ given m.nodes) (place_of d b)
  cell-known i x b at has is = by (role_of x.kind) refl is
    where
      held : Contains (cell-places d (i, x)) (place_of d b) → Contains (sources m ++ given m.nodes) (place_of d b)
      held h = from-sources (place_of d b) (state-source (place_of d b) (cell-state i x (place_of d b) at h))

      whole : (r : Role) → role_of x.kind ≡ r → Contains (flat_map (λ g. g.q) (registers_of_role r d i x)) (place_of d b) → Contains (cell-places d (i, x)) (place_of d b)
      whole r e h = subst (λ (z : Role). Contains (flat_map (λ g. g.q) (registers_of_role z d i x)) (place_of d b)) (sym e) h

      node : (r : Role) → role_of x.kind ≡ r → is_in_cycle r ≡ true → ((y : NodeOf) → IsNodeOfRole r d i x y → y.y ≡ signal_places d (output_of x)) → Contains (sources m ++ given m.nodes) (place_of d b)
      node r e in_cycle gives =
          let n = node-for (Cell i) (x, at, ap is_in_cycle e ∙ in_cycle) in
          let same : n.3.0 ≡ x = one_at d.cells i n.3.0 x n.3.1 at in
          let is_node : IsNodeOfRole (role_of x.kind) d i x n.1 = subst (λ (z : CellOf). IsNodeOfRole (role_of z.kind) d i z n.1) same n.3.2 in
          let y : n.1.y ≡ signal_places d (output_of x) = gives n.1 (subst (λ (z : Role). IsNodeOfRole z d i x n.1) e is_node) in
          Contains-append_right (sources m) (given m.nodes) (place_of d b)
          (in-given n.0 n.1 (place_of d b) n.2 (subst (λ (l : List ℕ). Contains l (place_of d b)) (sym y) (place-in (output_of x) b has)))

      by : (r : Role) → role_of x.kind ≡ r → is_given r ≡ true → Contains (sources m ++ given m.nodes) (place_of d b)
      by Combinational e t = node Combinational e refl (λ y h. ap (λ (z : NodeOf). z.y) h)
      by Register e t = held (whole Register e (Contains-append_left (signal_places d (output_of x)) [] (place_of d b) (place-in (output_of x) b has)))
      by AsyncResetRegister e t = node AsyncResetRegister e refl (λ y h. ap (λ (z : NodeOf). z.y) h)
      by Constant e t = held (whole Constant e (Contains-append_left (signal_places d (output_of x)) [] (place_of d b) (place-in (output_of x) b has)))
      by Initial e t = held (whole Initial e (Contains-append_left (signal_places d (output_of x)) [] (place_of d b) (place-in (output_of x) b has)))
      by Source e t = absurd (false≢true t)
      by Statement e t = absurd (false≢true t)
      by Unsupported e t = absurd (false≢true t)

  connect-known : (k l : ℕ) (j : ConnectOf) (b : SigBit) → slice_get d.connects k ≡ Some j → slice_get j.left l ≡ Some b → Contains (sources m ++ given m.nodes) (place_of d b)
  connect-known k l j b at has =
      let n = node-for (Connect k l) (j, at, slice_get_within j.left l b has) in
      let is = n.3 in
      let same : is.0 ≡ j = one_at d.connects k is.0 j is.3 at in
      let bit : is.1 ≡ b = one_at j.left l is.1 b (subst (λ (z : ConnectOf). slice_get z.left l ≡ Some is.1) same is.4) has in
      let y : n.1.y ≡ place_of d b ∷ [] = ap (λ (z : NodeOf). z.y) is.6 ∙ ap (λ (z : SigBit). place_of d z ∷ []) bit in
      Contains-append_right (sources m) (given m.nodes) (place_of d b)
      (in-given n.0 n.1 (place_of d b) n.2 (subst (λ (l' : List ℕ). Contains l' (place_of d b)) (sym y) (0, omega arith, refl)))

  wire-known : (w b : ℕ) (x : WireOf) → slice_get d.wires w ≡ Some x → b < x.width → Contains (sources m ++ given m.nodes) (place_of d (Wire w b))
  wire-known w b x at lt = by (given_or_input d w b x at lt)
    where
      by : Contains (given_bits d) (Wire w b) ⊎ Contains (input_bits d) (Wire w b) → Contains (sources m ++ given m.nodes) (place_of d (Wire w b))
      by (inl g) = elim (given-cases d (Wire w b) g) as (λ _. Contains (sources m ++ given m.nodes) (place_of d (Wire w b))) [
        | inl c ↦ cell-known c.0 c.1 (Wire w b) c.2 c.4 c.3
        | inr c ↦ let k = place-from_Contains c.1.left (Wire w b) c.3 in connect-known c.0 k.0 c.1 (Wire w b) c.2 k.1
      ]
      by (inr i) = from-sources (place_of d (Wire w b)) (input-source (place_of d (Wire w b)) (bit-input (Wire w b) i))

  free-known : (n : ℕ) → n < d.free → Contains (sources m) (place_of d (Free n))
  free-known n lt =
      input-source (place_of d (Free n))
      (bit-input (Free n)
      (Contains-append_right (flat_map (open_bits d) (enumerate_from 0 d.wires)) (map (λ k. Free k) (range_with_len 0 d.free)) (Free n) (listed (range_with_len 0 d.free) n (ranged 0 d.free n n (omega arith) lt))))
    where
      ranged : (a count k z : ℕ) → z ≡ a + k → k < count → slice_get (range_with_len a count) k ≡ Some z
      ranged a zero k z e h = absurd (omega arith)
      ranged a (suc count) zero z e h = let same : a ≡ z = omega (arith, e) in ap (λ (y : ℕ). Some y) same
      ranged a (suc count) (suc k) z e h = ranged (a + 1) count k z (omega (arith, e)) (omega (arith, h))

      listed : (ks : List ℕ) (k : ℕ) → slice_get ks k ≡ Some n → Contains (map (λ j. Free j) ks) (Free n)
      listed ks k at = Contains-from_place (map (λ j. Free j) ks) k (Free n) (mapped-at (λ j. Free j) ks k n at)

  kept-known : (i k : ℕ) (x : CellOf) → IsCell d i x → k < kept_width x → Contains (sources m) (kept_place d i k)
  kept-known i k x at lt = by (role_of x.kind) refl lt
    where
      none : (r : Role) → k < 0 → Contains (sources m) (kept_place d i k)
      none r h = absurd (omega (arith, h))

      ranged : (a count n z : ℕ) → z ≡ a + n → n < count → slice_get (range_with_len a count) n ≡ Some z
      ranged a zero n z e h = absurd (omega arith)
      ranged a (suc count) zero z e h = let same : a ≡ z = omega (arith, e) in ap (λ (y : ℕ). Some y) same
      ranged a (suc count) (suc n) z e h = ranged (a + 1) count n z (omega (arith, e)) (omega (arith, h))

      by : (r : Role) → role_of x.kind ≡ r → k < kept_by_role r (length (output_of x)) → Contains (sources m) (kept_place d i k)
      by Combinational e h = none Combinational h
      by Register e h = none Register h
      by AsyncResetRegister e h =
          let has : Contains (kept_places d i (length (output_of x)) ++ []) (kept_place d i k) =
          Contains-append_left (kept_places d i (length (output_of x))) [] (kept_place d i k)
          (Contains-from_place (kept_places d i (length (output_of x))) k (kept_place d i k)
          (mapped-at (kept_place d i) (range_with_len 0 (length (output_of x))) k k (ranged 0 (length (output_of x)) k k (omega arith) h))) in
          state-source (kept_place d i k)
          (cell-state i x (kept_place d i k) at (subst (λ (z : Role). Contains (flat_map (λ g. g.q) (registers_of_role z d i x)) (kept_place d i k)) (sym e) has))
      by Constant e h = none Constant h
      by Initial e h = none Initial h
      by Source e h = none Source h
      by Statement e h = none Statement h
      by Unsupported e h = none Unsupported h

  pub all-known : (p : ℕ) → p < m.size → Contains (sources m ++ given m.nodes) p
  all-known p lt = by (cases_lt p (wire_bits d)) (cases_lt p (zero_place d)) (cases_lt p (places d))
    where
      moved : (q : ℕ) → q ≡ p → Contains (sources m ++ given m.nodes) q → Contains (sources m ++ given m.nodes) p
      moved q e h = subst (λ (n : ℕ). Contains (sources m ++ given m.nodes) n) e h

      wires : p < wire_bits d → Contains (sources m ++ given m.nodes) p
      wires less = let r = found (λ (x : WireOf). x.width) d.wires p less in moved (place_of d (Wire r.0 r.2)) (sym r.5) (wire-known r.0 r.2 r.1 r.3 r.4)

      frees : wire_bits d ≤ p → p < zero_place d → Contains (sources m ++ given m.nodes) p
      frees from less =
          let n : p - wire_bits d < d.free = omega (arith, from, less) in
          moved (place_of d (Free (p - wire_bits d))) (omega (arith, from)) (from-sources (place_of d (Free (p - wire_bits d))) (free-known (p - wire_bits d) n))

      consts : zero_place d ≤ p → p < places d → Contains (sources m ++ given m.nodes) p
      consts from less = elim (cases_lt p (suc (zero_place d))) as (λ _. Contains (sources m ++ given m.nodes) p) [
        | inl low ↦ from-sources p (zero-source p (let z = built.zero in omega (arith, z, from, low)))
        | inr high ↦ from-sources p (one-source p (let z = built.zero in omega (arith, z, less, high)))
      ]

      kepts : places d ≤ p → Contains (sources m ++ given m.nodes) p
      kepts from =
          let inside : p - places d < kept_bits d = (let s = built.size in omega (arith, s, lt, from)) in
          let r = found kept_width d.cells (p - places d) inside in
          let e = r.5 in
          moved (kept_place d r.0 r.2) (omega (arith, e, from)) (from-sources (kept_place d r.0 r.2) (kept-known r.0 r.2 r.1 r.3 r.4))

      by : (p < wire_bits d) ⊎ (wire_bits d ≤ p) → (p < zero_place d) ⊎ (zero_place d ≤ p) → (p < places d) ⊎ (places d ≤ p) → Contains (sources m ++ given m.nodes) p
      by (inl w) f c = wires w
      by (inr w) (inl f) c = frees w f
      by (inr w) (inr f) (inl c) = consts f c
      by (inr w) (inr f) (inr c) = kepts c

  pub known-below : (p : ℕ) → Contains (sources m ++ given m.nodes) p → p < m.size
  known-below p h = elim (Contains-append_cases (sources m) (given m.nodes) p h) as (λ _. p < m.size) [
    | inl s ↦ source s.0 s.1 s.2
    | inr g ↦ let lt = (given-apart d shape flat order ordered m built p g).2 in let s = built.size in omega (arith, lt, s)
  ]
    where
      either : Contains (states m ++ m.inputs) p → p < m.size
      either c = elim (Contains-append_cases (states m) m.inputs p c) as (λ _. p < m.size) [
        | inl t ↦ elim (state-where p t) as (λ _. p < m.size) [
          | inl low ↦ let s = built.size in omega (arith, low, s)
          | inr high ↦ let lt = high.1 in let s = built.size in omega (arith, lt, s)
        ]
        | inr t ↦ let lt = input-below p t in let s = built.size in omega (arith, lt, s)
      ]

      source : (k : ℕ) → k < length (sources m) → get_or (sources m) k p ≡ p → p < m.size
      source zero lt e = let z = built.zero in let s = built.size in omega (arith, e, z, s)
      source (suc zero) lt e = let z = built.zero in let s = built.size in omega (arith, e, z, s)
      source (suc (suc k)) lt e = either (k, omega (arith, lt), e)
