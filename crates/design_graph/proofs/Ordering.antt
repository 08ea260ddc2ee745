-- Drivers at their nodes, and their order.
use Rattle.std.proofs.Common.{◌≡◌, ◌⊎◌, inl, inr, ℕ, zero, suc, ◌+◌, ◌<◌, ◌≤◌, ◌∙◌, List, [], ◌∷◌, ◌++◌, Bool, true, length, set, replicate, Option, Some, None, refl, ap, sym, subst, arith, length-set}
use Rattle.std.specs.Prelude.{slice_get}
use Rattle.std.specs.Option.{option_to_list}
use Rattle.std.proofs.lemmas.Bool.{cases_lt, cases_eq}
use Rattle.std.proofs.lemmas.List.{length-replicate, append-nil}
use Rattle.std.proofs.lemmas.Option.{slice_get_within}
use Rattle.digraph.specs.Graph.{Graph, HasEdge, IsSorted, IsOnCycle}
use Rattle.digraph.proofs.Lists.{get-set-same, get-set-other, get-at, set-cases, get-push-old, get-push-new, get-push-either}
use Rattle.design_core.specs.Shape.{CellOf, ConnectOf, DesignOf, IsDeclared, IsDesign}
use Rattle.design_core.specs.Table.{role_of}
use Rattle.design_meaning.specs.Meaning.{IsCell}
use Rattle.design_graph.specs.Order.{IsDriver, Drives, DrivesFrom, IsCellOnLoop, IsOrder, is_in_cycle}
use Rattle.design_meaning.specs.Rests.{RestsOn, IsOnLoop}
use Rattle.design_graph.specs.Items.{IsDrivenOnce}
use Rattle.design_core.specs.Places.{place_of, places}
use Rattle.design_graph.specs.Edges.{IsNode, IsPut, IsTableUpto, IsDriverTable, IsEmitted, IsRestGraph}
use Rattle.design_graph.proofs.Declared.{left-declared}
use Rattle.design_signals.specs.declared.sig_bit.SigBit.{SigBit}
use Rattle.design_signals.specs.declared.sig_bit.SigBit.TheVariants.{Wire}
use Rattle.design_graph.specs.declared.driver.Driver.{Driver}
use Rattle.design_graph.specs.declared.driver.Driver.TheVariants.{Cell, Connect}
use Rattle.design_core.proofs.Lists.{Contains-from_place, place-from_Contains, one_at}
use Rattle.design_core.proofs.Places.{place_of-same, place_of-within}
use Rattle.design_graph.proofs.Unique.{one-connect, output-wire, left-wire}
use Rattle.design_graph.proofs.Resting.{drives-declared, edge-down, edge-to, edge-from, loop-bits, loop-cells}

replicate-none : (n p : ℕ) (r : Driver) → slice_get (replicate n None) p ≡ Some (Some r) → ⊥
replicate-none zero p r h = cc
replicate-none (suc n) zero r h = cc
replicate-none (suc n) (suc p) r h = replicate-none n p r h

pub IsTableUpto-none : (d : DesignOf) (n : ℕ) → n ≡ places d + length d.cells → IsTableUpto d 0 0 0 (replicate n None)
IsTableUpto-none d n e = record {
  size = length-replicate n None ∙ e;
  sound = λ p r h. absurd (replicate-none n p r h);
  complete = λ r p is node put. absurd (nothing r put);
}
  where
    nothing : (r : Driver) → IsPut 0 0 0 r → ⊥
    nothing (Cell i) h = omega arith
    nothing (Connect i k) (inl h) = omega arith
    nothing (Connect i k) (inr h) = omega (arith, h.1)

module _ (d : DesignOf) (shape : IsDesign d) where
  node-place : (r : Driver) (p q : ℕ) → IsNode d r p → IsNode d r q → p ≡ q
  node-place (Cell i) p q h g = h ∙ sym g
  node-place (Connect i k) p q h g =
      let j : h.0 ≡ g.0 = one_at d.connects i h.0 g.0 h.2 g.2 in
      let a : h.1 ≡ g.1 = one_at g.0.left k h.1 g.1 (subst (λ (x : ConnectOf). slice_get x.left k ≡ Some h.1) j h.3) g.3 in
      h.4 ∙ (ap (λ (x : SigBit). place_of d x) a ∙ sym g.4)

  pub node-within : (r : Driver) (p : ℕ) → IsDriver d r → IsNode d r p → p < places d + length d.cells
  node-within (Cell i) p is h = omega (arith, h, slice_get_within d.cells i is.0 is.1)
  node-within (Connect i k) p is h = omega (arith, h.4, place_of-within d h.1 (left-declared d shape i k h.0 h.1 h.2 h.3))

  pub node-of : (r : Driver) → IsDriver d r → (p : ℕ) × IsNode d r p
  node-of (Cell i) is = (places d + i, refl)
  node-of (Connect i k) is = let a = get-at is.0.left k is.2 in (place_of d a.0, (is.0, a.0, is.1, a.1, refl))

  module _ (drivers : IsDrivenOnce d) where
    node-one : (r s : Driver) (p : ℕ) → IsNode d r p → IsNode d s p → r ≡ s
    node-one (Cell i) (Cell j) p h g = ap Cell (omega (arith, h, g))
    node-one (Cell i) (Connect j k) p h g = absurd (omega (arith, h, g.4, place_of-within d g.1 (left-declared d shape j k g.0 g.1 g.2 g.3)))
    node-one (Connect j k) (Cell i) p g h = absurd (omega (arith, h, g.4, place_of-within d g.1 (left-declared d shape j k g.0 g.1 g.2 g.3)))
    node-one (Connect i k) (Connect j l) p h g =
        let a : h.1 ≡ g.1 = place_of-same d h.1 g.1 (left-declared d shape i k h.0 h.1 h.2 h.3) (left-declared d shape j l g.0 g.1 g.2 g.3) (sym h.4 ∙ g.4) in
        let e = one-connect d drivers i k j l h.0 g.0 g.1 h.2 (subst (λ (x : SigBit). slice_get h.0.left k ≡ Some x) a h.3) g.2 g.3 in
        ap (λ (x : ℕ). Connect x k) e.0 ∙ ap (λ (x : ℕ). Connect j x) e.1

    -- one driver more
    put : (x y z x' y' z' : ℕ) (t : List (Option Driver)) (r : Driver) (p : ℕ) → IsTableUpto d x y z t → IsDriver d r → IsNode d r p
        → ((s : Driver) → IsPut x y z s → IsPut x' y' z' s) → IsPut x' y' z' r → ((s : Driver) → IsDriver d s → IsPut x' y' z' s → IsPut x y z s ⊎ (s ≡ r))
        → IsTableUpto d x' y' z' (set t p (Some r))
    put x y z x' y' z' t r p s is node grow here only = record {
      size = length-set t p (Some r) ∙ s.size;
      sound = λ q o h. elim (set-cases t p q (Some r) (Some o) was.0 was.1 h) as (λ _. IsDriver d o × IsNode d o q × IsPut x' y' z' o) [
        | inl same ↦
            let e : o ≡ r = some-same o r same.1 in
            (subst (λ (v : Driver). IsDriver d v) (sym e) is, subst (λ (v : Driver). IsNode d v q) (sym e) (subst (λ (n : ℕ). IsNode d r n) (sym same.0) node), subst (λ (v : Driver). IsPut x' y' z' v) (sym e) here)
        | inr other ↦ let k = s.sound q o other.1 in (k.0, k.1, grow o k.2)
      ];
      complete = λ o q io no po. elim (cases_eq q p) as (λ _. slice_get (set t p (Some r)) q ≡ Some (Some o)) [
        | inl same ↦
            let e : o ≡ r = node-one o r p (subst (λ (n : ℕ). IsNode d o n) same no) node in
            ap (λ (n : ℕ). slice_get (set t p (Some r)) n) same ∙ (get-set-same t p (Some r) was.0 was.1 ∙ ap (λ (v : Driver). Some (Some v)) (sym e))
        | inr other ↦ get-set-other t p q (Some r) other ∙ elim (only o io po) as (λ _. slice_get t q ≡ Some (Some o)) [
          | inl old ↦ s.complete o q io no old
          | inr e ↦ absurd (other (node-place r q p (subst (λ (v : Driver). IsNode d v q) e no) node))
        ]
      ];
    }
      where
        was : (o : Option Driver) × (slice_get t p ≡ Some o)
        was = get-at t p (omega (arith, s.size, node-within r p is node))

        some-same : (v w : Driver) → Some v ≡ Some w → v ≡ w
        some-same v w e = cc

    pub put-cell : (i : ℕ) (t : List (Option Driver)) (c : CellOf) → IsTableUpto d i 0 0 t → IsCell d i c → is_in_cycle (role_of c.kind) ≡ true
        → IsTableUpto d (i + 1) 0 0 (set t (places d + i) (Some (Cell i)))
    put-cell i t c s at comb = put i 0 0 (i + 1) 0 0 t (Cell i) (places d + i) s (c, at, comb) refl grow (omega arith) only
      where
        grow : (r : Driver) → IsPut i 0 0 r → IsPut (i + 1) 0 0 r
        grow (Cell k) h = omega arith
        grow (Connect k l) h = h

        only : (r : Driver) → IsDriver d r → IsPut (i + 1) 0 0 r → IsPut i 0 0 r ⊎ (r ≡ Cell i)
        only (Cell k) is h = elim (cases_lt k i) as (λ _. (k < i) ⊎ (Cell k ≡ Cell i)) [ inl less ↦ inl less | inr more ↦ inr (ap Cell (omega arith)) ]
        only (Connect k l) is h = inl h

    pub put-bit : (n i k : ℕ) (t : List (Option Driver)) (j : ConnectOf) (a : SigBit) → IsTableUpto d n i k t → slice_get d.connects i ≡ Some j → slice_get j.left k ≡ Some a
        → IsTableUpto d n i (k + 1) (set t (place_of d a) (Some (Connect i k)))
    put-bit n i k t j a s at bit =
        put n i k n i (k + 1) t (Connect i k) (place_of d a) s (j, at, slice_get_within j.left k a bit) (j, a, at, bit, refl) grow (inr (refl, omega arith)) only
      where
        grow : (r : Driver) → IsPut n i k r → IsPut n i (k + 1) r
        grow (Cell m) h = h
        grow (Connect m l) (inl h) = inl h
        grow (Connect m l) (inr h) = inr (h.0, omega (arith, h.1))

        only : (r : Driver) → IsDriver d r → IsPut n i (k + 1) r → IsPut n i k r ⊎ (r ≡ Connect i k)
        only (Cell m) is h = inl h
        only (Connect m l) is (inl h) = inl (inl h)
        only (Connect m l) is (inr h) = elim (cases_lt l k) as (λ _. ((m < i) ⊎ ((m ≡ i) × (l < k))) ⊎ (Connect m l ≡ Connect i k)) [
          | inl less ↦ inl (inr (h.0, less))
          | inr more ↦ let e : l ≡ k = omega (arith, h.1) in inr (ap (λ (x : ℕ). Connect x l) h.0 ∙ ap (λ (x : ℕ). Connect i x) e)
        ]

  pub skip-cell : (i : ℕ) (t : List (Option Driver)) (c : CellOf) → IsTableUpto d i 0 0 t → IsCell d i c → (is_in_cycle (role_of c.kind) ≡ true → ⊥) → IsTableUpto d (i + 1) 0 0 t
  skip-cell i t c s at other = record {
    size = s.size;
    sound = λ p r h. let k = s.sound p r h in (k.0, k.1, grow r k.2);
    complete = λ r p is node h. s.complete r p is node (only r is h);
  }
    where
      grow : (r : Driver) → IsPut i 0 0 r → IsPut (i + 1) 0 0 r
      grow (Cell k) h = omega arith
      grow (Connect k l) h = h

      only : (r : Driver) → IsDriver d r → IsPut (i + 1) 0 0 r → IsPut i 0 0 r
      only (Cell k) is h = elim (cases_lt k i) as (λ _. k < i) [
        | inl less ↦ less
        | inr more ↦
            let e : k ≡ i = omega arith in
            let same : is.0 ≡ c = one_at d.cells i is.0 c (subst (λ (n : ℕ). IsCell d n is.0) e is.1) at in
            absurd (other (subst (λ (x : CellOf). is_in_cycle (role_of x.kind) ≡ true) same is.2))
      ]
      only (Connect k l) is h = h

  pub end-connect : (n i k : ℕ) (t : List (Option Driver)) (j : ConnectOf) → IsTableUpto d n i k t → slice_get d.connects i ≡ Some j → length j.left ≤ k → IsTableUpto d n (i + 1) 0 t
  end-connect n i k t j s at most = record {
    size = s.size;
    sound = λ p r h. let o = s.sound p r h in (o.0, o.1, grow r o.2);
    complete = λ r p is node h. s.complete r p is node (only r is h);
  }
    where
      grow : (r : Driver) → IsPut n i k r → IsPut n (i + 1) 0 r
      grow (Cell m) h = h
      grow (Connect m l) (inl h) = inl (omega arith)
      grow (Connect m l) (inr h) = inl (omega (arith, h.0))

      only : (r : Driver) → IsDriver d r → IsPut n (i + 1) 0 r → IsPut n i k r
      only (Cell m) is h = h
      only (Connect m l) is (inl h) = elim (cases_lt m i) as (λ _. (m < i) ⊎ ((m ≡ i) × (l < k))) [
        | inl less ↦ inl less
        | inr more ↦
            let e : m ≡ i = omega arith in
            let same : is.0 ≡ j = one_at d.connects i is.0 j (subst (λ (x : ℕ). slice_get d.connects x ≡ Some is.0) e is.1) at in
            let size : length is.0.left ≡ length j.left = ap (λ (x : ConnectOf). length x.left) same in
            inr (e, omega (arith, is.2, size))
      ]
      only (Connect m l) is (inr h) = absurd (omega (arith, h.1))

  pub IsDriverTable-end : (n i : ℕ) (t : List (Option Driver)) → length d.cells ≤ n → length d.connects ≤ i → IsTableUpto d n i 0 t → IsDriverTable d t
  IsDriverTable-end n i t cells connects s = record {
    size = s.size;
    sound = λ p r h. let o = s.sound p r h in (o.0, o.1);
    complete = λ r p is node. s.complete r p is node (all r is);
  }
    where
      all : (r : Driver) → IsDriver d r → IsPut n i 0 r
      all (Cell m) is = omega (arith, slice_get_within d.cells m is.0 is.1)
      all (Connect m l) is = inl (omega (arith, slice_get_within d.connects m is.0 is.1))

pub IsEmitted-none : (table : List (Option Driver)) (nodes : List ℕ) → IsEmitted table nodes 0 []
IsEmitted-none table nodes = record {
  from = λ m r h. absurd (cc);
  all = λ j p r lt. absurd (omega arith);
  rising = λ m n r s lt h. absurd (cc);
}

module _ (table : List (Option Driver)) (nodes : List ℕ) (t : ℕ) (order : List Driver) (e : IsEmitted table nodes t order) (p : ℕ) (at : slice_get nodes t ≡ Some p) where
  same-entry : (j q : ℕ) (r : Driver) (o : Option Driver) → j ≡ t → slice_get nodes j ≡ Some q → slice_get table q ≡ Some (Some r) → slice_get table p ≡ Some o → o ≡ Some r
  same-entry j q r o ej h k is =
      let eq : q ≡ p = one_at nodes t q p (subst (λ (n : ℕ). slice_get nodes n ≡ Some q) ej h) at in
      one_at table p o (Some r) is (subst (λ (n : ℕ). slice_get table n ≡ Some (Some r)) eq k)

  skip : slice_get table p ≡ Some None → IsEmitted table nodes (t + 1) order
  skip none = record {
    from = λ m r h. let f = e.from m r h in (f.0, f.1, omega (arith, f.2), f.3, f.4);
    all = λ j q r lt h k. elim (cases_lt j t) as (λ _. (m : ℕ) × (slice_get order m ≡ Some r)) [
      | inl less ↦ e.all j q r less h k
      | inr more ↦ absurd (clash r (same-entry j q r None (omega arith) h k none))
    ];
    rising = e.rising;
  }
    where
      clash : (r : Driver) → None ≡ Some r → ⊥
      clash r f = cc

  abbrev Rising : Driver → Driver → Type 0
  Rising a b = (j : ℕ) × (l : ℕ) × (q : ℕ) × (o : ℕ) × (j < l) × (slice_get nodes j ≡ Some q) × (slice_get table q ≡ Some (Some a)) × (slice_get nodes l ≡ Some o) × (slice_get table o ≡ Some (Some b))

  emit : (r : Driver) → slice_get table p ≡ Some (Some r) → IsEmitted table nodes (t + 1) (order ++ r ∷ [])
  emit r is = record {
    from = λ m s h. elim (get-push-either order r s m h) as (λ _. (j : ℕ) × (q : ℕ) × (j < t + 1) × (slice_get nodes j ≡ Some q) × (slice_get table q ≡ Some (Some s))) [
      | inl old ↦ let f = e.from m s old in (f.0, f.1, omega (arith, f.2), f.3, f.4)
      | inr last ↦ (t, p, omega arith, at, subst (λ (v : Driver). slice_get table p ≡ Some (Some v)) (sym last.1) is)
    ];
    all = λ j q s lt h k. elim (cases_lt j t) as (λ _. (m : ℕ) × (slice_get (order ++ r ∷ []) m ≡ Some s)) [
      | inl less ↦ let f = e.all j q s less h k in (f.0, get-push-old order r s f.0 f.1)
      | inr more ↦
          let one : r ≡ s = some-same r s (same-entry j q s (Some r) (omega arith) h k is) in
          (length order, subst (λ (v : Driver). slice_get (order ++ r ∷ []) (length order) ≡ Some v) one (get-push-new order r))
    ];
    rising = λ m n a b lt h k. elim (get-push-either order r b n k) as (λ _. Rising a b) [
      | inl old ↦ elim (get-push-either order r a m h) as (λ _. Rising a b) [
        | inl older ↦ e.rising m n a b lt older old
        | inr end ↦ absurd (omega (arith, slice_get_within order n b old, end.0))
      ]
      | inr last ↦ elim (get-push-either order r a m h) as (λ _. Rising a b) [
        | inl older ↦ let f = e.from m a older in (f.0, t, f.1, p, f.2, f.3, f.4, at, subst (λ (v : Driver). slice_get table p ≡ Some (Some v)) (sym last.1) is)
        | inr end ↦ absurd (omega (arith, last.0, end.0))
      ]
    ];
  }
    where
      some-same : (v w : Driver) → Some v ≡ Some w → v ≡ w
      some-same v w f = cc

  pub IsEmitted-next : (o : Option Driver) → slice_get table p ≡ Some o → IsEmitted table nodes (t + 1) (order ++ option_to_list o)
  IsEmitted-next None is = subst (λ (l : List Driver). IsEmitted table nodes (t + 1) l) (sym (append-nil order)) (skip is)
  IsEmitted-next (Some r) is = emit r is

module _ (d : DesignOf) (shape : IsDesign d) (drivers : IsDrivenOnce d) (cells : (i : ℕ) → IsCellOnLoop d i → ⊥) (bits : (w b : ℕ) → IsOnLoop d (Wire w b) → ⊥)
    (g : Graph) (rest : IsRestGraph d g) (nodes : List ℕ) (cyclic : List Bool) (leaders : List ℕ) (s : IsSorted g nodes cyclic leaders)
    (table : List (Option Driver)) (is : IsDriverTable d table) (order : List Driver) (e : IsEmitted table nodes (length nodes) order) where
  rests-wire : (a b : SigBit) → RestsOn d a b → (w : ℕ) × (k : ℕ) × (a ≡ Wire w k)
  rests-wire a b (inl h) = output-wire d drivers h.0 h.1 a h.2 h.3
  rests-wire a b (inr h) = left-wire d drivers h.0 h.2 h.1 a h.3 h.4

  no-bit : (a : SigBit) → IsDeclared d.wires d.free a → IsOnCycle g (place_of d a) → ⊥
  no-bit a da c =
      let l = (loop-bits d shape g rest a da).0 c in
      let w = rests-wire a l.1.0 l.1.1 in
      bits w.0 w.1 (subst (λ (x : SigBit). IsOnLoop d x) w.2 l)

  no-cell : (i : ℕ) → IsOnCycle g (places d + i) → ⊥
  no-cell i c = cells i ((loop-cells d shape g rest i).0 c)

  -- a driver's node leads to what it drives from, which leads to the node that drives it
  from-edge : (r : Driver) (p : ℕ) (b : SigBit) → IsNode d r p → DrivesFrom d r b → HasEdge g p (place_of d b) × (IsOnCycle g p → ⊥)
  from-edge (Cell i) p b node h =
      (subst (λ (n : ℕ). HasEdge g n (place_of d b)) (sym node) (edge-from d shape g rest i b h), λ c. no-cell i (subst (λ (n : ℕ). IsOnCycle g n) node c))
  from-edge (Connect i k) p b node h =
      let j : h.0 ≡ node.0 = one_at d.connects i h.0 node.0 h.1 node.2 in
      let right : slice_get node.0.right k ≡ Some b = subst (λ (x : ConnectOf). slice_get x.right k ≡ Some b) j h.2 in (
        subst (λ (n : ℕ). HasEdge g n (place_of d b)) (sym node.4) (edge-down d shape g rest node.1 b (i, node.0, k, node.2, node.3, right)),
        λ c. no-bit node.1 (drives-declared d shape (Connect i k) node.1 (node.0, node.2, node.3)) (subst (λ (n : ℕ). IsOnCycle g n) node.4 c),
      )

  before : (v : Driver) (q : ℕ) (b : SigBit) → IsNode d v q → Drives d v b → (j k p : ℕ) → slice_get nodes j ≡ Some p → slice_get nodes k ≡ Some q
      → HasEdge g p (place_of d b) → (IsOnCycle g p → ⊥) → k < j
  before (Cell i) q b node h j k p at there edge none =
      let db = drives-declared d shape (Cell i) b h in
      let has = s.all (place_of d b) (omega (arith, rest.size, place_of-within d b db)) in
      let m = place-from_Contains nodes (place_of d b) has in
      let to : HasEdge g (place_of d b) q = subst (λ (n : ℕ). HasEdge g (place_of d b) n) (sym node) (edge-to d shape g rest i b h) in
      let first = s.earlier j m.0 p (place_of d b) at m.1 edge none in
      let then = s.earlier m.0 k (place_of d b) q m.1 there to (no-bit b db) in
      omega (arith, first, then)
  before (Connect i k') q b node h j k p at there edge none =
      let c : h.0 ≡ node.0 = one_at d.connects i h.0 node.0 h.1 node.2 in
      let a : b ≡ node.1 = one_at node.0.left k' b node.1 (subst (λ (x : ConnectOf). slice_get x.left k' ≡ Some b) c h.2) node.3 in
      let same : place_of d b ≡ q = ap (λ (x : SigBit). place_of d x) a ∙ sym node.4 in
      s.earlier j k p q at there (subst (λ (n : ℕ). HasEdge g p n) same edge) none

  -- where a driver stands in the order of the nodes
  entry : (m : ℕ) (r : Driver) → slice_get order m ≡ Some r → (j : ℕ) × (p : ℕ) × (slice_get nodes j ≡ Some p) × IsDriver d r × IsNode d r p
  entry m r h = let f = e.from m r h in let k = is.sound f.1 r f.4 in (f.0, f.1, f.3, k.0, k.1)

  one-index : (r : Driver) (j k p q : ℕ) → slice_get nodes j ≡ Some p → slice_get nodes k ≡ Some q → IsNode d r p → IsNode d r q → j ≡ k
  one-index r j k p q h i n o =
      let same : p ≡ q = node-place d shape r p q n o in
      s.once j k q (subst (λ (x : ℕ). slice_get nodes j ≡ Some x) same h) i

  -- two places of the order, by the nodes
  not-rising : (m n : ℕ) (r v : Driver) → m < n → slice_get order m ≡ Some r → slice_get order n ≡ Some v → (j k p q : ℕ) → slice_get nodes j ≡ Some p → IsNode d r p
      → slice_get nodes k ≡ Some q → IsNode d v q → k ≤ j → ⊥
  not-rising m n r v lt h i j k p q at node there node' le =
      let f = e.rising m n r v lt h i in
      let ej = one-index r j f.0 p f.2 at f.5 node (is.sound f.2 r f.6).1 in
      let ek = one-index v k f.1 q f.3 there f.7 node' (is.sound f.3 v f.8).1 in
      omega (arith, f.4, ej, ek)

  earlier-of : (m n : ℕ) (r v : Driver) (b : SigBit) → slice_get order m ≡ Some r → slice_get order n ≡ Some v → DrivesFrom d r b → Drives d v b → n < m
  earlier-of m n r v b h i from to =
      let x = entry m r h in
      let y = entry n v i in
      let edge = from-edge r x.1 b x.4 from in
      let lt = before v y.1 b y.4 to x.0 y.0 x.1 x.2 y.2 edge.0 edge.1 in
      elim (cases_lt n m) as (λ _. n < m) [
        | inl less ↦ less
        | inr most ↦ elim (cases_lt m n) as (λ _. n < m) [
          | inl more ↦ absurd (not-rising m n r v more h i x.0 y.0 x.1 y.1 x.2 x.4 y.2 y.4 (omega (arith, lt)))
          | inr least ↦
              let same : m ≡ n = omega arith in
              let one : r ≡ v = one_at order n r v (subst (λ (z : ℕ). slice_get order z ≡ Some r) same h) i in
              let index = one-index v x.0 y.0 x.1 y.1 x.2 y.2 (subst (λ (z : Driver). IsNode d z x.1) one x.4) y.4 in
              absurd (omega (arith, lt, index))
        ]
      ]

  once-of : (m n : ℕ) (r : Driver) → slice_get order m ≡ Some r → slice_get order n ≡ Some r → m ≡ n
  once-of m n r h i =
      let x = entry m r h in
      let y = entry n r i in
      let index = one-index r x.0 y.0 x.1 y.1 x.2 y.2 x.4 y.4 in
      elim (cases_lt m n) as (λ _. m ≡ n) [
        | inl less ↦ absurd (not-rising m n r r less h i x.0 y.0 x.1 y.1 x.2 x.4 y.2 y.4 (omega (arith, index)))
        | inr most ↦ elim (cases_lt n m) as (λ _. m ≡ n) [
          | inl more ↦ absurd (not-rising n m r r more i h y.0 x.0 y.1 x.1 y.2 y.4 x.2 x.4 (omega (arith, index)))
          | inr least ↦ omega arith
        ]
      ]

  pub IsOrder-built : IsOrder d order
  IsOrder-built = record {
    drivers = λ m r h. (entry m r h).3;
    all = λ r h.
        let p = node-of d shape r h in
        let has = s.all p.0 (omega (arith, rest.size, node-within d shape r p.0 h p.1)) in
        let at = place-from_Contains nodes p.0 has in
        let f = e.all at.0 p.0 r (slice_get_within nodes at.0 p.0 at.1) at.1 (is.complete r p.0 h p.1) in
        Contains-from_place order f.0 r f.1;
    once = once-of;
    earlier = earlier-of;
  }
