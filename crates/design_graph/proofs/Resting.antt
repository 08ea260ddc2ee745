-- What rests on what, as walks in the graph of places and cells.
use Rattle.std.proofs.Common.{◌≡◌, ◌⊎◌, inl, inr, ℕ, zero, suc, ◌+◌, ◌<◌, List, Bool, length, Contains, refl, sym, subst, ◌∙◌, arith}
use Rattle.std.specs.Prelude.{◌↔◌}
use Rattle.std.proofs.lemmas.Option.{slice_get_within}
use Rattle.digraph.specs.Graph.{Graph, HasEdge, Walk, Reaches, IsGraph, IsSorted, IsOnCycle}
use Rattle.digraph.proofs.Lists.{reaches-on, reaches-step, reaches-itself, reaches-edge}
use Rattle.design_core.specs.Shape.{CellOf, DesignOf, IsDeclared, IsDesign}
use Rattle.design_core.specs.Asked.{output_of}
use Rattle.design_meaning.specs.Meaning.{IsCell, IsConnected}
use Rattle.design_graph.specs.Order.{IsRead, Drives, DrivesFrom, IsCellOnLoop}
use Rattle.design_meaning.specs.Rests.{RestsOn, Rests, IsOnLoop}
use Rattle.design_core.specs.Places.{place_of, places}
use Rattle.design_graph.specs.Edges.{IsRestGraph, IsLooped}
use Rattle.design_signals.specs.declared.sig_bit.SigBit.{SigBit}
use Rattle.design_graph.specs.declared.driver.Driver.{Driver}
use Rattle.design_graph.specs.declared.driver.Driver.TheVariants.{Cell, Connect}
use Rattle.design_core.proofs.Lists.{one_at}
use Rattle.design_core.proofs.Places.{place_of-same, place_of-within}
use Rattle.design_graph.proofs.Declared.{left-declared, right-declared, output-declared, read-declared}
use Rattle.design_graph.proofs.Netting.{down-connected, connected-down, connected-declared}

module _ (d : DesignOf) (shape : IsDesign d) where
  pub drives-declared : (r : Driver) (a : SigBit) → Drives d r a → IsDeclared d.wires d.free a
  drives-declared (Cell i) a h = output-declared d shape i h.0 a h.1 h.2
  drives-declared (Connect i k) a h = left-declared d shape i k h.0 a h.1 h.2

  pub from-declared : (r : Driver) (b : SigBit) → DrivesFrom d r b → IsDeclared d.wires d.free b
  from-declared (Cell i) b h = read-declared d shape i h.0 b h.1 h.2
  from-declared (Connect i k) b h = right-declared d shape i k h.0 b h.1 h.2

  -- what a bit rests on, by the cell that drives it
  pub cell-rests : (i : ℕ) (a b : SigBit) → Drives d (Cell i) a → DrivesFrom d (Cell i) b → RestsOn d a b
  cell-rests i a b h g =
      let same : g.0 ≡ h.0 = one_at d.cells i g.0 h.0 g.1 h.1 in
      inl (i, h.0, h.1, h.2, subst (λ (c : CellOf). IsRead c b) same g.2)

  connected-rests : (a b : SigBit) → IsConnected d a b → RestsOn d a b
  connected-rests a b n = inr n

  module _ (g : Graph) (rest : IsRestGraph d g) where
    -- the edges, by what they start from
    pub edge-down : (a b : SigBit) → IsConnected d a b → HasEdge g (place_of d a) (place_of d b)
    edge-down a b n = (rest.edges (place_of d a) (place_of d b)).1 (inl (connected-down d shape a b n))

    pub edge-to : (i : ℕ) (a : SigBit) → Drives d (Cell i) a → HasEdge g (place_of d a) (places d + i)
    edge-to i a h = (rest.edges (place_of d a) (places d + i)).1 (inr (i, h.0, h.1, inl ((a, h.2, refl), refl)))

    pub edge-from : (i : ℕ) (b : SigBit) → DrivesFrom d (Cell i) b → HasEdge g (places d + i) (place_of d b)
    edge-from i b h = (rest.edges (places d + i) (place_of d b)).1 (inr (i, h.0, h.1, inr (refl, (b, h.2, refl))))

    -- from a bit an edge leads to what drives it
    abbrev IsBitStep : SigBit → ℕ → Type 0
    IsBitStep a q = ((b : SigBit) × RestsOn d a b × IsDeclared d.wires d.free b × (q ≡ place_of d b)) ⊎ ((i : ℕ) × Drives d (Cell i) a × (q ≡ places d + i))

    bit-step : (a : SigBit) (p q : ℕ) → p ≡ place_of d a → IsDeclared d.wires d.free a → HasEdge g p q → IsBitStep a q
    bit-step a p q at da e = elim ((rest.edges p q).0 e) as (λ _. IsBitStep a q) [
      | inl down ↦
          let c = down-connected d shape p q down in
          let ends = connected-declared d shape c.0 c.1 c.2 in
          let same : c.0 ≡ a = place_of-same d c.0 a ends.0 da (sym c.3 ∙ at) in
          inl (c.1, connected-rests a c.1 (subst (λ (x : SigBit). IsConnected d x c.1) same c.2), ends.1, c.4)
      | inr cell ↦ elim cell.3 as (λ _. IsBitStep a q) [
        | inl out ↦
            let has = out.0.1 in
            let same : out.0.0 ≡ a = place_of-same d out.0.0 a (output-declared d shape cell.0 cell.1 out.0.0 cell.2 has) da (sym out.0.2 ∙ at) in
            inr (cell.0, (cell.1, cell.2, subst (λ (x : SigBit). Contains (output_of cell.1) x) same has), out.1)
        | inr in' ↦ absurd (omega (arith, in'.0, at, place_of-within d a da))
      ]
    ]

    -- from a cell an edge leads to what it reads
    cell-step : (i p q : ℕ) → p ≡ places d + i → HasEdge g p q → (b : SigBit) × DrivesFrom d (Cell i) b × IsDeclared d.wires d.free b × (q ≡ place_of d b)
    cell-step i p q at e = elim ((rest.edges p q).0 e) as (λ _. (b : SigBit) × DrivesFrom d (Cell i) b × IsDeclared d.wires d.free b × (q ≡ place_of d b)) [
      | inl down ↦
          let c = down-connected d shape p q down in
          absurd (omega (arith, c.3, at, place_of-within d c.0 (connected-declared d shape c.0 c.1 c.2).0))
      | inr cell ↦ elim cell.3 as (λ _. (b : SigBit) × DrivesFrom d (Cell i) b × IsDeclared d.wires d.free b × (q ≡ place_of d b)) [
        | inl out ↦ absurd (omega (arith, out.0.2, at, place_of-within d out.0.0 (output-declared d shape cell.0 cell.1 out.0.0 cell.2 out.0.1)))
        | inr in' ↦
            let same : cell.0 ≡ i = omega (arith, in'.0, at) in
            let at-i : IsCell d i cell.1 = subst (λ (x : ℕ). IsCell d x cell.1) same cell.2 in
            let r = in'.1 in
            (r.0, (cell.1, at-i, r.1), read-declared d shape cell.0 cell.1 r.0 cell.2 r.1, r.2)
      ]
    ]

    -- a walk's end, as a bit that the start rests on: the end itself, or one that the cell at the end drives
    abbrev IsEnd : SigBit → ℕ → Type 0
    IsEnd x t = ((t ≡ place_of d x) × IsDeclared d.wires d.free x) ⊎ ((i : ℕ) × (t ≡ places d + i) × Drives d (Cell i) x)

    abbrev FromBit : SigBit → ℕ → Type 0
    FromBit a t = (x : SigBit) × (n : ℕ) × Rests d n a x × IsEnd x t

    abbrev FromCell : ℕ → ℕ → Type 0
    FromCell i t = (b : SigBit) × DrivesFrom d (Cell i) b × FromBit b t

    more : (a b : SigBit) (t : ℕ) → RestsOn d a b → FromBit b t → FromBit a t
    more a b t r f = (f.0, suc f.1, (b, r, f.2), f.3)

    by-step : (n q t : ℕ) (a : SigBit) → IsBitStep a q → ((b : SigBit) → q ≡ place_of d b → IsDeclared d.wires d.free b → FromBit b t)
        → ((i : ℕ) → q ≡ places d + i → (q ≡ t) ⊎ FromCell i t) → FromBit a t
    by-step n q t a (inl h) bits cells = more a h.0 t h.1 (bits h.0 h.3 h.2)
    by-step n q t a (inr h) bits cells = elim (cells h.0 h.2) as (λ _. FromBit a t) [
      | inl end ↦ (a, 0, refl, inr (h.0, sym end ∙ h.2, h.1))
      | inr on ↦ more a on.0 t (cell-rests h.0 a on.0 h.1 on.1) on.2
    ]

    -- walks from a bit, and from a cell
    walks : (n p t : ℕ) → Walk g n p t
        → ((a : SigBit) → p ≡ place_of d a → IsDeclared d.wires d.free a → FromBit a t) × ((i : ℕ) → p ≡ places d + i → (p ≡ t) ⊎ FromCell i t)
    walks zero p t w = (λ a at da. (a, 0, refl, inl (sym w ∙ at, da)), λ i at. inl w)
    walks (suc n) p t w = (
      λ a at da. by-step n w.0 t a (bit-step a p w.0 at da w.1) (walks n w.0 t w.2).0 (walks n w.0 t w.2).1,
      λ i at. let s = cell-step i p w.0 at w.1 in inr (s.0, s.1, (walks n w.0 t w.2).0 s.0 s.3 s.2),
    )

    -- what a bit rests on is reached
    rest-edge : (a b : SigBit) → RestsOn d a b → (c : ℕ) × HasEdge g (place_of d a) c × Reaches g c (place_of d b)
    rest-edge a b (inl h) =
        (places d + h.0, edge-to h.0 a (h.1, h.2, h.3), reaches-step g (places d + h.0) (place_of d b) (place_of d b) (edge-from h.0 b (h.1, h.2, h.4)) (reaches-itself g (place_of d b)))
    rest-edge a b (inr n) = (place_of d b, edge-down a b n, reaches-itself g (place_of d b))

    rests-reaches : (n : ℕ) (a b : SigBit) → Rests d n a b → Reaches g (place_of d a) (place_of d b)
    rests-reaches zero a b h = subst (λ (x : SigBit). Reaches g (place_of d a) (place_of d x)) h (reaches-itself g (place_of d a))
    rests-reaches (suc n) a b h =
        let e = rest-edge a h.0 h.1 in
        reaches-step g (place_of d a) e.0 (place_of d b) e.1 (reaches-on g e.0 (place_of d h.0) (place_of d b) e.2 (rests-reaches n h.0 b h.2))

    end-bit : (x a : SigBit) → IsDeclared d.wires d.free a → IsEnd x (place_of d a) → x ≡ a
    end-bit x a da (inl h) = place_of-same d x a h.1 da (sym h.0)
    end-bit x a da (inr h) = absurd (omega (arith, h.1, place_of-within d a da))

    end-cell : (x : SigBit) (i : ℕ) → IsEnd x (places d + i) → Drives d (Cell i) x
    end-cell x i (inl h) = absurd (omega (arith, h.0, place_of-within d x h.1))
    end-cell x i (inr h) = let same : h.0 ≡ i = omega (arith, h.1) in subst (λ (y : ℕ). Drives d (Cell y) x) same h.2

    loop-from_step : (a : SigBit) (q : ℕ) → IsDeclared d.wires d.free a → IsBitStep a q → Reaches g q (place_of d a) → IsOnLoop d a
    loop-from_step a q da (inl h) r =
        let f = (walks r.0 q (place_of d a) r.1).0 h.0 h.3 h.2 in
        (f.1, (h.0, h.1, subst (λ (x : SigBit). Rests d f.1 h.0 x) (end-bit f.0 a da f.3) f.2))
    loop-from_step a q da (inr h) r = elim ((walks r.0 q (place_of d a) r.1).1 h.0 h.2) as (λ _. IsOnLoop d a) [
      | inl end ↦ absurd (omega (arith, end, h.2, place_of-within d a da))
      | inr on ↦ (on.2.1, (on.0, cell-rests h.0 a on.0 h.1 on.1, subst (λ (x : SigBit). Rests d on.2.1 on.0 x) (end-bit on.2.0 a da on.2.3) on.2.2))
    ]

    pub loop-bits : (a : SigBit) → IsDeclared d.wires d.free a → IsOnCycle g (place_of d a) ↔ IsOnLoop d a
    loop-bits a da = (
      λ h. loop-from_step a h.0 da (bit-step a (place_of d a) h.0 refl da h.1) h.2,
      λ h.
          let e = rest-edge a h.1.0 h.1.1 in
          (e.0, e.1, reaches-on g e.0 (place_of d h.1.0) (place_of d a) e.2 (rests-reaches h.0 h.1.0 a h.1.2)),
    )

    pub loop-cells : (i : ℕ) → IsOnCycle g (places d + i) ↔ IsCellOnLoop d i
    loop-cells i = (
      λ h.
          let s = cell-step i (places d + i) h.0 refl h.1 in
          let f = (walks h.2.0 h.0 (places d + i) h.2.1).0 s.0 s.3 s.2 in
          (f.0, s.0, f.1, end-cell f.0 i f.3, s.1, f.2),
      λ h.
          (place_of d h.1, edge-from i h.1 h.4, reaches-edge g (place_of d h.1) (place_of d h.0) (places d + i) (rests-reaches h.2 h.1 h.0 h.5) (edge-to i h.0 h.3)),
    )

    pub IsGraph-rests : IsGraph g
    IsGraph-rests p q e = elim ((rest.edges p q).0 e) as (λ _. q < length g) [
      | inl down ↦
          let c = down-connected d shape p q down in
          omega (arith, c.4, rest.size, place_of-within d c.1 (connected-declared d shape c.0 c.1 c.2).1)
      | inr cell ↦ elim cell.3 as (λ _. q < length g) [
        | inl out ↦ omega (arith, out.1, rest.size, slice_get_within d.cells cell.0 cell.1 cell.2)
        | inr in' ↦ let r = in'.1 in omega (arith, r.2, rest.size, place_of-within d r.0 (read-declared d shape cell.0 cell.1 r.0 cell.2 r.1))
      ]
    ]

    both : {A B C : Type 0} → A ↔ B → B ↔ C → A ↔ C
    both f h = (λ a. h.0 (f.0 a), λ c. f.1 (h.1 c))

    pub IsLooped-sorted : (order : List ℕ) (cyclic : List Bool) (leaders : List ℕ) → IsSorted g order cyclic leaders → IsLooped d cyclic
    IsLooped-sorted order cyclic leaders s = record {
      size = s.marked ∙ rest.size;
      bits = λ a da. let lt : place_of d a < length g = omega (arith, rest.size, place_of-within d a da) in both (s.cycles (place_of d a) lt) (loop-bits a da);
      cells = λ i lt. let lt2 : places d + i < length g = omega (arith, rest.size, lt) in both (s.cycles (places d + i) lt2) (loop-cells i);
    }
