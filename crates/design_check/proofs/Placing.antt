-- The first places of faults.
use Rattle.std.proofs.Common.{◌≡◌, ◌≢◌, inl, inr, ℕ, ◌<◌, ◌≤◌, true, length, Some, refl, subst, arith}
use Rattle.std.specs.Prelude.{slice_get}
use Rattle.std.proofs.lemmas.Bool.{cases_lt}
use Rattle.design_core.specs.Asked.{HasPorts}
use Rattle.design_core.specs.Shape.{CellOf, ConnectOf, DesignOf, IsDesign}
use Rattle.design_core.proofs.Lists.{one_at}
use Rattle.design_graph.specs.Edges.{IsWireOnLoop}
use Rattle.design_graph.specs.Items.{PrecedesBit, DrivesBit, IsDrivenOnce, IsFirstWrong}
use Rattle.design_graph.specs.Order.{IsCellOnLoop}
use Rattle.design_graph.specs.declared.item.Item.{Item}
use Rattle.design_graph.specs.declared.item.Item.TheVariants.{Cell, Connect}
use Rattle.design_meaning.specs.Meaning.{IsCell}
use Rattle.design_signals.specs.declared.sig_bit.SigBit.{SigBit}
use Rattle.design_check.specs.Conflicts.{IsFirstConflict}
use Rattle.design_check.specs.Faults.{Before, Instance, IsCellWith, IsConflict, IsFirst, IsOtherClock, IsPartFault, Place, Whole, Bit, Wire, is_of_cells}
use Rattle.design_check.specs.declared.fault.FaultKind.{FaultKind}
use Rattle.design_check.specs.declared.fault.FaultKind.TheVariants.{UnknownCell, LeftOut, BadParameter, PortWidth, WidthLimit, MixedSign, TwoDrivers, MultiClock, InitConflict, Loop}

number-cell : (i k : ℕ) → Cell i ≡ Cell k → i ≡ k
number-cell i k e = cc

cell-connect : (i k : ℕ) → Cell i ≡ Connect k → ⊥
cell-connect i k e = cc

module _ (d : DesignOf) (P : ℕ → CellOf → Type 0) where
  -- a cell's fault comes after those of the cells before
  cell-first : (r : ℕ) → ((i : ℕ) (c : CellOf) → i < r → IsCell d i c → P i c → ⊥) → (q : Place) → Before d q (Whole (Cell r)) → IsCellWith d q P → ⊥
  cell-first r none q b h = none h.0 h.1 (subst (λ (p : Place). Before d p (Whole (Cell r))) h.2 b) h.3 h.4

-- the faults that cells have by themselves
part-to : (d : DesignOf) (k : FaultKind) → is_of_cells k ≡ true → (p : Place) → IsCellWith d p (λ i c. IsPartFault k c) → Instance d k p
part-to d UnknownCell e p h = h
part-to d LeftOut e p h = h
part-to d BadParameter e p h = h
part-to d PortWidth e p h = absurd cc
part-to d WidthLimit e p h = h
part-to d MixedSign e p h = h
part-to d TwoDrivers e p h = absurd cc
part-to d MultiClock e p h = absurd cc
part-to d InitConflict e p h = absurd cc
part-to d Loop e p h = absurd cc

part-from : (d : DesignOf) (k : FaultKind) → is_of_cells k ≡ true → (p : Place) → Instance d k p → IsCellWith d p (λ i c. IsPartFault k c)
part-from d UnknownCell e p h = h
part-from d LeftOut e p h = h
part-from d BadParameter e p h = h
part-from d PortWidth e p h = absurd cc
part-from d WidthLimit e p h = h
part-from d MixedSign e p h = h
part-from d TwoDrivers e p h = absurd cc
part-from d MultiClock e p h = absurd cc
part-from d InitConflict e p h = absurd cc
part-from d Loop e p h = absurd cc

module _ (d : DesignOf) (k : FaultKind) (cells : is_of_cells k ≡ true) where
  pub part-none : ((i : ℕ) (c : CellOf) → slice_get d.cells i ≡ Some c → IsPartFault k c → ⊥) → (p : Place) → Instance d k p → ⊥
  part-none none p h = let f = part-from d k cells p h in none f.0 f.1 f.3 f.4

  pub part-first : (r : ℕ) (c : CellOf) → slice_get d.cells r ≡ Some c → IsPartFault k c → ((i : ℕ) (e : CellOf) → i < r → slice_get d.cells i ≡ Some e → IsPartFault k e → ⊥)
      → IsFirst d (Instance d k) (Whole (Cell r))
  part-first r c at fault none = (
    part-to d k cells (Whole (Cell r)) (r, c, refl, at, fault),
    λ q b h. cell-first d (λ i e. IsPartFault k e) r none q b (part-from d k cells q h),
  )

module _ (d : DesignOf) where
  pub clock-none : ((i : ℕ) (c : CellOf) → slice_get d.cells i ≡ Some c → IsOtherClock d c → ⊥) → (p : Place) → Instance d MultiClock p → ⊥
  clock-none none p h = none h.0 h.1 h.3 h.4

  pub clock-first : (r : ℕ) (c : CellOf) → slice_get d.cells r ≡ Some c → IsOtherClock d c → ((i : ℕ) (e : CellOf) → i < r → slice_get d.cells i ≡ Some e → IsOtherClock d e → ⊥)
      → IsFirst d (Instance d MultiClock) (Whole (Cell r))
  clock-first r c at fault none = ((r, c, refl, at, fault), λ q b h. cell-first d (λ i e. IsOtherClock d e) r none q b h)

  pub drivers-none : IsDrivenOnce d → (p : Place) → Instance d TwoDrivers p → ⊥
  drivers-none once p h = once h.0 h.1 h.3

  pub none-drivers : ((p : Place) → Instance d TwoDrivers p → ⊥) → IsDrivenOnce d
  none-drivers none e k h = none (Bit e k) (e, k, refl, h)

  pub drivers-first : (e : Item) (a : SigBit) → IsFirstWrong d e a → (k : ℕ) × DrivesBit d e k a × IsFirst d (Instance d TwoDrivers) (Bit e k)
  drivers-first e a f = (
    f.place,
    f.drives,
    (
      (e, f.place, refl, f.wrong),
      λ q b h. f.first h.0 h.1 (subst (λ (p : Place). Before d p (Bit e f.place)) h.2 b) h.3,
    ),
  )

  pub conflicts-none : ((i k : ℕ) → IsConflict d i k → ⊥) → (p : Place) → Instance d InitConflict p → ⊥
  conflicts-none none p h = none h.0 h.1 h.3

  pub none-conflicts : ((p : Place) → Instance d InitConflict p → ⊥) → (i k : ℕ) → IsConflict d i k → ⊥
  none-conflicts none i k h = none (Bit (Cell i) k) (i, k, refl, h)

  pub conflicts-first : (i : ℕ) (a : SigBit) → (f : IsFirstConflict d i a) → DrivesBit d (Cell i) f.place a × IsFirst d (Instance d InitConflict) (Bit (Cell i) f.place)
  conflicts-first i a f = (
    let r = f.bit in (r.0, r.1, r.3),
    (
      (i, f.place, refl, f.conflict),
      λ q b h. by h.0 h.1 (subst (λ (p : Place). Before d p (Bit (Cell i) f.place)) h.2 b) h.3,
    ),
  )
    where
      by : (k l : ℕ) → PrecedesBit d (Cell k) l (Cell i) f.place → IsConflict d k l → ⊥
      by k l (inl before) h = f.before k l before h
      by k l (inr same) h = f.lower l same.1 (subst (λ (n : ℕ). IsConflict d n l) (number-cell k i same.0) h)

  pub loops-none : ((i : ℕ) → IsCellOnLoop d i → ⊥) → ((w : ℕ) → IsWireOnLoop d w → ⊥) → (p : Place) → Instance d Loop p → ⊥
  loops-none cells wires p (inl h) = cells h.0 h.4
  loops-none cells wires p (inr h) = wires h.0 h.2

  pub loop-cell : (r : ℕ) → IsCellOnLoop d r → ((i : ℕ) → i < r → IsCellOnLoop d i → ⊥) → IsFirst d (Instance d Loop) (Whole (Cell r))
  loop-cell r h none = (let c = h.3 in inl (r, c.0, refl, c.1, h), first)
    where
      first : (q : Place) → Before d q (Whole (Cell r)) → Instance d Loop q → ⊥
      first q b (inl f) = cell-first d (λ i c. IsCellOnLoop d i) r (λ i c lt at l. none i lt l) q b f
      first q b (inr f) = absurd (subst (λ (p : Place). Before d p (Whole (Cell r))) f.1 b)

  pub loop-wire : (r : ℕ) → ((i : ℕ) → IsCellOnLoop d i → ⊥) → IsWireOnLoop d r → ((w : ℕ) → w < r → IsWireOnLoop d w → ⊥) → IsFirst d (Instance d Loop) (Wire r)
  loop-wire r cells h none = (inr (r, refl, h), first)
    where
      first : (q : Place) → Before d q (Wire r) → Instance d Loop q → ⊥
      first q b (inl f) = cells f.0 f.4
      first q b (inr f) = none f.0 (subst (λ (p : Place). Before d p (Wire r)) f.1 b) f.2

  pub none-cells : ((p : Place) → Instance d Loop p → ⊥) → (i : ℕ) → IsCellOnLoop d i → ⊥
  none-cells none i h = let c = h.3 in none (Whole (Cell i)) (inl (i, c.0, refl, c.1, h))

  pub none-wires : ((p : Place) → Instance d Loop p → ⊥) → (w : ℕ) → IsWireOnLoop d w → ⊥
  none-wires none w h = none (Wire w) (inr (w, refl, h))

  -- ---- wrong widths, of cells and of connects

  abbrev pub BadCell : CellOf → Type 0
  BadCell c = HasPorts c → ⊥

  abbrev pub NoBadBefore : ℕ → Type 0
  NoBadBefore r = (i : ℕ) (c : CellOf) → i < r → slice_get d.cells i ≡ Some c → BadCell c → ⊥

  abbrev pub NoBad : Type 0
  NoBad = (i : ℕ) (c : CellOf) → slice_get d.cells i ≡ Some c → BadCell c → ⊥

  abbrev pub NoUnevenBefore : ℕ → Type 0
  NoUnevenBefore r = (k : ℕ) (j : ConnectOf) → k < r → slice_get d.connects k ≡ Some j → length j.left ≡ length j.right

  abbrev pub NoUneven : Type 0
  NoUneven = (k : ℕ) (j : ConnectOf) → slice_get d.connects k ≡ Some j → length j.left ≡ length j.right

  pub widths-none : NoBad → NoUneven → (p : Place) → Instance d PortWidth p → ⊥
  widths-none bad even p (inl h) = bad h.0 h.1 h.3 h.4
  widths-none bad even p (inr h) = h.4 (even h.0 h.1 h.3)

  -- the cell r has a wrong width, none before it, and no connect before it is uneven
  pub width-cell : (r : ℕ) (c : CellOf) → slice_get d.cells r ≡ Some c → BadCell c → NoBadBefore r
      → ((k : ℕ) (j : ConnectOf) → slice_get d.connects k ≡ Some j → j.cells_before ≤ r → length j.left ≡ length j.right) → IsFirst d (Instance d PortWidth) (Whole (Cell r))
  width-cell r c at bad none even = (inl (r, c, refl, at, bad), first)
    where
      first : (q : Place) → Before d q (Whole (Cell r)) → Instance d PortWidth q → ⊥
      first q b (inl h) = cell-first d (λ i e. BadCell e) r none q b h
      first q b (inr h) =
          let p = subst (λ (x : Place). Before d x (Whole (Cell r))) h.2 b in
          let j : p.0 ≡ h.1 = one_at d.connects h.0 p.0 h.1 p.1 h.3 in
          h.4 (even h.0 h.1 h.3 (subst (λ (x : ConnectOf). x.cells_before ≤ r) j p.2))

  pub width-connect : (r : ℕ) (j : ConnectOf) → slice_get d.connects r ≡ Some j → length j.left ≢ length j.right → NoUnevenBefore r
      → ((i : ℕ) (c : CellOf) → slice_get d.cells i ≡ Some c → i < j.cells_before → BadCell c → ⊥) → IsFirst d (Instance d PortWidth) (Whole (Connect r))
  width-connect r j at uneven none good = (inr (r, j, refl, at, uneven), first)
    where
      first : (q : Place) → Before d q (Whole (Connect r)) → Instance d PortWidth q → ⊥
      first q b (inl h) =
          let p = subst (λ (x : Place). Before d x (Whole (Connect r))) h.2 b in
          let e : p.0 ≡ j = one_at d.connects r p.0 j p.1 at in
          good h.0 h.1 h.3 (subst (λ (x : ConnectOf). h.0 < x.cells_before) e p.2) h.4
      first q b (inr h) = h.4 (none h.0 h.1 (subst (λ (x : Place). Before d x (Whole (Connect r))) h.2 b) h.3)

  -- a connect that stands before a cell has no more cells before it than one that doesn't
  pub even-before : IsDesign d → (r k0 : ℕ) (j0 : ConnectOf) → slice_get d.connects k0 ≡ Some j0 → r < j0.cells_before → NoUnevenBefore k0
      → (k : ℕ) (j : ConnectOf) → slice_get d.connects k ≡ Some j → j.cells_before ≤ r → length j.left ≡ length j.right
  even-before shape r k0 j0 at0 behind even k j at before = elim (cases_lt k k0) as (λ _. length j.left ≡ length j.right) [
    | inl less ↦ even k j less at
    | inr most ↦ let le = shape.order.1 k0 k j0 j most at0 at in absurd (omega (arith, le, behind, before))
  ]
