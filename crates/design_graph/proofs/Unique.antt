-- Where no bit is driven wrongly each bit is driven at one place, and what is driven is a wire's bit.
use Rattle.std.proofs.Common.{◌≡◌, ◌⊎◌, inl, inr, ℕ, zero, suc, ◌<◌, Some, Contains, refl, ap, sym, subst, arith}
use Rattle.std.specs.Prelude.{slice_get}
use Rattle.std.proofs.lemmas.Bool.{cases_lt}
use Rattle.design_core.specs.Asked.{output_of}
use Rattle.design_core.specs.Shape.{CellOf, ConnectOf, DesignOf}
use Rattle.design_core.proofs.Lists.{one_at, place-from_Contains}
use Rattle.design_meaning.specs.Meaning.{IsCell, IsConnected, Chain}
use Rattle.design_signals.specs.declared.sig_bit.SigBit.{SigBit}
use Rattle.design_signals.specs.declared.sig_bit.SigBit.TheVariants.{Wire, Const, Free}
use Rattle.design_graph.specs.Items.{IsItem, Precedes, DrivesBit, IsDrivenOnce}
use Rattle.design_graph.specs.Starts.{IsRegisterOutput}
use Rattle.design_graph.specs.declared.item.Item.{Item}
use Rattle.design_graph.specs.declared.item.Item.TheVariants.{Cell, Connect}

pub drives-item : (d : DesignOf) (e : Item) (k : ℕ) (a : SigBit) → DrivesBit d e k a → IsItem d e
drives-item d (Cell i) k a h = (h.0, h.1)
drives-item d (Connect i) k a h = (h.0, h.1)

-- of two items one stands before the other, or they are one
pub either-first : (d : DesignOf) (e f : Item) → IsItem d e → IsItem d f → Precedes d e f ⊎ ((e ≡ f) ⊎ Precedes d f e)
either-first d (Cell i) (Cell l) h g = elim (cases_lt i l) as (λ _. (i < l) ⊎ ((Cell i ≡ Cell l) ⊎ (l < i))) [
  | inl less ↦ inl less
  | inr most ↦ elim (cases_lt l i) as (λ _. (i < l) ⊎ ((Cell i ≡ Cell l) ⊎ (l < i))) [
    | inl less ↦ inr (inr less)
    | inr least ↦ inr (inl (ap (λ (n : ℕ). Cell n) (omega arith)))
  ]
]
either-first d (Connect i) (Connect l) h g = elim (cases_lt i l) as (λ _. (i < l) ⊎ ((Connect i ≡ Connect l) ⊎ (l < i))) [
  | inl less ↦ inl less
  | inr most ↦ elim (cases_lt l i) as (λ _. (i < l) ⊎ ((Connect i ≡ Connect l) ⊎ (l < i))) [
    | inl less ↦ inr (inr less)
    | inr least ↦ inr (inl (ap (λ (n : ℕ). Connect n) (omega arith)))
  ]
]
either-first d (Cell i) (Connect k) h g = elim (cases_lt i g.0.cells_before) as (λ _. Precedes d (Cell i) (Connect k) ⊎ ((Cell i ≡ Connect k) ⊎ Precedes d (Connect k) (Cell i))) [
  | inl less ↦ inl (g.0, g.1, less)
  | inr most ↦ inr (inr (g.0, g.1, most))
]
either-first d (Connect k) (Cell i) g h = elim (cases_lt i g.0.cells_before) as (λ _. Precedes d (Connect k) (Cell i) ⊎ ((Connect k ≡ Cell i) ⊎ Precedes d (Cell i) (Connect k))) [
  | inl less ↦ inr (inr (g.0, g.1, less))
  | inr most ↦ inl (g.0, g.1, most)
]

module _ (d : DesignOf) (once : IsDrivenOnce d) where
  -- a bit is driven at one place
  pub one-drive : (e f : Item) (k l : ℕ) (a : SigBit) → DrivesBit d e k a → DrivesBit d f l a → (e ≡ f) × (k ≡ l)
  one-drive e f k l a h g = elim (either-first d e f (drives-item d e k a h) (drives-item d f l a g)) as (λ _. (e ≡ f) × (k ≡ l)) [
    | inl before ↦ absurd (once f l (a, g, inl (e, k, h, inl before)))
    | inr other ↦ elim other as (λ _. (e ≡ f) × (k ≡ l)) [
      | inr behind ↦ absurd (once e k (a, h, inl (f, l, g, inl behind)))
      | inl same ↦ elim (cases_lt k l) as (λ _. (e ≡ f) × (k ≡ l)) [
        | inl less ↦ absurd (once f l (a, g, inl (e, k, h, inr (same, less))))
        | inr most ↦ elim (cases_lt l k) as (λ _. (e ≡ f) × (k ≡ l)) [
          | inl less ↦ absurd (once e k (a, h, inl (f, l, g, inr (sym same, less))))
          | inr least ↦ (same, omega arith)
        ]
      ]
    ]
  ]

  -- a bit is driven by one bit of one connect
  pub one-connect : (i k i' k' : ℕ) (j j' : ConnectOf) (a : SigBit) → slice_get d.connects i ≡ Some j → slice_get j.left k ≡ Some a
      → slice_get d.connects i' ≡ Some j' → slice_get j'.left k' ≡ Some a → (i ≡ i') × (k ≡ k')
  one-connect i k i' k' j j' a h g h' g' = let e = one-drive (Connect i) (Connect i') k k' a (j, h, g) (j', h', g') in (number e.0, e.1)
    where
      number : Connect i ≡ Connect i' → i ≡ i'
      number e = cc

  -- no connect drives what a cell drives
  pub cell-or_connect : (i : ℕ) (c : CellOf) (a m : SigBit) → IsCell d i c → Contains (output_of c) a → IsConnected d a m → ⊥
  cell-or_connect i c a m h has n =
      let at = place-from_Contains (output_of c) a has in
      clash n.0 (one-drive (Cell i) (Connect n.0) at.0 n.2 a (c, h, at.1) (n.1, n.3, n.4)).0
    where
      clash : (k : ℕ) → Cell i ≡ Connect k → ⊥
      clash k e = cc

  -- no two cells drive one bit
  pub one-cell : (i i' : ℕ) (c c' : CellOf) (a : SigBit) → IsCell d i c → Contains (output_of c) a → IsCell d i' c' → Contains (output_of c') a → i ≡ i'
  one-cell i i' c c' a h has h' has' =
      let at = place-from_Contains (output_of c) a has in
      let at' = place-from_Contains (output_of c') a has' in
      number (one-drive (Cell i) (Cell i') at.0 at'.0 a (c, h, at.1) (c', h', at'.1)).0
    where
      number : Cell i ≡ Cell i' → i ≡ i'
      number e = cc

  pub one-source : (a m n : SigBit) → IsConnected d a m → IsConnected d a n → m ≡ n
  one-source a m n h g =
      let e = one-connect h.0 h.2 g.0 g.2 h.1 g.1 a h.3 h.4 g.3 g.4 in
      let j : h.1 ≡ g.1 = one_at d.connects g.0 h.1 g.1 (subst (λ (x : ℕ). slice_get d.connects x ≡ Some h.1) e.0 h.3) g.3 in
      one_at g.1.right g.2 m n (subst (λ (x : ConnectOf). slice_get x.right g.2 ≡ Some m) j (subst (λ (x : ℕ). slice_get h.1.right x ≡ Some m) e.1 h.5)) g.5

  pub register-source : (a m : SigBit) → IsRegisterOutput d a → IsConnected d a m → ⊥
  register-source a m h n = let r = h.2 in clash h.0 n.0 (one-drive (Cell h.0) (Connect n.0) h.1 n.2 a (r.0, r.1, r.3) (n.1, n.3, n.4)).0
    where
      clash : (i k : ℕ) → Cell i ≡ Connect k → ⊥
      clash i k e = cc

  pub register-end : (n : ℕ) (a r : SigBit) → IsRegisterOutput d a → Chain d n a r → a ≡ r
  register-end zero a r h c = c
  register-end (suc n) a r h c = absurd (register-source a c.0 h c.1)

  -- a wire's bit is what is driven
  pub driven-wire : (e : Item) (k : ℕ) (a : SigBit) → DrivesBit d e k a → (w : ℕ) × (b : ℕ) × (a ≡ Wire w b)
  driven-wire e k (Wire w b) h = (w, b, refl)
  driven-wire e k (Const b) h = absurd (once e k (Const b, h, inr (inr tt)))
  driven-wire e k (Free n) h = absurd (once e k (Free n, h, inr (inr tt)))

  pub left-wire : (i k : ℕ) (j : ConnectOf) (a : SigBit) → slice_get d.connects i ≡ Some j → slice_get j.left k ≡ Some a → (w : ℕ) × (b : ℕ) × (a ≡ Wire w b)
  left-wire i k j a h g = driven-wire (Connect i) k a (j, h, g)

  pub output-wire : (i : ℕ) (c : CellOf) (a : SigBit) → IsCell d i c → Contains (output_of c) a → (w : ℕ) × (b : ℕ) × (a ≡ Wire w b)
  output-wire i c a h has = let at = place-from_Contains (output_of c) a has in driven-wire (Cell i) at.0 a (c, h, at.1)
