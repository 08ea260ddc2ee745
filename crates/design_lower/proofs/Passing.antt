-- The design in the making, one cell after the other.
use Rattle.std.proofs.Common.{◌≡◌, ◌↔◌, inl, inr, ℕ, ◌+◌, ◌<◌, ◌≤◌, ◌^◌, Bool, true, false, List, [], ◌∷◌, ◌++◌, length, drop, Some, All, Contains, refl, ap, sym, subst, ◌∙◌, arith}
use Rattle.std.specs.Prelude.{slice_get}
use Rattle.std.proofs.lemmas.List.{drop_all, length-append}
use Rattle.std.proofs.lemmas.List.Elements.{All-append, All-nil, All-weaker}
use Rattle.digraph.proofs.Lists.{get-push-new}
use Rattle.design_core.specs.Asked.{number_at}
use Rattle.design_core.specs.declared.names.ParameterName.TheVariants.{Width}
use Rattle.design_core.specs.Shape.{WireOf, CellOf, ConnectOf, DesignOf, IsCellOf, IsDeclared, IsDesign, IsWire, wire_bits}
use Rattle.design_core.proofs.Designs.{IsCellOf-more, IsDeclared-wire}
use Rattle.std.proofs.lemmas.Bool.{cases_lt}
use Rattle.digraph.proofs.Lists.{get-at}
use Rattle.design_graph.specs.Items.{IsCut, IsItem, IsPassed}
use Rattle.design_graph.specs.declared.item.Item.{Item}
use Rattle.design_graph.specs.declared.item.Item.TheVariants.{Cell, Connect}
use Rattle.design_graph.proofs.Declared.{cell-declared, connect-declared}
use Rattle.design_meaning.specs.Meaning.{IsCell, IsStart}
use Rattle.design_signals.specs.declared.sig_bit.SigBit.{SigBit}
use Rattle.design_lower.specs.Lowering.{FitsReset, HasDigit, IsLowered, kept_name, names, register, shown}
use Rattle.design_lower.specs.Passing.{IsPassing}
use Rattle.design_lower.specs.Progress.{IsFreeSoon, IsNames, has, midway}
use Rattle.design_lower.specs.Room.{HasRoom}
use Rattle.design_lower.proofs.Alike.{IsWired-design}
use Rattle.design_lower.proofs.Midway.{midway-end, midway-kept, midway-lower, midway-skip, midway-start, midway-there}
use Rattle.design_lower.proofs.Numbering.{numbers-named}
use Rattle.design_lower.proofs.Rooms.{few-wires, ordered-some, registers-have, room-some}
use Rattle.design_lower.proofs.Wiring.{one-of, register-is, shown-is}

pub passing-start : (d low : DesignOf) → low ≡ record d { cells = []; connects = [] } → (ch : List CellOf) → ch ≡ [] → IsPassing d 0 low ch 0
passing-start d low e ch none =
    let P : DesignOf → Type 0 = λ x. IsPassing d 0 x ch 0 in
    let Q : List CellOf → Type 0 = λ x. IsPassing d 0 (record d { cells = []; connects = [] }) x 0 in
    subst P (sym e) (subst Q (sym none) (record { same = refl; declared = λ b h. h; waiting = All-nil (IsCellOf d.wires d.free); midway = midway-start d }))

module _ (d : DesignOf) (shape : IsDesign d) (i : ℕ) (c : CellOf) (at : IsCell d i c) (low : DesignOf) (ch : List CellOf) (number : ℕ) (p : IsPassing d i low ch number) where
  pub same-free : low.free ≡ d.free
  same-free = ap (λ (x : DesignOf). x.free) p.same

  pub cell-passing : IsCellOf low.wires d.free c
  cell-passing = IsCellOf-more d.wires low.wires d.free d.free p.declared (λ x h. h) c (cell-declared d shape i c at)

  pub passing-skip : (FitsReset c → ⊥) → (next : DesignOf) → next ≡ record low { cells = low.cells ++ c ∷ [] } → IsPassing d (i + 1) next ch number
  passing-skip unfit next e =
      let P : DesignOf → Type 0 = λ x. IsPassing d (i + 1) x ch number in
      subst P (sym e) (record {
        same = ap (λ (x : DesignOf). record x { cells = low.cells ++ c ∷ [] }) p.same;
        declared = p.declared;
        waiting = p.waiting;
        midway = midway-skip d i low.wires low.cells ch number p.midway c at unfit;
      })

  module _ (fits : FitsReset c) (wire : WireOf) (well : IsWire wire) (width : wire.width ≡ number_at c.parameters Width) where
    more-declared : (b : SigBit) → IsDeclared low.wires d.free b → IsDeclared (low.wires ++ wire ∷ []) d.free b
    more-declared = IsDeclared-wire low.wires wire d.free

    is : IsCellOf (low.wires ++ wire ∷ []) d.free c
    is = IsCellOf-more low.wires (low.wires ++ wire ∷ []) d.free d.free more-declared (λ x h. h) c cell-passing

    -- the register may stand in the design that has the new wire
    pub register-fits : (next : DesignOf) → next ≡ record low { wires = low.wires ++ wire ∷ [] } → IsCellOf next.wires next.free (register (length low.wires) c)
    register-fits next e =
        let P : DesignOf → Type 0 = λ x. IsCellOf x.wires x.free (register (length low.wires) c) in
        subst P (sym e) (subst (λ (f : ℕ). IsCellOf (low.wires ++ wire ∷ []) f (register (length low.wires) c)) (sym same-free)
        (register-is (low.wires ++ wire ∷ []) d.free c is (length low.wires) wire (get-push-new low.wires wire) width))

    pub passing-lower : (list : List (List ℕ)) → IsNames d list → (n : ℕ) → number ≤ n → n < 2 ^ 32 → ((k : ℕ) → number ≤ k → k < n → has list (kept_name k) ≡ true)
        → wire.name ≡ kept_name n → has list (kept_name n) ≡ false → wire.input ≡ false → ((k : ℕ) (x : Bool) → HasDigit wire k x ↔ IsStart d i k x)
        → (next : DesignOf) → next ≡ record low { wires = low.wires ++ wire ∷ []; cells = low.cells ++ register (length low.wires) c ∷ [] }
        → (more : List CellOf) → more ≡ ch ++ shown (length low.wires) c ∷ [] → IsPassing d (i + 1) next more (n + 1)
    passing-lower list known n from few taken name free input digits next e more f =
        let wired = IsWired-design d shape in
        let kept = midway-kept d i low.wires low.cells ch number p.midway wired c at fits wire list known n from few taken name free well width input digits in
        let P : DesignOf → Type 0 = λ x. IsPassing d (i + 1) x more (n + 1) in
        let Q : List CellOf → Type 0 = λ x. IsPassing d (i + 1) (record low { wires = low.wires ++ wire ∷ []; cells = low.cells ++ register (length low.wires) c ∷ [] }) x (n + 1) in
        subst P (sym e) (subst Q (sym f) (record {
          same = ap (λ (x : DesignOf). record x { wires = low.wires ++ wire ∷ []; cells = low.cells ++ register (length low.wires) c ∷ [] }) p.same;
          declared = λ b h. more-declared b (p.declared b h);
          waiting = All-append (IsCellOf (low.wires ++ wire ∷ []) d.free) ch (shown (length low.wires) c ∷ [])
              (All-weaker (IsCellOf low.wires d.free) (IsCellOf (low.wires ++ wire ∷ []) d.free) (IsCellOf-more low.wires (low.wires ++ wire ∷ []) d.free d.free more-declared (λ x h. h)) ch p.waiting)
              (one-of (IsCellOf (low.wires ++ wire ∷ []) d.free) (shown (length low.wires) c) (shown-is (low.wires ++ wire ∷ []) d.free c is (length low.wires) wire (get-push-new low.wires wire) width));
          midway = midway-lower d i low.wires low.cells ch number p.midway wired c at fits wire list known n kept name from taken;
        }))

-- all is through
pub passing-end : (d low : DesignOf) (ch : List CellOf) (number : ℕ) → IsPassing d (length d.cells) low ch number → low.connects ≡ d.connects
    → (e : DesignOf) → e ≡ record low { cells = low.cells ++ ch } → IsLowered d e
passing-end d low ch number p connects e is =
    let P : DesignOf → Type 0 = λ x. IsLowered d x in
    let same : record d { wires = low.wires; cells = low.cells ++ ch } ≡ e =
    sym (is ∙ (ap (λ (x : DesignOf). record x { cells = low.cells ++ ch }) p.same ∙ ap (λ (js : List ConnectOf). record d { wires = low.wires; cells = low.cells ++ ch; connects = js }) connects)) in
    subst P same (midway-end d low.wires low.cells ch number p.midway)

pub passing-waiting : (d low : DesignOf) (ch : List CellOf) (number : ℕ) → IsPassing d (length d.cells) low ch number → All (IsCellOf low.wires low.free) ch
passing-waiting d low ch number p = subst (λ (f : ℕ). All (IsCellOf low.wires f) ch) (sym (ap (λ (x : DesignOf). x.free) p.same)) p.waiting

-- a connect more, after the cells that are through
module _ (d : DesignOf) (shape : IsDesign d) (i : ℕ) (low : DesignOf) (ch : List CellOf) (number : ℕ) (p : IsPassing d i low ch number) where
  pub passing-connect : (js : List ConnectOf) (next : DesignOf) → next ≡ record low { connects = js } → IsPassing d i next ch number
  passing-connect js next e =
      let P : DesignOf → Type 0 = λ x. IsPassing d i x ch number in
      subst P (sym e) (record { same = ap (λ (x : DesignOf). record x { connects = js }) p.same; declared = p.declared; waiting = p.waiting; midway = p.midway })

  module _ (k : ℕ) (j : ConnectOf) (at : slice_get d.connects k ≡ Some j) where
    bits-passing : (bits : List SigBit) → All (IsDeclared d.wires d.free) bits → All (IsDeclared low.wires low.free) bits
    bits-passing bits h =
        subst (λ (f : ℕ). All (IsDeclared low.wires f) bits) (sym (ap (λ (x : DesignOf). x.free) p.same)) (All-weaker (IsDeclared d.wires d.free) (IsDeclared low.wires d.free) p.declared bits h)

    pub left-passing : All (IsDeclared low.wires low.free) j.left
    left-passing = bits-passing j.left (connect-declared d shape k j at).0

    pub right-passing : All (IsDeclared low.wires low.free) j.right
    right-passing = bits-passing j.right (connect-declared d shape k j at).1

    -- this many cells are through as stood before it
    pub order-passing : IsCut d i k → IsCut d i (k + 1) → j.cells_before ≡ length low.cells
    order-passing cut next =
        let least : i ≤ j.cells_before = cut.behind k j (omega arith) at in
        let most : j.cells_before ≤ i = next.before k j (omega arith) at in
        omega (arith, p.midway.through)

-- nothing is left of the file
pub all-cells : (d : DesignOf) (cells connects : ℕ) → IsCut d cells connects → ((e : Item) → IsItem d e → IsPassed cells connects e) → (cells ≡ length d.cells) × (connects ≡ length d.connects)
all-cells d cells connects cut all = (
  elim (cases_lt cells (length d.cells)) as (λ _. cells ≡ length d.cells) [
    | inl less ↦ let c = get-at d.cells cells less in let lt : cells < cells = all (Cell cells) (c.0, c.1) in absurd (omega (arith, lt))
    | inr most ↦ omega (arith, most, cut.cells_there)
  ],
  elim (cases_lt connects (length d.connects)) as (λ _. connects ≡ length d.connects) [
    | inl less ↦ let c = get-at d.connects connects less in let lt : connects < connects = all (Connect connects) (c.0, c.1) in absurd (omega (arith, lt))
    | inr most ↦ omega (arith, most, cut.connects_there)
  ],
)

-- the room that is there for what still waits
module _ (d : DesignOf) (shape : IsDesign d) (room : HasRoom d) (i : ℕ) (low : DesignOf) (muxes : List CellOf) (number : ℕ) (p : IsPassing d i low muxes number) where
  mid : HasRoom (midway d i low.wires low.cells muxes)
  mid = (room-some p.midway.count d (midway d i low.wires low.cells muxes) (IsWired-design d shape) p.midway.steps).0 room

  pub room-wire : (c : CellOf) → IsCell d i c → FitsReset c → wire_bits low + low.free + number_at c.parameters Width ≤ 2 ^ 21
  room-wire c at fits =
      let there = midway-there d i low.wires low.cells muxes number p.midway i c (omega arith) at in
      let have = (registers-have (midway d i low.wires low.cells muxes).cells mid.registers i c there fits mid.each).0 in
      let free : low.free ≡ d.free = ap (λ (x : DesignOf). x.free) p.same in
      let most = mid.bits in
      omega (arith, have, free, most)

  pub room-cell : i < length d.cells → length low.cells < 2 ^ 27
  room-cell lt = let few = shape.few_cells in omega (arith, few, p.midway.through, lt)

  pub room-muxes : length d.cells ≤ i → length low.cells + length muxes ≤ 2 ^ 27
  room-muxes all =
      let few = mid.cells in
      let none : drop i d.cells ≡ [] = drop_all i d.cells all in
      let same : length (midway d i low.wires low.cells muxes).cells ≡ length (low.cells ++ muxes) = ap (λ (l : List CellOf). length (low.cells ++ (l ++ muxes))) none in
      let both = length-append low.cells muxes in
      omega (arith, few, same, both)

  -- each number below this one is in a name of the design in the making, which has fewer than 2 ^ 32 names
  pub free-soon : (list : List (List ℕ)) → IsNames d list → IsFreeSoon list number
  free-soon list known n taken = elim (cases_lt n (2 ^ 32)) as (λ _. n < 2 ^ 32) [
    | inl less ↦ less
    | inr most ↦
        let m = midway d i low.wires low.cells muxes in
        let named : (k : ℕ) → k < 2 ^ 32 → Contains (names (midway d i low.wires low.cells muxes)) (kept_name k) =
        λ k lt. elim (cases_lt k number) as (λ _. Contains (names (midway d i low.wires low.cells muxes)) (kept_name k)) [
          | inl less ↦ p.midway.used k less
          | inr more ↦ p.midway.old (kept_name k) ((known (kept_name k)).0 (taken k more (omega (arith, lt, most))))
        ] in
        let all = numbers-named m (2 ^ 32) (omega arith) named in
        let wires = few-wires low.wires (ordered-some p.midway.count d m (IsWired-design d shape) p.midway.steps (record { wires = shape.wires; order = shape.order; few_connects = shape.few_connects })).wires in
        let bits = mid.bits in
        let cells = mid.cells in
        absurd (omega (arith, all, wires, bits, cells))
  ]
