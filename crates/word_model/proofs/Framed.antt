-- A cycle of the model is a cycle of the design.
use Rattle.std.proofs.Common.{◌≡◌, ◌⊎◌, inl, inr, ℕ, zero, suc, ◌+◌, ◌<◌, Bool, true, false, cond, not, List, [], ◌∷◌, length, map, get_or, Option, Some, Contains, refl, ap, sym, subst, ◌∙◌, arith}
use Rattle.std.specs.Prelude.{slice_get}
use Rattle.std.proofs.lemmas.Option.{slice_get_within, slice_get-get_or}
use Rattle.sby_bits.specs.Rows.{Row}
use Rattle.cell_table.specs.Cells.{mux_fn}
use Rattle.design_check.specs.Faults.{IsFlat, Whole, flag}
use Rattle.design_check.specs.declared.fault.FaultKind.TheVariants.{PortWidth}
use Rattle.design_check.proofs.Statements.{cases_same}
use Rattle.design_core.specs.Asked.{output_of}
use Rattle.design_core.specs.Cells.{cell_fn, is_set}
use Rattle.design_core.specs.Places.{place_of}
use Rattle.design_core.specs.Ports.{digits_at, signal_at}
use Rattle.design_core.specs.Shape.{CellOf, ConnectOf, DesignOf, IsDesign}
use Rattle.design_core.specs.Table.{role_of}
use Rattle.design_core.specs.declared.names.ParameterName.TheVariants.{ArstPolarity, ArstValue}
use Rattle.design_core.specs.declared.names.PortName.TheVariants.{Arst}
use Rattle.design_core.specs.declared.table.Role.{Role}
use Rattle.design_core.specs.declared.table.Role.TheVariants.{Combinational, Register, AsyncResetRegister, Constant, Initial, Source, Statement, Unsupported}
use Rattle.design_core.proofs.Lists.{one_at, place-from_Contains}
use Rattle.design_graph.specs.Order.{IsDriver, IsOrder, is_in_cycle}
use Rattle.design_graph.specs.declared.driver.Driver.{Driver}
use Rattle.design_graph.specs.declared.driver.Driver.TheVariants.{Cell, Connect}
use Rattle.design_graph.specs.declared.item.Item.TheVariants.{Connect as ConnectItem}
use Rattle.design_meaning.specs.Meaning.{Frame as FrameOf, IsCell, bit_in, kept_row, parameters_in, ports_in, row_in, shown_row}
use Rattle.design_signals.specs.declared.sig_bit.SigBit.{SigBit}
use Rattle.model_core.specs.Meaning.{Cycle, Frame, row_at, row_of_node}
use Rattle.model_core.specs.Shape.{ModelOf, NodeOf}
use Rattle.model_core.specs.declared.op.Op.TheVariants as op
use Rattle.word_model.specs.Built.{IsBuilt}
use Rattle.word_model.specs.Layout.{HasConstants, kept_places, parameter_places, signal_places, valued, zero_place}
use Rattle.word_model.specs.Nodes.{IsNodeOf, IsNodeOfRole, cell_node, copy_node, reset_node}
use Rattle.word_model.proofs.Asking.{plain}
use Rattle.word_model.proofs.Nodal.{cell-gives}
use Rattle.word_model.proofs.Reading.{bit-read, digits-read, flag-read, kept-read, row-read}

pub no-node : NodeOf
no-node = record { op = op.Copy; a = []; b = []; s = []; y = [] }

-- lists of one length: an element of one stands beside one of the other
pub beside : {X Y : Type 0} (xs : List X) (ys : List Y) (other : Y) → length ys ≡ length xs → (k : ℕ) (x : X) → slice_get xs k ≡ Some x → (y : Y) × (slice_get ys k ≡ Some y)
beside xs ys other e k x at =
    let lt : k < length ys = omega (arith, slice_get_within xs k x at, e) in
    (get_or ys k other, slice_get-get_or ys k other lt)

same-rows : (f : SigBit → Bool) (left right : List SigBit) → length left ≡ length right
    → ((k : ℕ) (a b : SigBit) → slice_get left k ≡ Some a → slice_get right k ≡ Some b → f a ≡ f b) → map f left ≡ map f right
same-rows f [] [] e h = refl
same-rows f [] (b ∷ right) e h = absurd (omega arith)
same-rows f (a ∷ left) [] e h = absurd (omega arith)
same-rows f (a ∷ left) (b ∷ right) e h =
    ap (λ (x : Bool). x ∷ map f left) (h 0 a b refl refl) ∙ ap (λ (r : Row). f b ∷ r) (same-rows f left right (omega arith) (λ k x y at there. h (suc k) x y at there))

at-row : (f : SigBit → Bool) (xs : List SigBit) (k : ℕ) (x : SigBit) → slice_get xs k ≡ Some x → slice_get (map f xs) k ≡ Some (f x)
at-row f [] k x h = cc
at-row f (y ∷ xs) zero x h = let e : y ≡ x = cc in ap (λ (b : SigBit). Some (f b)) e
at-row f (y ∷ xs) (suc k) x h = at-row f xs k x h

one-bit : (a b : Bool) → ◌≡◌ {A = Option Bool} (Some a) (Some b) → a ≡ b
one-bit a b e = cc

head-bit : (a b : Bool) → ◌≡◌ {A = List Bool} (a ∷ []) (b ∷ []) → a ≡ b
head-bit a b e = cc

-- a reset's choice, at either polarity
chosen : (t b : Bool) (f : List ℕ → Row) (kept value : List ℕ) (K V : Row) → f kept ≡ K → f value ≡ V → mux_fn (f (cond t kept value)) (f (cond t value kept)) b ≡ cond (cond t b (not b)) V K
chosen true true f kept value K V ek ev = ev
chosen true false f kept value K V ek ev = ek
chosen false true f kept value K V ek ev = ek
chosen false false f kept value K V ek ev = ev

module _ (d : DesignOf) (shape : IsDesign d) (flat : IsFlat d) (order : List Driver) (ordered : IsOrder d order) (m : ModelOf) (built : IsBuilt d order m) (c : Cycle) (k : HasConstants m c) where
  pub low : c (zero_place d) ≡ false
  low = ap c (sym built.zero) ∙ k.zero

  pub high : c (suc (zero_place d)) ≡ true
  high = ap (λ (n : ℕ). c (suc n)) (sym built.zero) ∙ k.one

  rows : (bits : List SigBit) → row_in (valued d c) bits ≡ row_at c (signal_places d bits)
  rows bits = row-read d c low high bits

  node-of : (r : Driver) → IsDriver d r → (n : ℕ) × (x : NodeOf) × (slice_get m.nodes n ≡ Some x) × IsNodeOf d r x
  node-of r is =
      let at = place-from_Contains order r (ordered.all r is) in
      let x = beside order m.nodes no-node built.nodes.size at.0 r at.1 in
      (at.0, x.0, x.1, built.nodes.each at.0 r x.0 at.1 x.1)

  reset-gives : (i : ℕ) (x : CellOf) → IsCell d i x → row_of_node c (reset_node d i x) ≡ shown_row (valued d c) i x
  reset-gives i x at =
      ap (λ (r : Row). mux_fn (row_at c (cond (flag x ArstPolarity) (kept_places d i (length (output_of x))) (parameter_places d x ArstValue))) (row_at c (cond (flag x ArstPolarity) (parameter_places d x ArstValue) (kept_places d i (length (output_of x))))) (is_set r))
      (sym (rows (signal_at x.ports Arst)))
      ∙ (chosen (flag x ArstPolarity) (is_set (ports_in (valued d c) x Arst)) (row_at c) (kept_places d i (length (output_of x))) (parameter_places d x ArstValue) (kept_row (valued d c) i x) (parameters_in (valued d c) x ArstValue)
      (sym (kept-read d c i (length (output_of x)))) (sym (digits-read d c low high (digits_at x.parameters ArstValue)))
      ∙ ap (λ (t : Bool). cond (cond t (is_set (ports_in (valued d c) x Arst)) (not (is_set (ports_in (valued d c) x Arst)))) (parameters_in (valued d c) x ArstValue) (kept_row (valued d c) i x))
      (sym (flag-read (valued d c) x ArstPolarity (plain d shape flat i x at ArstPolarity refl))))

  in-cycle : (x : CellOf) (r : Role) → role_of x.kind ≡ r → is_in_cycle r ≡ true → is_in_cycle (role_of x.kind) ≡ true
  in-cycle x r e h = ap is_in_cycle e ∙ h

  cell-node-of : (i : ℕ) (x : CellOf) → IsCell d i x → is_in_cycle (role_of x.kind) ≡ true → (n : ℕ) × (y : NodeOf) × (slice_get m.nodes n ≡ Some y) × IsNodeOfRole (role_of x.kind) d i x y
  cell-node-of i x at h =
      let r = node-of (Cell i) (x, at, h) in
      let same : r.3.0 ≡ x = one_at d.cells i r.3.0 x r.3.1 at in
      (r.0, r.1, r.2, subst (λ (z : CellOf). IsNodeOfRole (role_of z.kind) d i z r.1) same r.3.2)

  module _ (f : Frame m c) where
    cells-to : (i : ℕ) (x : CellOf) → IsCell d i x → role_of x.kind ≡ Combinational → row_in (valued d c) (output_of x) ≡ cell_fn x.kind (parameters_in (valued d c) x) (ports_in (valued d c) x)
    cells-to i x at role =
        let r = cell-node-of i x at (in-cycle x Combinational role refl) in
        let is : r.1 ≡ cell_node d x = subst (λ (z : Role). IsNodeOfRole z d i x r.1) role r.3 in
        let given : row_at c (signal_places d (output_of x)) ≡ row_of_node c (cell_node d x) = subst (λ (n : NodeOf). row_at c n.y ≡ row_of_node c n) is (f.nodes r.0 r.1 r.2) in
        rows (output_of x) ∙ (given ∙ cell-gives d shape flat i x at role c low high)

    resets-to : (i : ℕ) (x : CellOf) → IsCell d i x → role_of x.kind ≡ AsyncResetRegister → row_in (valued d c) (output_of x) ≡ shown_row (valued d c) i x
    resets-to i x at role =
        let r = cell-node-of i x at (in-cycle x AsyncResetRegister role refl) in
        let is : r.1 ≡ reset_node d i x = subst (λ (z : Role). IsNodeOfRole z d i x r.1) role r.3 in
        let given : row_at c (signal_places d (output_of x)) ≡ row_of_node c (reset_node d i x) = subst (λ (n : NodeOf). row_at c n.y ≡ row_of_node c n) is (f.nodes r.0 r.1 r.2) in
        rows (output_of x) ∙ (given ∙ reset-gives i x at)

    even : (i : ℕ) (j : ConnectOf) → slice_get d.connects i ≡ Some j → length j.left ≡ length j.right
    even i j at = by (cases_same (length j.left) (length j.right))
      where
        by : (length j.left ≡ length j.right) ⊎ (length j.left ≡ length j.right → ⊥) → length j.left ≡ length j.right
        by (inl same) = same
        by (inr other) = absurd (flat PortWidth (Whole (ConnectItem i)) (inr (i, j, refl, at, other)))

    bit-to : (i : ℕ) (j : ConnectOf) → slice_get d.connects i ≡ Some j → (n : ℕ) (a b : SigBit) → slice_get j.left n ≡ Some a → slice_get j.right n ≡ Some b → bit_in (valued d c) a ≡ bit_in (valued d c) b
    bit-to i j at n a b la rb =
        let r = node-of (Connect i n) (j, at, slice_get_within j.left n a la) in
        let is = r.3 in
        let same : is.0 ≡ j = one_at d.connects i is.0 j is.3 at in
        let left : is.1 ≡ a = one_at j.left n is.1 a (subst (λ (z : ConnectOf). slice_get z.left n ≡ Some is.1) same is.4) la in
        let right : is.2 ≡ b = one_at j.right n is.2 b (subst (λ (z : ConnectOf). slice_get z.right n ≡ Some is.2) same is.5) rb in
        let node : r.1 ≡ copy_node d a b = is.6 ∙ (ap (λ (z : SigBit). copy_node d z is.2) left ∙ ap (λ (z : SigBit). copy_node d a z) right) in
        let given : ◌≡◌ {A = List Bool} (c (place_of d a) ∷ []) (c (place_of d b) ∷ []) = subst (λ (z : NodeOf). row_at c z.y ≡ row_of_node c z) node (f.nodes r.0 r.1 r.2) in
        bit-read d c low high a ∙ (head-bit (c (place_of d a)) (c (place_of d b)) given ∙ sym (bit-read d c low high b))

    pub frame-to : FrameOf d (valued d c)
    frame-to = record {
      cells = cells-to;
      resets = resets-to;
      connects = λ i j at. same-rows (bit_in (valued d c)) j.left j.right (even i j at) (λ n a b la rb. bit-to i j at n a b la rb);
    }

  module _ (f : FrameOf d (valued d c)) where
    by-role : (i : ℕ) (x : CellOf) (y : NodeOf) → IsCell d i x → (r : Role) → role_of x.kind ≡ r → IsNodeOfRole r d i x y → row_at c y.y ≡ row_of_node c y
    by-role i x y at Combinational e h =
        subst (λ (n : NodeOf). row_at c n.y ≡ row_of_node c n) (sym h) (sym (rows (output_of x)) ∙ (f.cells i x at e ∙ sym (cell-gives d shape flat i x at e c low high)))
    by-role i x y at Register e h = absurd h
    by-role i x y at AsyncResetRegister e h =
        subst (λ (n : NodeOf). row_at c n.y ≡ row_of_node c n) (sym h) (sym (rows (output_of x)) ∙ (f.resets i x at e ∙ sym (reset-gives i x at)))
    by-role i x y at Constant e h = absurd h
    by-role i x y at Initial e h = absurd h
    by-role i x y at Source e h = absurd h
    by-role i x y at Statement e h = absurd h
    by-role i x y at Unsupported e h = absurd h

    by-driver : (r : Driver) (y : NodeOf) → IsNodeOf d r y → row_at c y.y ≡ row_of_node c y
    by-driver (Cell i) y is = by-role i is.0 y is.1 (role_of is.0.kind) refl is.2
    by-driver (Connect i n) y is =
        let whole : slice_get (row_in (valued d c) is.0.left) n ≡ slice_get (row_in (valued d c) is.0.right) n = ap (λ (r : Row). slice_get r n) (f.connects i is.0 is.3) in
        let bits : bit_in (valued d c) is.1 ≡ bit_in (valued d c) is.2 =
        one-bit (bit_in (valued d c) is.1) (bit_in (valued d c) is.2) (sym (at-row (bit_in (valued d c)) is.0.left n is.1 is.4) ∙ (whole ∙ at-row (bit_in (valued d c)) is.0.right n is.2 is.5)) in
        let places : c (place_of d is.1) ≡ c (place_of d is.2) = sym (bit-read d c low high is.1) ∙ (bits ∙ bit-read d c low high is.2) in
        subst (λ (z : NodeOf). row_at c z.y ≡ row_of_node c z) (sym is.6) (ap (λ (b : Bool). b ∷ []) places)

    pub frame-from : Frame m c
    frame-from = record {
      zero = k.zero;
      one = k.one;
      nodes = λ n y at.
          let r = beside m.nodes order (Cell 0) (sym built.nodes.size) n y at in
          by-driver r.0 y (built.nodes.each n r.0 y r.1 at);
    }
