-- What an `$anyseq` gives are inputs, each once.
use Rattle.std.proofs.Common.{◌≡◌, ◌⊎◌, inl, inr, ℕ, zero, suc, ◌<◌, ◌≤◌, Bool, true, false, List, [], ◌∷◌, ◌++◌, length, map, take, Some, Contains, All, refl, ap, sym, subst, ◌∙◌, arith}
use Rattle.std.specs.Prelude.{slice_get}
use Rattle.std.specs.List.{concat, flat_map}
use Rattle.std.proofs.lemmas.Bool.{true≢false}
use Rattle.std.proofs.lemmas.List.{append-nil, length-map, take_all}
use Rattle.std.proofs.lemmas.List.Concat.{concat_is}
use Rattle.std.proofs.lemmas.List.Folds.{concat-append}
use Rattle.cell_table.specs.declared.kind.Any.TheVariants.{Const as AnyConst, Seq as AnySeq}
use Rattle.cell_table.specs.declared.kind.Kind.{Kind}
use Rattle.cell_table.specs.declared.kind.Kind.TheVariants.{Unary as UnaryCell, Binary as BinaryCell, Reduce as ReduceCell, Logic as LogicCell, Compare as CompareCell, ShiftLeft, ShiftRight, ShiftSign, ShiftAny, Divide as DivideCell, Mux, Pmux, Bmux, Slice, Concat, Ff, Dff, Dffe, Sdff, Sdffe, Sdffce, Adff, Adffe, Statement as StatementCell, Any as AnyCell, InitState, LeftOut as LeftOutCell, Unknown}
use Rattle.design_check.specs.Faults.{IsFlat}
use Rattle.design_core.specs.Asked.{number_at, output_of, signal_of}
use Rattle.design_core.specs.Places.{place_of}
use Rattle.design_core.specs.Ports.{names_parameter}
use Rattle.design_core.specs.Shape.{CellOf, ConnectOf, DesignOf, IsDeclared, IsDesign, WireOf}
use Rattle.design_core.specs.Table.{output_port, role_of}
use Rattle.design_core.specs.declared.names.ParameterName.TheVariants.{Width}
use Rattle.design_core.specs.declared.names.PortName.TheVariants.{Y}
use Rattle.design_core.specs.declared.table.Role.{Role}
use Rattle.design_core.specs.declared.table.Role.TheVariants.{Combinational, Register, AsyncResetRegister, Constant, Initial, Source, Statement, Unsupported}
use Rattle.design_core.proofs.Lists.{Contains-from_place, one_at, place-from_Contains}
use Rattle.design_core.proofs.Places.{place_of-same}
use Rattle.design_graph.specs.declared.item.Item.TheVariants.{Cell as CellItem, Connect as ConnectItem}
use Rattle.design_graph.proofs.Declared.{output-declared}
use Rattle.design_graph.proofs.Unique.{driven-wire, one-cell, one-drive}
use Rattle.design_meaning.specs.Meaning.{IsCell}
use Rattle.design_meaning.specs.States.{given, input_bits}
use Rattle.design_meaning.proofs.Inputs.{given_or_input}
use Rattle.design_signals.specs.declared.sig_bit.SigBit.{SigBit}
use Rattle.design_signals.specs.declared.sig_bit.SigBit.TheVariants.{Wire}
use Rattle.design_states.specs.Bits.{is_given}
use Rattle.design_states.proofs.Giving.{from-lists, given-cases}
use Rattle.model_core.proofs.Lists.{all_from}
use Rattle.place_rows.specs.Rows.{AreRowsOf}
use Rattle.source_rows.specs.Sources.{row_of_role, source_row, source_rows}
use Rattle.word_model.proofs.Asking.{width-some}
use Rattle.word_model.proofs.Distinct.{Distinct, distinct-flat, distinct-map, distinct-none}
use Rattle.word_model.proofs.Fits.{agrees}
use Rattle.word_model.proofs.Following.{only-one}
use Rattle.word_model.proofs.Nodal.{named-width}
use Rattle.word_model.proofs.Owning.{map-member, once}
use Rattle.word_model.proofs.Widths.{outputs-few}
use Rattle.word_model.specs.Layout.{signal_places}

-- a row of the table whose role is that of a source: its word stands at Y
word-at : (k : Kind) → role_of k ≡ Source → (agrees k Y Width ≡ true) × (names_parameter k Width ≡ true)
word-at (UnaryCell k) h = absurd cc
word-at (BinaryCell k) h = absurd cc
word-at (ReduceCell k) h = absurd cc
word-at (LogicCell k) h = absurd cc
word-at (CompareCell k) h = absurd cc
word-at ShiftLeft h = absurd cc
word-at ShiftRight h = absurd cc
word-at ShiftSign h = absurd cc
word-at ShiftAny h = absurd cc
word-at (DivideCell k) h = absurd cc
word-at Mux h = absurd cc
word-at Pmux h = absurd cc
word-at Bmux h = absurd cc
word-at Slice h = absurd cc
word-at Concat h = absurd cc
word-at Ff h = absurd cc
word-at Dff h = absurd cc
word-at Dffe h = absurd cc
word-at Sdff h = absurd cc
word-at Sdffe h = absurd cc
word-at Sdffce h = absurd cc
word-at Adff h = absurd cc
word-at Adffe h = absurd cc
word-at (StatementCell k) h = absurd cc
word-at (AnyCell AnyConst) h = absurd cc
word-at (AnyCell AnySeq) h = (refl, refl)
word-at InitState h = absurd cc
word-at (LeftOutCell k) h = absurd cc
word-at Unknown h = absurd cc

nothing : {X : Type 0} (x : X) → Contains [] x → ⊥
nothing x h = let lt = h.1 in absurd (omega (arith, lt))

-- rows put together, cell by cell
concat-rows : {X : Type 0} (f : X → List (List ℕ)) (xs : List X) → concat (flat_map f xs) ≡ flat_map (λ x. concat (f x)) xs
concat-rows f [] = refl
concat-rows f (x ∷ xs) = concat-append (f x) (flat_map f xs) ∙ ap (λ (l : List ℕ). concat (f x) ++ l) (concat-rows f xs)

-- what stands in the rows of a role
in-role : (r : Role) (output : List ℕ) (p : ℕ) → Contains (concat (row_of_role r output)) p → (r ≡ Source) × Contains output p
in-role Combinational output p h = absurd (nothing p h)
in-role Register output p h = absurd (nothing p h)
in-role AsyncResetRegister output p h = absurd (nothing p h)
in-role Constant output p h = absurd (nothing p h)
in-role Initial output p h = absurd (nothing p h)
in-role Source output p h = (refl, subst (λ (l : List ℕ). Contains l p) (append-nil output) h)
in-role Statement output p h = absurd (nothing p h)
in-role Unsupported output p h = absurd (nothing p h)

module _ (d : DesignOf) (shape : IsDesign d) (flat : IsFlat d) where
  -- a bit of the output of an `$anyseq`
  record IsSourceBit (k : ℕ) (c : CellOf) (p : ℕ) : Type 0 where
    bit : SigBit
    role : role_of c.kind ≡ Source
    gives : Contains (output_of c) bit
    place : place_of d bit ≡ p

  source-bit : (k : ℕ) (c : CellOf) (p : ℕ) → Contains (concat (source_row d c)) p → IsSourceBit k c p
  source-bit k c p h =
      let r = in-role (role_of c.kind) (signal_places d (output_of c)) p h in
      let m = map-member (place_of d) (output_of c) p r.1 in
      record { bit = m.0; role = r.0; gives = m.1; place = m.2 }

  -- no other cell and no connect gives the bits of an `$anyseq`
  not-given : (k : ℕ) (c : CellOf) (a : SigBit) → IsCell d k c → role_of c.kind ≡ Source → Contains (output_of c) a → Contains (given d) a → ⊥
  not-given k c a at role has g = by (given-cases d a g)
    where
      drive : (n : ℕ) × (slice_get (output_of c) n ≡ Some a)
      drive = place-from_Contains (output_of c) a has

      no-source : (e : CellOf) → e ≡ c → is_given (role_of e.kind) ≡ true → ⊥
      no-source e same h = true≢false (sym h ∙ (ap (λ (x : CellOf). is_given (role_of x.kind)) same ∙ ap is_given role))

      clash : (m n : ℕ) → CellItem m ≡ ConnectItem n → ⊥
      clash m n e = cc

      by : ((i : ℕ) × (e : CellOf) × (slice_get d.cells i ≡ Some e) × (is_given (role_of e.kind) ≡ true) × Contains (output_of e) a)
          ⊎ ((i : ℕ) × (j : ConnectOf) × (slice_get d.connects i ≡ Some j) × Contains j.left a) → ⊥
      by (inl h) =
          let same = one-cell d (once d shape flat) h.0 k h.1 c a h.2 h.4 at has in
          no-source h.1 (one_at d.cells k h.1 c (subst (λ (n : ℕ). slice_get d.cells n ≡ Some h.1) same h.2) at) h.3
      by (inr h) =
          let left = place-from_Contains h.1.left a h.3 in
          clash k h.0 (one-drive d (once d shape flat) (CellItem k) (ConnectItem h.0) drive.0 left.0 a (c, at, drive.1) (h.1, h.2, left.1)).0

  source-input : (k : ℕ) (c : CellOf) (a : SigBit) → IsCell d k c → role_of c.kind ≡ Source → Contains (output_of c) a → Contains (input_bits d) a
  source-input k c a at role has =
      let drive = place-from_Contains (output_of c) a has in
      let wire = driven-wire d (once d shape flat) (CellItem k) drive.0 a (c, at, drive.1) in
      let declared : IsDeclared d.wires d.free (Wire wire.0 wire.1) = subst (λ (z : SigBit). IsDeclared d.wires d.free z) wire.2 (output-declared d shape k c a at has) in
      by wire.0 wire.1 wire.2 (given_or_input d wire.0 wire.1 declared.0 declared.1 declared.2)
    where
      by : (w b : ℕ) → a ≡ Wire w b → Contains (given d) (Wire w b) ⊎ Contains (input_bits d) (Wire w b) → Contains (input_bits d) a
      by w b e (inl g) = absurd (not-given k c a at role has (subst (λ (z : SigBit). Contains (given d) z) (sym e) g))
      by w b e (inr h) = subst (λ (z : SigBit). Contains (input_bits d) z) (sym e) h

  in-map : (xs : List SigBit) (a : SigBit) → Contains xs a → Contains (map (place_of d) xs) (place_of d a)
  in-map xs a h =
      let at = place-from_Contains xs a h in
      Contains-from_place (map (place_of d) xs) at.0 (place_of d a) (mapped xs at.0 a at.1)
    where
      mapped : (ys : List SigBit) (k : ℕ) (b : SigBit) → slice_get ys k ≡ Some b → slice_get (map (place_of d) ys) k ≡ Some (place_of d b)
      mapped [] k b e = absurd cc
      mapped (y ∷ ys) zero b e = cc
      mapped (y ∷ ys) (suc k) b e = mapped ys k b e

  inside : (p : ℕ) → Contains (concat (source_rows d)) p → Contains (map (place_of d) (input_bits d)) p
  inside p h =
      let r = from-lists (λ (c : CellOf). concat (source_row d c)) d.cells p (subst (λ (l : List ℕ). Contains l p) (concat-rows (source_row d) d.cells) h) in
      let s = source-bit r.0 r.1 p r.3 in
      subst (λ (n : ℕ). Contains (map (place_of d) (input_bits d)) n) s.place (in-map (input_bits d) s.bit (source-input r.0 r.1 s.bit r.2 s.role s.gives))

  -- a row has each place once
  row-once : (k : ℕ) (c : CellOf) → IsCell d k c → Distinct (concat (source_row d c))
  row-once k c at = by (role_of c.kind)
    where
      bits : Distinct (output_of c)
      bits i j a h g = (one-drive d (once d shape flat) (CellItem k) (CellItem k) i j a (c, at, h) (c, at, g)).1

      row : Distinct (signal_places d (output_of c))
      row = distinct-map (place_of d) (output_of c) (λ a b ha hb e. place_of-same d a b (output-declared d shape k c a at ha) (output-declared d shape k c b at hb) e) bits

      by : (r : Role) → Distinct (concat (row_of_role r (signal_places d (output_of c))))
      by Combinational = distinct-none
      by Register = distinct-none
      by AsyncResetRegister = distinct-none
      by Constant = distinct-none
      by Initial = distinct-none
      by Source = subst (λ (l : List ℕ). Distinct l) (sym (append-nil (signal_places d (output_of c)))) row
      by Statement = distinct-none
      by Unsupported = distinct-none

  rows-once : Distinct (concat (source_rows d))
  rows-once =
      subst (λ (l : List ℕ). Distinct l) (sym (concat-rows (source_row d) d.cells))
      (distinct-flat (λ (c : CellOf). concat (source_row d c)) d.cells (λ k c at. row-once k c at)
      (λ k l c e p ac ae hc he.
      let s = source-bit k c p hc in
      let t = source-bit l e p he in
      let same : s.bit ≡ t.bit = place_of-same d s.bit t.bit (output-declared d shape k c s.bit ac s.gives) (output-declared d shape l e t.bit ae t.gives) (s.place ∙ sym t.place) in
      one-cell d (once d shape flat) k l c e t.bit ac (subst (λ (z : SigBit). Contains (output_of c) z) same s.gives) ae t.gives))

  source-width : (k : ℕ) (c : CellOf) → IsCell d k c → role_of c.kind ≡ Source → (1 ≤ length (signal_places d (output_of c))) × (length (signal_places d (output_of c)) ≤ 4096)
  source-width k c at role =
      let word = word-at c.kind role in
      let long : length (output_of c) ≡ number_at c.parameters Width = ap (λ (r : Role). length (signal_of c (output_port r))) role ∙ named-width d shape flat k c at Y Width word.0 in
      let some = width-some d shape flat k c at Width refl word.1 in
      let mapped = length-map (output_of c) (place_of d) in
      let few = outputs-few d shape flat k c at in
      (omega (arith, long, some, mapped), omega (arith, few, mapped))

  row-wide : (row : List ℕ) (i : ℕ) (c : CellOf) → IsCell d i c → (role : Role) → role_of c.kind ≡ role → Contains (row_of_role role (signal_places d (output_of c))) row → (1 ≤ length row) × (length row ≤ 4096)
  row-wide row i c cell Combinational e h = absurd (nothing row h)
  row-wide row i c cell Register e h = absurd (nothing row h)
  row-wide row i c cell AsyncResetRegister e h = absurd (nothing row h)
  row-wide row i c cell Constant e h = absurd (nothing row h)
  row-wide row i c cell Initial e h = absurd (nothing row h)
  row-wide row i c cell Source e h = subst (λ (l : List ℕ). (1 ≤ length l) × (length l ≤ 4096)) (only-one (signal_places d (output_of c)) row h) (source-width i c cell e)
  row-wide row i c cell Statement e h = absurd (nothing row h)
  row-wide row i c cell Unsupported e h = absurd (nothing row h)

  rows-wide : All (λ (row : List ℕ). (1 ≤ length row) × (length row ≤ 4096)) (source_rows d)
  rows-wide =
      all_from (λ (row : List ℕ). (1 ≤ length row) × (length row ≤ 4096)) (source_rows d)
      (λ k row at.
      let r = from-lists (source_row d) d.cells row (Contains-from_place (source_rows d) k row at) in
      row-wide row r.0 r.1 r.2 (role_of r.1.kind) refl r.3)

  pub rows-fit : AreRowsOf (map (place_of d) (input_bits d)) (source_rows d)
  rows-fit = record { inside = inside; once = rows-once; wide = rows-wide }

-- the rows of all cells
pub rows-whole : (d e : DesignOf) (cells : List CellOf) (place : ℕ) (rows : List (List ℕ)) → e ≡ d → cells ≡ e.cells → length cells ≤ place → rows ≡ flat_map (source_row e) (take place e.cells) → rows ≡ source_rows d
rows-whole d e cells place rows same is most made =
    made ∙ (ap (flat_map (source_row e)) (take_all place e.cells (subst (λ (l : List CellOf). length l ≤ place) is most)) ∙ ap source_rows same)
