-- A model that is made of a flat design's parts means what the design means.
use Rattle.std.proofs.Common.{◌≡◌, ℕ, zero, suc, ◌+◌, ◌<◌, Bool, true, false, not, ◌||◌, List, [], ◌∷◌, ◌++◌, length, map, Option, Some, None, Contains, refl, ap, sym, subst, ◌∙◌, arith}
use Rattle.std.specs.Prelude.{◌↔◌, slice_get, IsTrue}
use Rattle.std.specs.List.{enumerate_from, filter, flat_map, range_with_len}
use Rattle.std.proofs.lemmas.Bool.{false≢true}
use Rattle.std.proofs.lemmas.Grind.{flat_map-append}
use Rattle.std.proofs.lemmas.List.{append-nil, length-append, length-map, map-append}
use Rattle.sby_bits.specs.Rows.{Row}
use Rattle.cell_table.specs.declared.kind.Any.TheVariants.{Const as AnyConst, Seq as AnySeq}
use Rattle.cell_table.specs.declared.kind.Kind.{Kind}
use Rattle.cell_table.specs.declared.kind.Kind.TheVariants.{Unary as UnaryCell, Binary as BinaryCell, Reduce as ReduceCell, Logic as LogicCell, Compare as CompareCell, ShiftLeft, ShiftRight, ShiftSign, ShiftAny, Divide as DivideCell, Mux, Pmux, Bmux, Slice, Concat, Ff, Dff, Dffe, Sdff, Sdffe, Sdffce, Adff, Adffe, Statement as StatementCell, Any as AnyCell, InitState, LeftOut as LeftOutCell, Unknown}
use Rattle.design_check.specs.Faults.{IsFlat}
use Rattle.design_core.specs.Asked.{output_of, signal_of}
use Rattle.design_core.specs.Places.{place_of}
use Rattle.design_core.specs.Shape.{CellOf, DesignOf, IsDesign}
use Rattle.design_core.specs.Table.{output_port, role_of}
use Rattle.design_core.specs.declared.names.PortName.TheVariants.{Y}
use Rattle.design_core.specs.declared.table.Role.{Role}
use Rattle.design_core.specs.declared.table.Role.TheVariants.{Combinational, Register, AsyncResetRegister, Constant, Initial, Source, Statement, Unsupported}
use Rattle.design_graph.specs.Order.{IsOrder}
use Rattle.design_graph.specs.declared.driver.Driver.{Driver}
use Rattle.design_meaning.specs.Meaning.{Assumed as AssumedOf, Broken as BrokenOf, IsCell, Reached as ReachedOf, Starts as StartsOf, asserts, assumes, covers, is_assert, is_assume, is_cover, is_enabled, says}
use Rattle.design_meaning.specs.States.{Kept, Signal, StateBit, state_bits, state_of, state_of_role}
use Rattle.design_signals.specs.declared.sig_bit.SigBit.{SigBit}
use Rattle.model_core.specs.Meaning.{Assumed, Broken, Cycle, Reached, Starts, row_at}
use Rattle.model_core.specs.Shape.{ModelOf, RegisterOf, states}
use Rattle.model_core.specs.declared.model.Statement.{Statement as StatementOf}
use Rattle.word_model.specs.Built.{IsBuilt, statement_of}
use Rattle.word_model.specs.Layout.{HasConstants, kept_place, kept_places, signal_places, state_place, valued, zero_place}
use Rattle.word_model.specs.Model.{IsModelOf}
use Rattle.word_model.specs.Registers.{AreStarts, registers_of, registers_of_role}
use Rattle.word_model.proofs.Beginning.{HasDigits, all-cells, begin-rows, cell-places, cells-starts, rows-begin, starts-cells}
use Rattle.word_model.proofs.Following.{bit-long, follows-from, follows-to}
use Rattle.word_model.proofs.Framed.{beside, frame-from, frame-to, high, low}
use Rattle.word_model.proofs.Lines.{is_bit}
use Rattle.word_model.proofs.Stating.{assert-covered, assume-covered, cell-statement, cover-covered, mapped-at, statement-cell}

flat-flat : {X Z W : Type 0} (f : Z → List W) (g : X → List Z) (es : List X) → flat_map f (flat_map g es) ≡ flat_map (λ e. flat_map f (g e)) es
flat-flat f g [] = refl
flat-flat {W = W} f g (e ∷ es) = flat_map-append f (g e) (flat_map g es) ∙ ap (λ (l : List W). flat_map f (g e) ++ l) (flat-flat f g es)

map-flat : {X Z W : Type 0} (f : Z → W) (g : X → List Z) (es : List X) → map f (flat_map g es) ≡ flat_map (λ e. map f (g e)) es
map-flat f g [] = refl
map-flat {W = W} f g (e ∷ es) = map-append f (g e) (flat_map g es) ∙ ap (λ (l : List W). map f (g e) ++ l) (map-flat f g es)

flat-same : {X W : Type 0} (f g : X → List W) (es : List X) → ((e : X) → f e ≡ g e) → flat_map f es ≡ flat_map g es
flat-same f g [] h = refl
flat-same {W = W} f g (e ∷ es) h = ap (λ (l : List W). l ++ flat_map f es) (h e) ∙ ap (λ (l : List W). g e ++ l) (flat-same f g es h)

pub signals : (d : DesignOf) (bits : List SigBit) → signal_places d bits ≡ map (state_place d) (map (λ b. Signal b) bits)
signals d [] = refl
signals d (b ∷ bits) = ap (λ (l : List ℕ). place_of d b ∷ l) (signals d bits)

pub kepts : (d : DesignOf) (i : ℕ) (ks : List ℕ) → map (kept_place d i) ks ≡ map (state_place d) (map (λ k. Kept i k) ks)
kepts d i [] = refl
kepts d i (k ∷ ks) = ap (λ (l : List ℕ). kept_place d i k ∷ l) (kepts d i ks)

cell-states : (d : DesignOf) (e : ℕ × CellOf) → cell-places d e ≡ map (state_place d) (state_of e)
cell-states d (i, x) = by (role_of x.kind)
  where
    by : (r : Role) → flat_map (λ (g : RegisterOf). g.q) (registers_of_role r d i x)
        ≡ map (state_place d) (state_of_role r (map (λ b. Signal b) (output_of x)) (map (λ k. Kept i k) (range_with_len 0 (length (output_of x)))))
    by Combinational = refl
    by Register = append-nil (signal_places d (output_of x)) ∙ signals d (output_of x)
    by AsyncResetRegister = append-nil (kept_places d i (length (output_of x))) ∙ kepts d i (range_with_len 0 (length (output_of x)))
    by Constant = append-nil (signal_places d (output_of x)) ∙ signals d (output_of x)
    by Initial = append-nil (signal_places d (output_of x)) ∙ signals d (output_of x)
    by Source = refl
    by Statement = refl
    by Unsupported = refl

starts-long : (d : DesignOf) (es : List (ℕ × CellOf)) (starts : List (Option Bool)) → AreStarts d es starts → length starts ≡ length (flat_map state_of es)
starts-long d [] starts are = ap length are
starts-long d ((i, x) ∷ es) starts are =
    let rest : length are.1 ≡ length (flat_map state_of es) = starts-long d es are.1 are.4 in
    ap length are.2 ∙ (length-append are.0 are.1 ∙ (ap (λ (n : ℕ). n + length are.1) are.3.size ∙ (ap (λ (n : ℕ). length (state_of (i, x)) + n) rest ∙ sym (length-append (state_of (i, x)) (flat_map state_of es)))))

initial-bit : (k : Kind) → role_of k ≡ Initial → is_bit k Y ≡ true
initial-bit InitState h = refl
initial-bit (UnaryCell k) h = absurd cc
initial-bit (BinaryCell k) h = absurd cc
initial-bit (ReduceCell k) h = absurd cc
initial-bit (LogicCell k) h = absurd cc
initial-bit (CompareCell k) h = absurd cc
initial-bit ShiftLeft h = absurd cc
initial-bit ShiftRight h = absurd cc
initial-bit ShiftSign h = absurd cc
initial-bit ShiftAny h = absurd cc
initial-bit (DivideCell k) h = absurd cc
initial-bit Mux h = absurd cc
initial-bit Pmux h = absurd cc
initial-bit Bmux h = absurd cc
initial-bit Slice h = absurd cc
initial-bit Concat h = absurd cc
initial-bit Ff h = absurd cc
initial-bit Dff h = absurd cc
initial-bit Dffe h = absurd cc
initial-bit Sdff h = absurd cc
initial-bit Sdffe h = absurd cc
initial-bit Sdffce h = absurd cc
initial-bit Adff h = absurd cc
initial-bit Adffe h = absurd cc
initial-bit (StatementCell k) h = absurd cc
initial-bit (AnyCell AnyConst) h = absurd cc
initial-bit (AnyCell AnySeq) h = absurd cc
initial-bit (LeftOutCell k) h = absurd cc
initial-bit Unknown h = absurd cc

module _ (d : DesignOf) (shape : IsDesign d) (flat : IsFlat d) (order : List Driver) (ordered : IsOrder d order) (m : ModelOf) (built : IsBuilt d order m) where
  pub register-states : states m ≡ flat_map (cell-places d) (enumerate_from 0 d.cells)
  register-states =
      ap (λ (l : List RegisterOf). flat_map (λ (r : RegisterOf). r.q) l) built.registers
      ∙ flat-flat (λ (r : RegisterOf). r.q) (registers_of d) (enumerate_from 0 d.cells)

  pub states-listed : states m ≡ map (state_place d) (state_bits d)
  states-listed =
      register-states
      ∙ (flat-same (cell-places d) (λ e. map (state_place d) (state_of e)) (enumerate_from 0 d.cells) (λ e. cell-states d e)
      ∙ sym (map-flat (state_place d) state_of (enumerate_from 0 d.cells)))

  pub starts-listed : length m.starts ≡ length (states m)
  starts-listed =
      starts-long d (enumerate_from 0 d.cells) m.starts built.starts ∙ (sym (length-map (state_bits d) (state_place d)) ∙ sym (ap length states-listed))

  initial-long : (i : ℕ) (x : CellOf) → IsCell d i x → role_of x.kind ≡ Initial → length (output_of x) ≡ 1
  initial-long i x at role = ap (λ (r : Role). length (signal_of x (output_port r))) role ∙ bit-long d shape flat i x at Y (initial-bit x.kind role)

  module _ (c : Cycle) (k : HasConstants m c) where
    l : c (zero_place d) ≡ false
    l = low d shape flat order ordered m built c k

    h : c (suc (zero_place d)) ≡ true
    h = high d shape flat order ordered m built c k

    starts-digits : Starts m c → HasDigits (row_at c (states m)) m.starts
    starts-digits s n x at =
        let p = beside m.starts (states m) 0 (sym starts-listed) n (Some x) at in
        mapped-at c (states m) n p.0 p.1 ∙ ap (λ (b : Bool). Some b) (s n p.0 x p.1 at)

    digits-starts : HasDigits (row_at c (states m)) m.starts → Starts m c
    digits-starts s n p x at start = one-bit (c p) x (sym (mapped-at c (states m) n p at) ∙ s n x start)
      where
        one-bit : (a b : Bool) → ◌≡◌ {A = Option Bool} (Some a) (Some b) → a ≡ b
        one-bit a b e = cc

    begins-to : Starts m c → StartsOf d (valued d c)
    begins-to s =
        cells-starts d shape flat c l h initial-long
        (rows-begin d shape flat c l h (enumerate_from 0 d.cells) m.starts (all-cells d shape flat c l h) built.starts
        (subst (λ (ps : List ℕ). HasDigits (row_at c ps) m.starts) register-states (starts-digits s)))

    begins-from : StartsOf d (valued d c) → Starts m c
    begins-from s =
        digits-starts
        (subst (λ (ps : List ℕ). HasDigits (row_at c ps) m.starts) (sym register-states)
        (begin-rows d shape flat c l h (enumerate_from 0 d.cells) m.starts (all-cells d shape flat c l h) built.starts (starts-cells d shape flat c l h s)))

    assumed-to : Assumed m c → AssumedOf d (valued d c)
    assumed-to a i x at =
        let s = cell-statement d shape flat c l h is_assume assume-covered m.assumes built.assumes i x at in
        subst (λ (b : Bool). IsTrue (not b || says (valued d c) x)) (sym s.2) (subst (λ (b : Bool). IsTrue (not (c s.0.en) || b)) (sym s.3) (a i s.0 s.1))

    assumed-from : AssumedOf d (valued d c) → Assumed m c
    assumed-from a i s at =
        let x = statement-cell d shape flat c l h is_assume assume-covered m.assumes built.assumes i s at in
        subst (λ (b : Bool). IsTrue (not b || c s.a)) x.2 (subst (λ (b : Bool). IsTrue (not (is_enabled (valued d c) x.0) || b)) x.3 (a i x.0 x.1))

    broken-to : (a : ℕ) → Broken m c a → BrokenOf d (valued d c) a
    broken-to a b =
        let x = statement-cell d shape flat c l h is_assert assert-covered m.asserts built.asserts a b.0 b.1 in
        (x.0, x.1, x.2 ∙ b.2, x.3 ∙ b.3)

    broken-from : (a : ℕ) → BrokenOf d (valued d c) a → Broken m c a
    broken-from a b =
        let s = cell-statement d shape flat c l h is_assert assert-covered m.asserts built.asserts a b.0 b.1 in
        (s.0, s.1, sym s.2 ∙ b.2, sym s.3 ∙ b.3)

    reached-to : (a : ℕ) → Reached m c a → ReachedOf d (valued d c) a
    reached-to a b =
        let x = statement-cell d shape flat c l h is_cover cover-covered m.covers built.covers a b.0 b.1 in
        (x.0, x.1, x.2 ∙ b.2, x.3 ∙ b.3)

    reached-from : (a : ℕ) → ReachedOf d (valued d c) a → Reached m c a
    reached-from a b =
        let s = cell-statement d shape flat c l h is_cover cover-covered m.covers built.covers a b.0 b.1 in
        (s.0, s.1, sym s.2 ∙ b.2, sym s.3 ∙ b.3)

  pub meant : IsModelOf d m
  meant = record {
    size = built.size;
    zero = built.zero;
    states = states-listed;
    starts = built.starts;
    inputs = built.inputs;
    asserts = ap length built.asserts ∙ length-map (asserts d) (statement_of d);
    assumes = ap length built.assumes ∙ length-map (assumes d) (statement_of d);
    covers = ap length built.covers ∙ length-map (covers d) (statement_of d);
    frame = λ c k. (λ f. frame-to d shape flat order ordered m built c k f, λ f. frame-from d shape flat order ordered m built c k f);
    follows = λ c e k n. (
      λ f. follows-to d shape flat m.registers built.registers c e (l c k) (h c k) (l e n) (h e n) f,
      λ f. follows-from d shape flat m.registers built.registers c e (l c k) (h c k) (l e n) (h e n) f,
    );
    begins = λ c k. (λ s. begins-to c k s, λ s. begins-from c k s);
    assumed = λ c k. (λ a. assumed-to c k a, λ a. assumed-from c k a);
    broken = λ c k a. (λ b. broken-to c k a b, λ b. broken-from c k a b);
    reached = λ c k a. (λ b. reached-to c k a b, λ b. reached-from c k a b);
  }
