-- What a model's statements say is what the design's say.
use Rattle.std.proofs.Common.{◌≡◌, ℕ, zero, suc, ◌+◌, ◌<◌, Bool, true, false, cond, not, ◌&&◌, ◌||◌, List, [], ◌∷◌, length, map, Option, Some, Contains, refl, ap, sym, subst, ◌∙◌, arith}
use Rattle.std.specs.Prelude.{slice_get, IsTrue, ◌↔◌}
use Rattle.std.specs.List.{filter}
use Rattle.std.proofs.lemmas.Bool.{false≢true}
use Rattle.cell_table.specs.declared.kind.Kind.{Kind}
use Rattle.cell_table.specs.declared.kind.Kind.TheVariants.{Unary as UnaryCell, Binary as BinaryCell, Reduce as ReduceCell, Logic as LogicCell, Compare as CompareCell, ShiftLeft, ShiftRight, ShiftSign, ShiftAny, Divide as DivideCell, Mux, Pmux, Bmux, Slice, Concat, Ff, Dff, Dffe, Sdff, Sdffe, Sdffce, Adff, Adffe, Statement as StatementCell, Any as AnyCell, InitState, LeftOut as LeftOutCell, Unknown}
use Rattle.cell_table.specs.declared.kind.Statement.TheVariants.{Assert, Assume, Cover}
use Rattle.design_check.specs.Faults.{IsFlat}
use Rattle.design_core.specs.Cells.{is_set}
use Rattle.design_core.specs.Places.{place_of}
use Rattle.design_core.specs.Ports.{signal_at}
use Rattle.design_core.specs.Shape.{CellOf, DesignOf, IsDesign}
use Rattle.design_core.specs.declared.names.PortName.{PortName}
use Rattle.design_core.specs.declared.names.PortName.TheVariants.{A, En}
use Rattle.design_core.proofs.Lists.{one_at}
use Rattle.design_meaning.specs.Meaning.{Assumed as AssumedOf, Broken as BrokenOf, Reached as ReachedOf, IsCell, is_assert, is_assume, is_cover, is_enabled, row_in, says}
use Rattle.design_signals.specs.declared.sig_bit.SigBit.{SigBit}
use Rattle.model_core.specs.Meaning.{Cycle}
use Rattle.model_core.specs.declared.model.Statement.{Statement}
use Rattle.word_model.specs.Built.{statement_of}
use Rattle.word_model.specs.Layout.{bit_place, valued, zero_place}
use Rattle.word_model.proofs.Alike.{from-filter}
use Rattle.word_model.proofs.Following.{bit-long}
use Rattle.word_model.proofs.Lines.{is_bit}
use Rattle.word_model.proofs.Reading.{bit-read, set-bit}

abbrev pub is_statement : Kind → Bool
is_statement k = is_assert k || (is_assume k || is_cover k)

statement-bits : (k : Kind) → is_statement k ≡ true → (is_bit k A ≡ true) × (is_bit k En ≡ true)
statement-bits (StatementCell Assert) h = (refl, refl)
statement-bits (StatementCell Assume) h = (refl, refl)
statement-bits (StatementCell Cover) h = (refl, refl)
statement-bits (UnaryCell k) h = absurd (false≢true h)
statement-bits (BinaryCell k) h = absurd (false≢true h)
statement-bits (ReduceCell k) h = absurd (false≢true h)
statement-bits (LogicCell k) h = absurd (false≢true h)
statement-bits (CompareCell k) h = absurd (false≢true h)
statement-bits ShiftLeft h = absurd (false≢true h)
statement-bits ShiftRight h = absurd (false≢true h)
statement-bits ShiftSign h = absurd (false≢true h)
statement-bits ShiftAny h = absurd (false≢true h)
statement-bits (DivideCell k) h = absurd (false≢true h)
statement-bits Mux h = absurd (false≢true h)
statement-bits Pmux h = absurd (false≢true h)
statement-bits Bmux h = absurd (false≢true h)
statement-bits Slice h = absurd (false≢true h)
statement-bits Concat h = absurd (false≢true h)
statement-bits Ff h = absurd (false≢true h)
statement-bits Dff h = absurd (false≢true h)
statement-bits Dffe h = absurd (false≢true h)
statement-bits Sdff h = absurd (false≢true h)
statement-bits Sdffe h = absurd (false≢true h)
statement-bits Sdffce h = absurd (false≢true h)
statement-bits Adff h = absurd (false≢true h)
statement-bits Adffe h = absurd (false≢true h)
statement-bits (AnyCell k) h = absurd (false≢true h)
statement-bits InitState h = absurd (false≢true h)
statement-bits (LeftOutCell k) h = absurd (false≢true h)
statement-bits Unknown h = absurd (false≢true h)

pub mapped-at : {X Y : Type 0} (f : X → Y) (xs : List X) (k : ℕ) (x : X) → slice_get xs k ≡ Some x → slice_get (map f xs) k ≡ Some (f x)
mapped-at f [] k x h = cc
mapped-at {X = X} f (y ∷ xs) zero x h = let e : y ≡ x = cc in ap (λ (z : X). Some (f z)) e
mapped-at f (y ∷ xs) (suc k) x h = mapped-at f xs k x h

mapped-from : {X Y : Type 0} (f : X → Y) (xs : List X) (k : ℕ) (y : Y) → slice_get (map f xs) k ≡ Some y → (x : X) × (slice_get xs k ≡ Some x) × (f x ≡ y)
mapped-from f [] k y h = absurd cc
mapped-from f (x ∷ xs) zero y h = (x, refl, cc)
mapped-from f (x ∷ xs) (suc k) y h = mapped-from f xs k y h

filter-passes : {X : Type 0} (test : X → Bool) (xs : List X) (k : ℕ) (x : X) → slice_get (filter test xs) k ≡ Some x → test x ≡ true
filter-passes test [] k x h = absurd cc
filter-passes {X = X} test (y ∷ xs) k x h = by (test y) refl h (λ j g. filter-passes test xs j x g)
  where
    first : (j : ℕ) → test y ≡ true → slice_get (y ∷ filter test xs) j ≡ Some x → ((n : ℕ) → slice_get (filter test xs) n ≡ Some x → test x ≡ true) → test x ≡ true
    first zero e g later = let same : y ≡ x = cc in ap test (sym same) ∙ e
    first (suc j) e g later = later j g

    by : (b : Bool) → test y ≡ b → slice_get (cond b (y ∷ filter test xs) (filter test xs)) k ≡ Some x → ((n : ℕ) → slice_get (filter test xs) n ≡ Some x → test x ≡ true) → test x ≡ true
    by true e g later = first k e g later
    by false e g later = later k g

module _ (d : DesignOf) (shape : IsDesign d) (flat : IsFlat d) (c : Cycle) (low : c (zero_place d) ≡ false) (high : c (suc (zero_place d)) ≡ true) where
  one-read : (bits : List SigBit) → length bits ≡ 1 → is_set (row_in (valued d c) bits) ≡ c (bit_place d bits)
  one-read [] long = absurd (omega arith)
  one-read (b ∷ []) long = ap (λ (t : Bool). is_set (t ∷ [])) (bit-read d c low high b) ∙ set-bit (c (place_of d b))
  one-read (b ∷ a ∷ bits) long = absurd (omega arith)

  module _ (i : ℕ) (x : CellOf) (at : IsCell d i x) (is : is_statement x.kind ≡ true) where
    says-is : says (valued d c) x ≡ c (statement_of d x).a
    says-is = one-read (signal_at x.ports A) (bit-long d shape flat i x at A (statement-bits x.kind is).0)

    enabled-is : is_enabled (valued d c) x ≡ c (statement_of d x).en
    enabled-is = one-read (signal_at x.ports En) (bit-long d shape flat i x at En (statement-bits x.kind is).1)

  module _ (test : Kind → Bool) (covered : (k : Kind) → test k ≡ true → is_statement k ≡ true) (statements : List Statement) (are : statements ≡ map (statement_of d) (filter (λ (x : CellOf). test x.kind) d.cells)) where
    -- a statement of the model beside the design's
    pub statement-cell : (k : ℕ) (s : Statement) → slice_get statements k ≡ Some s
        → (x : CellOf) × (slice_get (filter (λ (y : CellOf). test y.kind) d.cells) k ≡ Some x) × (is_enabled (valued d c) x ≡ c s.en) × (says (valued d c) x ≡ c s.a)
    statement-cell k s h =
        let r = mapped-from (statement_of d) (filter (λ (y : CellOf). test y.kind) d.cells) k s (subst (λ (l : List Statement). slice_get l k ≡ Some s) are h) in
        let at = from-filter (λ (y : CellOf). test y.kind) d.cells k r.0 r.1 in
        let is = covered r.0.kind (filter-passes (λ (y : CellOf). test y.kind) d.cells k r.0 r.1) in
        (r.0, r.1, enabled-is at.0 r.0 at.1 is ∙ ap (λ (z : Statement). c z.en) r.2, says-is at.0 r.0 at.1 is ∙ ap (λ (z : Statement). c z.a) r.2)

    pub cell-statement : (k : ℕ) (x : CellOf) → slice_get (filter (λ (y : CellOf). test y.kind) d.cells) k ≡ Some x
        → (s : Statement) × (slice_get statements k ≡ Some s) × (is_enabled (valued d c) x ≡ c s.en) × (says (valued d c) x ≡ c s.a)
    cell-statement k x h =
        let at = from-filter (λ (y : CellOf). test y.kind) d.cells k x h in
        let is = covered x.kind (filter-passes (λ (y : CellOf). test y.kind) d.cells k x h) in (
          statement_of d x,
          subst (λ (l : List Statement). slice_get l k ≡ Some (statement_of d x)) (sym are) (mapped-at (statement_of d) (filter (λ (y : CellOf). test y.kind) d.cells) k x h),
          enabled-is at.0 x at.1 is,
          says-is at.0 x at.1 is,
        )

or-first : (a b : Bool) → a ≡ true → (a || b) ≡ true
or-first true b h = refl
or-first false b h = absurd (false≢true h)

or-later : (a b : Bool) → b ≡ true → (a || b) ≡ true
or-later true b h = refl
or-later false b h = h

pub assert-covered : (k : Kind) → is_assert k ≡ true → is_statement k ≡ true
assert-covered k h = or-first (is_assert k) (is_assume k || is_cover k) h

pub assume-covered : (k : Kind) → is_assume k ≡ true → is_statement k ≡ true
assume-covered k h = or-later (is_assert k) (is_assume k || is_cover k) (or-first (is_assume k) (is_cover k) h)

pub cover-covered : (k : Kind) → is_cover k ≡ true → is_statement k ≡ true
cover-covered k h = or-later (is_assert k) (is_assume k || is_cover k) (or-later (is_assume k) (is_cover k) h)
