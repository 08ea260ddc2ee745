-- The start digits of a model are those that count in its design.
use Rattle.std.proofs.Common.{◌≡◌, ◌⊎◌, inl, inr, ℕ, zero, suc, ◌+◌, ◌<◌, Bool, true, false, List, [], ◌∷◌, ◌++◌, length, map, get_or, Option, Some, Contains, refl, ap, sym, subst, ◌∙◌, arith}
use Rattle.std.specs.Prelude.{◌↔◌, slice_get}
use Rattle.std.specs.List.{enumerate_from, flat_map, range_with_len}
use Rattle.std.proofs.lemmas.Bool.{false≢true}
use Rattle.std.proofs.lemmas.List.{append-nil, length-map}
use Rattle.std.proofs.lemmas.Option.{slice_get_within, slice_get-get_or}
use Rattle.sby_bits.specs.Rows.{Row}
use Rattle.cell_table.specs.declared.kind.Kind.{Kind}
use Rattle.design_check.specs.Faults.{IsFlat}
use Rattle.design_core.specs.Asked.{output_of}
use Rattle.design_core.specs.Shape.{CellOf, DesignOf, IsDesign}
use Rattle.design_core.specs.Table.{role_of}
use Rattle.design_core.specs.declared.table.Role.{Role}
use Rattle.design_core.specs.declared.table.Role.TheVariants.{Combinational, Register, AsyncResetRegister, Constant, Initial, Source, Statement, Unsupported}
use Rattle.design_core.proofs.Lists.{one_at}
use Rattle.design_meaning.specs.Meaning.{IsCell, IsStart, Starts as StartsOf, Valuation, held_row, is_register}
use Rattle.design_meaning.specs.States.{Kept, Signal, StateBit, state_in, state_of, state_of_role}
use Rattle.design_meaning.proofs.States.{by_role as state-rows}
use Rattle.design_signals.specs.declared.sig_bit.SigBit.{SigBit}
use Rattle.model_core.specs.Meaning.{Cycle, row_at}
use Rattle.model_core.specs.Shape.{RegisterOf}
use Rattle.model_core.proofs.Lists.{app_cases, app_left, app_right}
use Rattle.model_core.proofs.Writing.{row_append}
use Rattle.word_model.specs.Layout.{kept_places, signal_places, valued, zero_place}
use Rattle.word_model.specs.Registers.{AreDigits, AreStarts, BeginsWith, registers_of, registers_of_role}
use Rattle.word_model.proofs.Following.{enumerated, enumerated-back, held-as}

-- a row has the digits that are given
abbrev pub HasDigits : Row → List (Option Bool) → Type 0
HasDigits row digits = (k : ℕ) (x : Bool) → slice_get digits k ≡ Some (Some x) → slice_get row k ≡ Some x

digits-join : (r s : Row) (xs ys : List (Option Bool)) → length xs ≡ length r → HasDigits r xs → HasDigits s ys → HasDigits (r ++ s) (xs ++ ys)
digits-join r s xs ys e h g k x at =
    elim (app_cases xs ys k (Some x) at) as (λ _. slice_get (r ++ s) k ≡ Some x) [
      | inl first ↦ app_left r s k x (h k x first)
      | inr later ↦ let place : k ≡ length r + later.0 = (let p = later.1 in omega (arith, p, e)) in app_right r s later.0 k place ∙ g later.0 x later.2
    ]

one-some : {X : Type 0} (x y : X) → Some x ≡ Some y → x ≡ y
one-some x y e = cc

digits-first : (r s : Row) (xs ys : List (Option Bool)) → length xs ≡ length r → HasDigits (r ++ s) (xs ++ ys) → HasDigits r xs
digits-first r s xs ys e h k x at =
    let whole = h k x (app_left xs ys k (Some x) at) in
    let lt : k < length r = omega (arith, slice_get_within xs k (Some x) at, e) in
    let here = slice_get-get_or r k false lt in
    here ∙ (sym (app_left r s k (get_or r k false) here) ∙ whole)

digits-rest : (r s : Row) (xs ys : List (Option Bool)) → length xs ≡ length r → HasDigits (r ++ s) (xs ++ ys) → HasDigits s ys
digits-rest r s xs ys e h k x at =
    let whole = h (length xs + k) x (app_right xs ys k (length xs + k) refl ∙ at) in
    let place : length xs + k ≡ length r + k = omega (arith, e) in
    sym (app_right r s k (length xs + k) place) ∙ whole

held-long : (v : Valuation) (i : ℕ) (x : CellOf) → length (held_row v i x) ≡ length (state_of (i, x))
held-long v i x = ap length (sym (state-rows v i (role_of x.kind) (output_of x) (range_with_len 0 (length (output_of x))))) ∙ length-map (state_of (i, x)) (state_in v)

-- the digits of one cell
abbrev pub CellBegins : DesignOf → Valuation → ℕ → CellOf → Type 0
CellBegins d v i x = (k : ℕ) (b : Bool) → k < length (state_of (i, x)) → BeginsWith (role_of x.kind) d i k b → slice_get (held_row v i x) k ≡ Some b

digits-begin : (d : DesignOf) (v : Valuation) (i : ℕ) (x : CellOf) (digits : List (Option Bool)) → AreDigits d i x digits → HasDigits (held_row v i x) digits → CellBegins d v i x
digits-begin d v i x digits are h k b lt begins = let less : k < length digits = omega (arith, lt, are.size) in h k b ((are.each k b less).1 begins)

begin-digits : (d : DesignOf) (v : Valuation) (i : ℕ) (x : CellOf) (digits : List (Option Bool)) → AreDigits d i x digits → CellBegins d v i x → HasDigits (held_row v i x) digits
begin-digits d v i x digits are h k b at =
    let less : k < length digits = slice_get_within digits k (Some b) at in
    h k b (omega (arith, less, are.size)) ((are.each k b less).0 at)

length-range : (a n : ℕ) → length (range_with_len a n) ≡ n
length-range a zero = refl
length-range a (suc n) = ap suc (length-range (a + 1) n)

abbrev pub cell-places : DesignOf → ℕ × CellOf → List ℕ
cell-places d e = flat_map (λ (r : RegisterOf). r.q) (registers_of d e)

module _ (d : DesignOf) (shape : IsDesign d) (flat : IsFlat d) (c : Cycle) (low : c (zero_place d) ≡ false) (high : c (suc (zero_place d)) ≡ true) where
  cell-row : (i : ℕ) (x : CellOf) → IsCell d i x → row_at c (cell-places d (i, x)) ≡ held_row (valued d c) i x
  cell-row i x at = by (role_of x.kind) refl
    where
      by : (r : Role) → role_of x.kind ≡ r → row_at c (flat_map (λ (g : RegisterOf). g.q) (registers_of_role r d i x)) ≡ held_row (valued d c) i x
      by Combinational e = sym (held-as d shape flat i x at c low high Combinational e)
      by Register e = ap (row_at c) (append-nil (signal_places d (output_of x))) ∙ sym (held-as d shape flat i x at c low high Register e)
      by AsyncResetRegister e = ap (row_at c) (append-nil (kept_places d i (length (output_of x)))) ∙ sym (held-as d shape flat i x at c low high AsyncResetRegister e)
      by Constant e = ap (row_at c) (append-nil (signal_places d (output_of x))) ∙ sym (held-as d shape flat i x at c low high Constant e)
      by Initial e = ap (row_at c) (append-nil (signal_places d (output_of x))) ∙ sym (held-as d shape flat i x at c low high Initial e)
      by Source e = sym (held-as d shape flat i x at c low high Source e)
      by Statement e = sym (held-as d shape flat i x at c low high Statement e)
      by Unsupported e = sym (held-as d shape flat i x at c low high Unsupported e)

  abbrev pub AreCells : List (ℕ × CellOf) → Type 0
  AreCells es = (k : ℕ) (e : ℕ × CellOf) → slice_get es k ≡ Some e → IsCell d e.0 e.1

  abbrev pub AllBegin : List (ℕ × CellOf) → Type 0
  AllBegin es = (k : ℕ) (e : ℕ × CellOf) → slice_get es k ≡ Some e → CellBegins d (valued d c) e.0 e.1

  tail : (e : ℕ × CellOf) (es : List (ℕ × CellOf)) → AreCells (e ∷ es) → AreCells es
  tail e es h k f at = h (suc k) f at

  pub rows-begin : (es : List (ℕ × CellOf)) (starts : List (Option Bool)) → AreCells es → AreStarts d es starts → HasDigits (row_at c (flat_map (cell-places d) es)) starts → AllBegin es
  rows-begin [] starts cells are h k e at = absurd cc
  rows-begin ((i, x) ∷ es) starts cells are h k e at =
      let digits = are.0 in
      let rest = are.1 in
      let whole : HasDigits (held_row (valued d c) i x ++ row_at c (flat_map (cell-places d) es)) (digits ++ rest) =
      subst (λ (r : Row). HasDigits r (digits ++ rest))
      (row_append c (cell-places d (i, x)) (flat_map (cell-places d) es) ∙ ap (λ (r : Row). r ++ row_at c (flat_map (cell-places d) es)) (cell-row i x (cells 0 (i, x) refl)))
      (subst (λ (l : List (Option Bool)). HasDigits (row_at c (flat_map (cell-places d) ((i, x) ∷ es))) l) are.2 h) in
      let long : length digits ≡ length (held_row (valued d c) i x) = are.3.size ∙ sym (held-long (valued d c) i x) in
      by k at
      (digits-begin d (valued d c) i x digits are.3 (digits-first (held_row (valued d c) i x) (row_at c (flat_map (cell-places d) es)) digits rest long whole))
      (rows-begin es rest (tail (i, x) es cells) are.4 (digits-rest (held_row (valued d c) i x) (row_at c (flat_map (cell-places d) es)) digits rest long whole))
    where
      by : (n : ℕ) → slice_get ((i, x) ∷ es) n ≡ Some e → CellBegins d (valued d c) i x → AllBegin es → CellBegins d (valued d c) e.0 e.1
      by zero g first later = let same : ◌≡◌ {A = ℕ × CellOf} (i, x) e = cc in subst (λ (p : ℕ × CellOf). CellBegins d (valued d c) p.0 p.1) same first
      by (suc n) g first later = later n e g

  pub begin-rows : (es : List (ℕ × CellOf)) (starts : List (Option Bool)) → AreCells es → AreStarts d es starts → AllBegin es → HasDigits (row_at c (flat_map (cell-places d) es)) starts
  begin-rows [] starts cells are h = λ k x at. absurd (nothing-at k x (subst (λ (l : List (Option Bool)). slice_get l k ≡ Some (Some x)) are at))
    where
      nothing-at : (k : ℕ) (x : Bool) → slice_get (let xs : List (Option Bool) = [] in xs) k ≡ Some (Some x) → ⊥
      nothing-at k x g = cc
  begin-rows ((i, x) ∷ es) starts cells are h =
      let digits = are.0 in
      let rest = are.1 in
      let long : length digits ≡ length (held_row (valued d c) i x) = are.3.size ∙ sym (held-long (valued d c) i x) in
      let whole : HasDigits (held_row (valued d c) i x ++ row_at c (flat_map (cell-places d) es)) (digits ++ rest) =
      digits-join (held_row (valued d c) i x) (row_at c (flat_map (cell-places d) es)) digits rest long
      (begin-digits d (valued d c) i x digits are.3 (h 0 (i, x) refl))
      (begin-rows es rest (tail (i, x) es cells) are.4 (λ k e at. h (suc k) e at)) in
      subst (λ (l : List (Option Bool)). HasDigits (row_at c (flat_map (cell-places d) ((i, x) ∷ es))) l) (sym are.2)
      (subst (λ (r : Row). HasDigits r (digits ++ rest))
      (sym (row_append c (cell-places d (i, x)) (flat_map (cell-places d) es) ∙ ap (λ (r : Row). r ++ row_at c (flat_map (cell-places d) es)) (cell-row i x (cells 0 (i, x) refl)))) whole)

  pub all-cells : AreCells (enumerate_from 0 d.cells)
  all-cells k e at =
      let r = enumerated-back 0 d.cells k e at in
      let place : k ≡ e.0 = (let n = r.0 in omega (arith, n)) in
      subst (λ (n : ℕ). slice_get d.cells n ≡ Some e.1) place r.1

  -- what is asked of the first cycle, cell by cell
  pub starts-cells : StartsOf d (valued d c) → AllBegin (enumerate_from 0 d.cells)
  starts-cells s k e at = λ n b lt begins. by e.0 e.1 (all-cells k e at) n b lt (role_of e.1.kind) refl begins
    where
      by : (i : ℕ) (x : CellOf) → IsCell d i x → (n : ℕ) (b : Bool) → n < length (state_of (i, x)) → (r : Role) → role_of x.kind ≡ r → BeginsWith r d i n b → slice_get (held_row (valued d c) i x) n ≡ Some b
      by i x cell n b lt Combinational role h = absurd h
      by i x cell n b lt Register role h = s.digits i n x b cell h
      by i x cell n b lt AsyncResetRegister role h = s.digits i n x b cell h
      by i x cell n b lt Constant role h = absurd h
      by i x cell n b lt Initial role h =
          let held : held_row (valued d c) i x ≡ true ∷ [] = s.initial i x cell role in
          let first : n ≡ 0 = omega (arith, lt, held-long (valued d c) i x, ap length held) in
          ap (λ (q : Row). slice_get q n) held ∙ (ap (λ (j : ℕ). slice_get (true ∷ []) j) first ∙ ap (λ (t : Bool). Some t) (sym h))
      by i x cell n b lt Source role h = absurd h
      by i x cell n b lt Statement role h = absurd h
      by i x cell n b lt Unsupported role h = absurd h

  digit-cell : (i k : ℕ) (x : CellOf) (b : Bool) → IsCell d i x → IsStart d i k b → CellBegins d (valued d c) i x → slice_get (held_row (valued d c) i x) k ≡ Some b
  digit-cell i k x b cell start h =
      let r = start.4 in
      let same : r.0 ≡ x = one_at d.cells i r.0 x r.1 cell in
      by (role_of x.kind) refl
      (subst (λ (y : CellOf). is_register (role_of y.kind) ≡ true) same r.2)
      (let within = slice_get_within (output_of r.0) k start.0 r.3 in subst (λ (y : CellOf). k < length (output_of y)) same within)
      h
    where
      by : (r : Role) → role_of x.kind ≡ r → is_register r ≡ true → k < length (output_of x)
          → ((n : ℕ) (t : Bool) → n < length (state_of_role r (map (λ a. Signal a) (output_of x)) (map (λ n. Kept i n) (range_with_len 0 (length (output_of x))))) → BeginsWith r d i n t → slice_get (held_row (valued d c) i x) n ≡ Some t)
          → slice_get (held_row (valued d c) i x) k ≡ Some b
      by Combinational role t lt g = absurd (false≢true t)
      by Register role t lt g = g k b (omega (arith, lt, length-map (output_of x) (λ (a : SigBit). Signal a))) start
      by AsyncResetRegister role t lt g = g k b (omega (arith, lt, length-map (range_with_len 0 (length (output_of x))) (λ (n : ℕ). Kept i n), length-range 0 (length (output_of x)))) start
      by Constant role t lt g = absurd (false≢true t)
      by Initial role t lt g = absurd (false≢true t)
      by Source role t lt g = absurd (false≢true t)
      by Statement role t lt g = absurd (false≢true t)
      by Unsupported role t lt g = absurd (false≢true t)

  initial-cell : (i : ℕ) (x : CellOf) → IsCell d i x → role_of x.kind ≡ Initial → length (output_of x) ≡ 1 → CellBegins d (valued d c) i x → held_row (valued d c) i x ≡ true ∷ []
  initial-cell i x cell role long h =
      let states : length (state_of (i, x)) ≡ 1 =
      ap (λ (r : Role). length (state_of_role r (map (λ a. Signal a) (output_of x)) (map (λ n. Kept i n) (range_with_len 0 (length (output_of x)))))) role ∙ (length-map (output_of x) (λ (a : SigBit). Signal a) ∙ long) in
      one-long (held_row (valued d c) i x) (held-long (valued d c) i x ∙ states)
      (h 0 true (omega (arith, states)) (subst (λ (r : Role). BeginsWith r d i 0 true) (sym role) refl))
    where
      one-long : (q : Row) → length q ≡ 1 → slice_get q 0 ≡ Some true → q ≡ true ∷ []
      one-long [] e g = absurd (omega arith)
      one-long (b ∷ []) e g = let same : b ≡ true = cc in ap (λ (t : Bool). t ∷ []) same
      one-long (b ∷ a ∷ q) e g = absurd (omega arith)

  pub cells-starts : ((i : ℕ) (x : CellOf) → IsCell d i x → role_of x.kind ≡ Initial → length (output_of x) ≡ 1) → AllBegin (enumerate_from 0 d.cells) → StartsOf d (valued d c)
  cells-starts long h = record {
    digits = λ i k x b cell start. digit-cell i k x b cell start (h i (i, x) (enumerated 0 d.cells i i x (omega arith) cell));
    initial = λ i x cell role. initial-cell i x cell role (long i x cell role) (h i (i, x) (enumerated 0 d.cells i i x (omega arith) cell));
  }
