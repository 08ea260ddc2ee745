-- Nodes that move bits, and nodes that have a word.
use Rattle.std.proofs.Common.{◌≡◌, ℕ, zero, suc, ◌+◌, ◌-◌, ◌<◌, ◌≤◌, List, [], ◌∷◌, ◌++◌, Some, length, take, drop, refl, sym, ap, subst, ◌∙◌, arith, length-drop}
use Rattle.std.specs.Prelude.{Contains, slice_get}
use Rattle.std.proofs.lemmas.List.{length-take-le, take-append-drop}
use Rattle.std.proofs.lemmas.List.Elements.{All-contains}
use Rattle.std.proofs.lemmas.Option.{slice_get_within}
use Rattle.sby_bits.specs.Rows.{Row}
use Rattle.btor_core.specs.Fits.{IsBtor}
use Rattle.btor_core.specs.Meaning.{Values}
use Rattle.btor_core.specs.Shape.{BtorOf}
use Rattle.btor_words.proofs.Emitting.{both}
use Rattle.btor_emit.specs.Emitting.{AreAliased, Gives}
use Rattle.btor_emit.specs.Nodes.{IsMove}
use Rattle.btor_emit.specs.Table.{AreIn, AreSeats, Table, cycle_of}
use Rattle.btor_emit.proofs.Gathering.{place_in_front, place_in_part}
use Rattle.btor_emit.proofs.Giving.{aliased, row_drop, row_take}
use Rattle.btor_emit.proofs.OperandRows.{still_in}
use Rattle.model_core.specs.Meaning.{Cycle, node_fn, row_at}
use Rattle.model_core.specs.Served.{HasWidths}
use Rattle.model_core.specs.Shape.{IsDistinct}
use Rattle.model_core.specs.declared.op.Op.{Op}
use Rattle.model_core.specs.declared.op.Op.TheVariants as op
use Rattle.model_core.proofs.Lists.{all_from, app_left, app_right, contained_at, contains_left, contains_right, place_of_contained}
use Rattle.model_core.proofs.Writing.{row_append, row_same}

pub no_move : (o : Op) → (o ≡ op.Copy → ⊥) → ((k : ℕ) → o ≡ op.Slice k → ⊥) → (o ≡ op.Concat → ⊥) → IsMove o → ⊥
no_move op.Copy c s k h = c refl
no_move (op.Unary x signed) c s k h = h
no_move (op.Binary x signed) c s k h = h
no_move (op.Reduce x) c s k h = h
no_move (op.Logic x) c s k h = h
no_move (op.Compare x signed) c s k h = h
no_move (op.ShiftLeft signed) c s k h = h
no_move (op.ShiftRight signed) c s k h = h
no_move (op.ShiftSign signed) c s k h = h
no_move (op.ShiftAny signed by_signed) c s k h = h
no_move (op.Divide x signed) c s k h = h
no_move op.Mux c s k h = h
no_move op.Pmux c s k h = h
no_move op.Bmux c s k h = h
no_move (op.Slice offset) c s k h = s offset refl
no_move op.Concat c s k h = k refl

-- another name of the row
pub gives_as : (m0 m1 : BtorOf) (t0 t1 : Table) (y : List ℕ) (j k : ℕ) (f g : Values → Row) → Gives m0 m1 t0 t1 y j f → j ≤ k → ((vs : Values) → f vs ≡ g vs) → Gives m0 m1 t0 t1 y k g
gives_as m0 m1 t0 t1 y j k f g x fits is =
    let s = x.adds in
    record { adds = record { btor = s.btor; grows = s.grows; lists = s.lists; opened = s.opened; few = (let a = s.few in omega arith); holds = λ vs h. s.holds vs h ∙ is vs }; size = x.size; seats = x.seats; same = x.same }

-- a part of the places
pub slice_row : (c : Cycle) (w offset : ℕ) (a : List ℕ) → row_at c (take w (drop offset a)) ≡ take w (drop offset (row_at c a))
slice_row c w offset a = row_take c w (drop offset a) ∙ ap (λ (r : Row). take w r) (row_drop c offset a)

-- two lists of places, one after the other
module _ (m : BtorOf) (t0 t1 t2 : Table) (low high y a b : List ℕ) (whole : y ≡ low ++ high) (distinct : IsDistinct y) (apart : (p : ℕ) → Contains y p → Contains b p → ⊥) where
  high_apart : (p : ℕ) → Contains low p → Contains high p → ⊥
  high_apart p g h =
      let x = place_of_contained low p g in
      let z = place_of_contained high p h in
      let l = slice_get_within low x.0 p x.1 in
      let first : slice_get y x.0 ≡ Some p = subst (λ (ps : List ℕ). slice_get ps x.0 ≡ Some p) (sym whole) (app_left low high x.0 p x.1) in
      let second : slice_get y (length low + z.0) ≡ Some p = subst (λ (ps : List ℕ). slice_get ps (length low + z.0) ≡ Some p) (sym whole) (app_right low high z.0 (length low + z.0) refl ∙ z.1) in
      let same : x.0 ≡ length low + z.0 = distinct x.0 (length low + z.0) p first second in
      omega arith

  pub two_moves : (most : ℕ) → Gives m m t0 t1 low 0 (λ vs. row_at (cycle_of t0 vs) a) → Gives m m t1 t2 high 0 (λ vs. row_at (cycle_of t1 vs) b) → Gives m m t0 t2 y most (λ vs. row_at (cycle_of t0 vs) a ++ row_at (cycle_of t0 vs) b)
  two_moves most g h =
      let s = both g.adds h.adds in
      record {
        adds = record {
          btor = s.btor;
          grows = s.grows;
          lists = s.lists;
          opened = s.opened;
          few = omega arith;
          holds = λ vs k.
              let p = s.holds vs k in
              let lows : row_at (cycle_of t2 vs) low ≡ row_at (cycle_of t1 vs) low = row_same (cycle_of t2 vs) (cycle_of t1 vs) low (λ q c. h.same vs k q (λ d. high_apart q c d)) in
              let operands : row_at (cycle_of t1 vs) b ≡ row_at (cycle_of t0 vs) b = row_same (cycle_of t1 vs) (cycle_of t0 vs) b (λ q c. g.same vs k q (λ d. apart q (subst (λ (ps : List ℕ). Contains ps q) (sym whole) (contains_left low high q d)) c)) in
              ap (λ (ps : List ℕ). row_at (cycle_of t2 vs) ps) whole ∙ row_append (cycle_of t2 vs) low high ∙ ap (λ (r : Row). r ++ row_at (cycle_of t2 vs) high) (lows ∙ p.0) ∙ ap (λ (r : Row). row_at (cycle_of t0 vs) a ++ r) (p.1 ∙ operands);
        };
        size = h.size ∙ g.size;
        seats = h.seats;
        same = λ vs k p n.
            h.same vs k p (λ c. n (subst (λ (ps : List ℕ). Contains ps p) (sym whole) (contains_right low high p c)))
            ∙ g.same vs k p (λ c. n (subst (λ (ps : List ℕ). Contains ps p) (sym whole) (contains_left low high p c)));
      }

pub in_slice : (n k offset : ℕ) (xs : List ℕ) (p : ℕ) → Contains (take n (take k (drop offset xs))) p → Contains xs p
in_slice n k offset xs p c =
    let at = place_of_contained (take n (take k (drop offset xs))) p c in
    let a = place_in_front (take k (drop offset xs)) n at.0 p at.1 in
    let b = place_in_part offset xs k at.0 (offset + at.0) p refl a.1 in
    contained_at xs p (offset + at.0) b.1

take_twice : (n k : ℕ) (xs : List ℕ) → n ≤ k → take n (take k xs) ≡ take n xs
take_twice zero k xs l = refl
take_twice (suc n) zero xs l = absurd (omega arith)
take_twice (suc n) (suc k) [] l = refl
take_twice (suc n) (suc k) (x ∷ xs) l = ap (λ (ys : List ℕ). x ∷ ys) (take_twice n k xs (omega arith))

-- a node by its kind
module _ (m : BtorOf) (t0 t1 : Table) (o : Op) (a b s y : List ℕ) (most : ℕ) (btor : IsBtor m) (seats : AreSeats m t0) (inside : AreIn t0 a) (within : AreIn t0 b) (wide : HasWidths o (length a) (length b) (length s) (length y)) (distinct : IsDistinct y) (apart : (p : ℕ) → Contains y p → Contains (a ++ (b ++ s)) p → ⊥) where
  of_kind : (k : Op) → o ≡ k → HasWidths k (length a) (length b) (length s) (length y)
  of_kind k e = subst (λ (z : Op). HasWidths z (length a) (length b) (length s) (length y)) e wide

  row_of : (c : Cycle) (k : Op) → o ≡ k → node_fn k (length y) (row_at c a) (row_at c b) (row_at c s) ≡ node_fn o (length y) (row_at c a) (row_at c b) (row_at c s)
  row_of c k e = ap (λ (z : Op). node_fn z (length y) (row_at c a) (row_at c b) (row_at c s)) (sym e)

  pub copy_done : o ≡ op.Copy → AreAliased t0 t1 y a → Gives m m t0 t1 y most (λ vs. node_fn o (length y) (row_at (cycle_of t0 vs) a) (row_at (cycle_of t0 vs) b) (row_at (cycle_of t0 vs) s))
  copy_done e is =
      let w = of_kind op.Copy e in
      gives_as m m t0 t1 y most most _ _ (aliased t0 t1 y a is (sym w.1) m most distinct btor seats inside) (omega arith) (λ vs. row_of (cycle_of t0 vs) op.Copy e)

  pub slice_done : (offset k : ℕ) → o ≡ op.Slice offset → k ≡ length a - offset → AreAliased t0 t1 y (take (length y) (take k (drop offset a)))
      → Gives m m t0 t1 y most (λ vs. node_fn o (length y) (row_at (cycle_of t0 vs) a) (row_at (cycle_of t0 vs) b) (row_at (cycle_of t0 vs) s))
  slice_done offset k e far is =
      let w = of_kind (op.Slice offset) e in
      let fits : offset + length y ≤ length a = w.2 in
      let part : take (length y) (take k (drop offset a)) ≡ take (length y) (drop offset a) = take_twice (length y) k (drop offset a) (omega arith) in
      let same : length (take (length y) (take k (drop offset a))) ≡ length y = ap (λ (ps : List ℕ). length ps) part ∙ length-take-le (length y) (drop offset a) (let d = length-drop offset a in omega arith) in
      let there : AreIn t0 (take (length y) (take k (drop offset a))) =
      all_from (λ (p : ℕ). p < length t0) (take (length y) (take k (drop offset a)))
      (λ j p at. All-contains (λ (q : ℕ). q < length t0) a p inside (in_slice (length y) k offset a p (contained_at (take (length y) (take k (drop offset a))) p j at))) in
      gives_as m m t0 t1 y most most _ _ (aliased t0 t1 y (take (length y) (take k (drop offset a))) is same m most distinct btor seats there) (omega arith)
      (λ vs. ap (λ (ps : List ℕ). row_at (cycle_of t0 vs) ps) part ∙ slice_row (cycle_of t0 vs) (length y) offset a ∙ row_of (cycle_of t0 vs) (op.Slice offset) e)

  pub concat_done : (t2 : Table) (low high : List ℕ) → o ≡ op.Concat → low ≡ take (length a) y → high ≡ drop (length a) y → AreAliased t0 t1 low a → AreAliased t1 t2 high b
      → Gives m m t0 t2 y most (λ vs. node_fn o (length y) (row_at (cycle_of t0 vs) a) (row_at (cycle_of t0 vs) b) (row_at (cycle_of t0 vs) s))
  concat_done t2 low high e el eh is then =
      let w = of_kind op.Concat e in
      let sum : length y ≡ length a + length b = w.3 in
      let whole : y ≡ low ++ high = sym (take-append-drop (length a) y) ∙ ap (λ (ps : List ℕ). ps ++ drop (length a) y) (sym el) ∙ ap (λ (ps : List ℕ). low ++ ps) (sym eh) in
      let low_long : length low ≡ length a = ap (λ (ps : List ℕ). length ps) el ∙ length-take-le (length a) y (omega arith) in
      let high_long : length high ≡ length b = ap (λ (ps : List ℕ). length ps) eh ∙ length-drop (length a) y ∙ (let z : length y - length a ≡ length b = omega arith in z) in
      let low_distinct : IsDistinct low = λ i j p x z. distinct i j p (subst (λ (ps : List ℕ). slice_get ps i ≡ Some p) (sym whole) (app_left low high i p x)) (subst (λ (ps : List ℕ). slice_get ps j ≡ Some p) (sym whole) (app_left low high j p z)) in
      let high_at : (k p : ℕ) → slice_get high k ≡ Some p → slice_get y (length low + k) ≡ Some p = λ k p x. subst (λ (ps : List ℕ). slice_get ps (length low + k) ≡ Some p) (sym whole) (app_right low high k (length low + k) refl ∙ x) in
      let high_distinct : IsDistinct high = λ i j p x z. let same = distinct (length low + i) (length low + j) p (high_at i p x) (high_at j p z) in omega arith in
      let g = aliased t0 t1 low a is (sym low_long) m 0 low_distinct btor seats inside in
      let h = aliased t1 t2 high b then (sym high_long) m 0 high_distinct btor g.seats (still_in t0 t1 b g.size within) in
      gives_as m m t0 t2 y most most _ _
      (two_moves m t0 t1 t2 low high y a b whole distinct (λ p x z. apart p x (contains_right a (b ++ s) p (contains_left b s p z))) most g h) (omega arith)
      (λ vs. row_of (cycle_of t0 vs) op.Concat e)
