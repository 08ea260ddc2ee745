-- What a model's parts are to a player.
use Rattle.std.proofs.Common.{◌≡◌, ℕ, zero, suc, ◌+◌, ◌-◌, ◌<◌, ◌≤◌, Bool, true, false, List, [], ◌∷◌, ◌++◌, Some, refl, sym, ap, ◌∙◌, subst, inl, inr, arith, length, get_or, take, set, replicate, None, Option, drop, drop-cons, add-one, append_assoc, length-append}
use Rattle.std.specs.Prelude.{slice_get, Contains}
use Rattle.std.specs.List.{flat_map}
use borrow.Rule.Slice.PartMut.{put_mid}
use Rattle.std.proofs.lemmas.Slice.{take-put_mid}
use Rattle.std.proofs.lemmas.List.{take_more_set, get_or-replicate, get_or-set_other, get_or-set_same, length-replicate, length-set}
use Rattle.std.proofs.lemmas.List.Folds.{length-flat_map-take}
use Rattle.std.proofs.lemmas.Option.{get_or_from_slice_get, slice_get_within}
use Rattle.sby_bits.specs.Rows.{Row}
use Rattle.cell_table.specs.declared.kind.Unary.{Unary}
use Rattle.cell_table.specs.declared.kind.Unary.TheVariants.{Not, Pos, Neg}
use Rattle.cell_table.specs.declared.kind.Binary.{Binary}
use Rattle.cell_table.specs.declared.kind.Binary.TheVariants.{And, Or, Xor, Xnor, Add, Sub, Mul}
use Rattle.cell_table.specs.declared.kind.Compare.{Compare}
use Rattle.cell_table.specs.declared.kind.Compare.TheVariants.{Eq, Ne, Eqx, Nex, Lt, Le, Gt, Ge}
use Rattle.model_core.specs.Choices.{start_row, without_digit}
use Rattle.model_core.specs.Meaning.{Cycle, Frame, next_row, node_fn, row_at, row_of_node}
use Rattle.model_core.specs.Served.{HasWidths, IsModel, IsNode, binary_limit, compare_limit, unary_limit}
use Rattle.model_core.specs.Shape.{AreBelow, IsDistinct, IsRegister, ModelOf, NodeOf, RegisterOf, given, sources, states}
use Rattle.model_core.specs.declared.op.Op.{Op}
use Rattle.model_core.specs.declared.op.Op.TheVariants as op
use Rattle.model_core.proofs.Fitting.{node_rows_fit}
use Rattle.model_core.proofs.Frames.{gives_below, node_same, open_source, reads_below, source_below}
use Rattle.model_core.proofs.Lists.{all_at, app_left, app_right, below_or_last, contained_at, contains_left, contains_right, flat_more, place_of_contained}
use Rattle.model_core.proofs.Runs.{open_distinct}
use Rattle.model_core.proofs.Writing.{fresh, known, known_more, output_distinct, row_same, stays}
use Rattle.model_play.specs.Players.{IsTable}
use Rattle.model_play.specs.Playing.{cycle_of}
use Rattle.model_play.proofs.Tables.{all_of}

-- the first nodes have what they give, and the sources what they had
pub record AreDriven (m : ModelOf) (i : ℕ) (old new : Row) : Type 0 where
  pub driven : (j : ℕ) (n : NodeOf) → j < i → slice_get m.nodes j ≡ Some n → row_at (cycle_of new) n.y ≡ row_of_node (cycle_of new) n
  pub kept : (p : ℕ) → Contains (sources m) p → cycle_of new p ≡ cycle_of old p

pub Driven-none : (m : ModelOf) (old : Row) → AreDriven m 0 old old
Driven-none m old = record { driven = λ j n l e. absurd (omega arith); kept = λ p h. refl }

-- a register's places are among those of the state bits
in_states : (rs : List RegisterOf) (i : ℕ) (r : RegisterOf) → slice_get rs i ≡ Some r → (p : ℕ) → Contains r.q p → Contains (flat_map (λ k. k.q) rs) p
in_states [] i r g p h = absurd (let z : None ≡ Some r = g in cc)
in_states (k ∷ rs) zero r g p h = let z : r ≡ k = cc in contains_left k.q (flat_map (λ k. k.q) rs) p (subst (λ (n : RegisterOf). Contains n.q p) z h)
in_states (k ∷ rs) (suc i) r g p h = contains_right k.q (flat_map (λ k. k.q) rs) p (in_states rs i r g p h)

-- What a cycle leaves: a table of the model, whose rows are those that were held and came in.
pub record IsTurn (m : ModelOf) (was ins new : Row) : Type 0 where
  pub table : IsTable m new
  pub frame : Frame m (cycle_of new)
  pub held : row_at (cycle_of new) (states m) ≡ was
  pub inputs : row_at (cycle_of new) m.inputs ≡ ins

module _ (m : ModelOf) (is : IsModel m) where
  module _ (i : ℕ) (n : NodeOf) (e : slice_get m.nodes i ≡ Some n) (size : ℕ) (ps : List ℕ) (es : size ≡ m.size) where
    pub a_below : ps ≡ n.a → AreBelow size ps
    a_below ep = rw (es, ep) (all_of m.size n.a (λ p h. reads_below m is i n e p (contains_left n.a (n.b ++ n.s) p h)))

    pub b_below : ps ≡ n.b → AreBelow size ps
    b_below ep = rw (es, ep) (all_of m.size n.b (λ p h. reads_below m is i n e p (contains_right n.a (n.b ++ n.s) p (contains_left n.b n.s p h))))

    pub s_below : ps ≡ n.s → AreBelow size ps
    s_below ep = rw (es, ep) (all_of m.size n.s (λ p h. reads_below m is i n e p (contains_right n.a (n.b ++ n.s) p (contains_right n.b n.s p h))))

    pub y_below : ps ≡ n.y → AreBelow size ps
    y_below ep = rw (es, ep) (all_of m.size n.y (λ p h. gives_below m is i n e p h))

  pub y_distinct : (i : ℕ) (n : NodeOf) (ps : List ℕ) → slice_get m.nodes i ≡ Some n → ps ≡ n.y → IsDistinct ps
  y_distinct i n ps e ep = subst (λ (qs : List ℕ). IsDistinct qs) (sym ep) (output_distinct m is i n e)

  pub widths : (i : ℕ) (n : NodeOf) (o : Op) (a b s y : ℕ) → slice_get m.nodes i ≡ Some n → o ≡ n.op → a ≡ length n.a → b ≡ length n.b → s ≡ length n.s → y ≡ length n.y → HasWidths o a b s y
  widths i n o a b s y e eo ea eb es ey = rw (eo, ea, eb, es, ey) (all_at IsNode m.nodes i n is.nodes e)

  pub register_at : (i : ℕ) (r : RegisterOf) → slice_get m.registers i ≡ Some r → IsRegister m.size r
  register_at i r e = all_at (IsRegister m.size) m.registers i r is.registers e

  pub states_below : (size : ℕ) (ps : List ℕ) → size ≡ m.size → ps ≡ states m → AreBelow size ps
  states_below size ps es ep = rw (es, ep) (all_of m.size (states m) (λ p h. source_below m is p (open_source m is p (contains_left (states m) m.inputs p h))))

  pub inputs_below : (size : ℕ) (ps : List ℕ) → size ≡ m.size → ps ≡ m.inputs → AreBelow size ps
  inputs_below size ps es ep = rw (es, ep) (all_of m.size m.inputs (λ p h. source_below m is p (open_source m is p (contains_right (states m) m.inputs p h))))

  pub q_below : (i : ℕ) (r : RegisterOf) → slice_get m.registers i ≡ Some r → AreBelow m.size r.q
  q_below i r e = all_of m.size r.q (λ p h. source_below m is p (open_source m is p (contains_left (states m) m.inputs p (in_states m.registers i r e p h))))

  pub register_room : (i : ℕ) (r : RegisterOf) → slice_get m.registers i ≡ Some r → length (flat_map (λ k. k.q) (take i m.registers)) + length r.q ≤ length (states m)
  register_room i r e =
      let l = slice_get_within m.registers i r e in
      let same = ap (λ (k : RegisterOf). length k.q) (get_or_from_slice_get m.registers i r r e) in
      let room = length-flat_map-take (λ (k : RegisterOf). k.q) m.registers i r l in
      omega (arith, same, room)

  later : (j i p : ℕ) → j ≤ i → i ≤ length m.nodes → Contains (known m is j) p → Contains (known m is i) p
  later j i p l h g = let z : i ≡ j + (i - j) = omega arith in (stays m is (λ q. false) j (i - j) i p z h g).0

  pub Driven-more : (i : ℕ) (n : NodeOf) (old mid new : Row) → slice_get m.nodes i ≡ Some n → AreDriven m i old mid → row_at (cycle_of new) n.y ≡ row_of_node (cycle_of mid) n
      → ((p : ℕ) → (Contains n.y p → ⊥) → cycle_of new p ≡ cycle_of mid p) → AreDriven m (i + 1) old new
  Driven-more i n old mid new e was row others =
      let l = slice_get_within m.nodes i n e in
      let same : (p : ℕ) → Contains (known m is i) p → cycle_of new p ≡ cycle_of mid p = λ p h. others p (fresh m is i n p e h) in
      record {
        driven = λ j k lt at. elim (below_or_last j i lt) as (λ _. row_at (cycle_of new) k.y ≡ row_of_node (cycle_of new) k) [
          | inl below ↦
              row_same (cycle_of new) (cycle_of mid) k.y
              (λ p h. same p (later (suc j) i p (omega arith) (omega arith) (subst (λ (ps : List ℕ). Contains ps p) (sym (known_more m is j k at)) (contains_right (known m is j) k.y p h))))
              ∙ was.driven j k below at
              ∙ sym (node_same (cycle_of new) (cycle_of mid) k (λ p h. same p (later j i p (omega arith) (omega arith) (is.order j k at p h))))
          | inr here ↦
              let same_node : k ≡ n = let z : slice_get m.nodes i ≡ Some k = subst (λ (x : ℕ). slice_get m.nodes x ≡ Some k) here at in cc in
              subst (λ (x : NodeOf). row_at (cycle_of new) x.y ≡ row_of_node (cycle_of new) x) (sym same_node)
              (row ∙ sym (node_same (cycle_of new) (cycle_of mid) n (λ p h. same p (is.order i n e p h))))
        ];
        kept = λ p h. same p (contains_left (sources m) (given (take i m.nodes)) p h) ∙ was.kept p h;
      }

  -- the places of the constants are none of the state bits and none of the inputs
  constant_place : (k p : ℕ) → k < 2 → slice_get (sources m) k ≡ Some p → Contains (states m ++ m.inputs) p → ⊥
  constant_place k p l e h =
      let at = place_of_contained (states m ++ m.inputs) p h in
      let same : k ≡ suc (suc at.0) = is.once k (suc (suc at.0)) p (app_left (sources m) (given m.nodes) k p e) (app_left (sources m) (given m.nodes) (suc (suc at.0)) p at.1) in
      omega arith

  pub states_distinct : (ps : List ℕ) → ps ≡ states m → IsDistinct ps
  states_distinct ps e = subst (λ (qs : List ℕ). IsDistinct qs) (sym e) (λ i j p a b. open_distinct m is i j p (app_left (states m) m.inputs i p a) (app_left (states m) m.inputs j p b))

  pub inputs_distinct : (ps : List ℕ) → ps ≡ m.inputs → IsDistinct ps
  inputs_distinct ps e = subst (λ (qs : List ℕ). IsDistinct qs) (sym e) (λ i j p a b.
      let same = open_distinct m is (length (states m) + i) (length (states m) + j) p (app_right (states m) m.inputs i (length (states m) + i) refl ∙ a) (app_right (states m) m.inputs j (length (states m) + j) refl ∙ b) in
      omega arith)

  apart : (p : ℕ) → Contains (states m) p → Contains m.inputs p → ⊥
  apart p h g =
      let a = place_of_contained (states m) p h in
      let b = place_of_contained m.inputs p g in
      let l = slice_get_within (states m) a.0 p a.1 in
      let same = open_distinct m is a.0 (length (states m) + b.0) p (app_left (states m) m.inputs a.0 p a.1) (app_right (states m) m.inputs b.0 (length (states m) + b.0) refl ∙ b.1) in
      omega arith

  -- a cycle that is played: state bits, then inputs, then nodes
  module _ (old low mid new held ins : Row) (t : IsTable m old) (ls : length new ≡ length old)
      (wl : row_at (cycle_of low) (states m) ≡ held) (ol : (p : ℕ) → (Contains (states m) p → ⊥) → cycle_of low p ≡ cycle_of old p)
      (wm : row_at (cycle_of mid) m.inputs ≡ ins) (om : (p : ℕ) → (Contains m.inputs p → ⊥) → cycle_of mid p ≡ cycle_of low p)
      (nodes : (i : ℕ) (n : NodeOf) → slice_get m.nodes i ≡ Some n → row_at (cycle_of new) n.y ≡ row_of_node (cycle_of new) n)
      (kept : (p : ℕ) → Contains (sources m) p → cycle_of new p ≡ cycle_of mid p) where
    constant_kept : (k p : ℕ) → k < 2 → slice_get (sources m) k ≡ Some p → cycle_of new p ≡ cycle_of old p
    constant_kept k p l e =
        kept p (contained_at (sources m) p k e) ∙ om p (λ h. constant_place k p l e (contains_right (states m) m.inputs p h))
        ∙ ol p (λ h. constant_place k p l e (contains_left (states m) m.inputs p h))

    table : IsTable m new
    table = record { size = ls ∙ t.size; zero = constant_kept 0 m.zero (omega arith) refl ∙ t.zero; one = constant_kept 1 (suc m.zero) (omega arith) refl ∙ t.one }

    pub turned : IsTurn m held ins new
    turned = record {
      table = table;
      frame = record { zero = table.zero; one = table.one; nodes = nodes };
      held =
          row_same (cycle_of new) (cycle_of low) (states m) (λ p h. kept p (open_source m is p (contains_left (states m) m.inputs p h)) ∙ om p (λ g. apart p h g)) ∙ wl;
      inputs = row_same (cycle_of new) (cycle_of mid) m.inputs (λ p h. kept p (open_source m is p (contains_right (states m) m.inputs p h))) ∙ wm;
    }

  -- a first table
  pub first_table : (old : Row) (size q : ℕ) → size ≡ m.size → old ≡ replicate size false → q ≡ m.zero + 1 → IsTable m (set old q true)
  first_table old size q es e eq = record {
    size = length-set old q true ∙ wide;
    zero = get_or-set_other old q m.zero true false (λ z. absurd (omega arith)) ∙ rw e (get_or-replicate size m.zero false false (omega (arith, source_below m is m.zero (contained_at (sources m) m.zero 0 refl))));
    one = rw one_at (get_or-set_same old q true false (omega (arith, wide, source_below m is (suc m.zero) (contained_at (sources m) (suc m.zero) 1 refl))));
  }
    where
      one_at : suc m.zero ≡ q
      one_at = omega arith

      wide : length old ≡ m.size
      wide = rw e (length-replicate size false) ∙ es

-- a node by its parts
pub node_is : (c : Cycle) (n : NodeOf) (o : Op) (a b s : List ℕ) (y : ℕ) (row : Row) → o ≡ n.op → a ≡ n.a → b ≡ n.b → s ≡ n.s → y ≡ length n.y
    → node_fn o y (row_at c a) (row_at c b) (row_at c s) ≡ row → row_of_node c n ≡ row
node_is c n o a b s y row eo ea eb es ey h = rw (← eo, ← ea, ← eb, ← es, ← ey) h

-- each row of a node has at most 4096 bits
most_unary : (k : Unary) → unary_limit k ≤ 4096
most_unary Not = omega arith
most_unary Pos = omega arith
most_unary Neg = omega arith

most_binary : (k : Binary) → binary_limit k ≤ 4096
most_binary And = omega arith
most_binary Or = omega arith
most_binary Xor = omega arith
most_binary Xnor = omega arith
most_binary Add = omega arith
most_binary Sub = omega arith
most_binary Mul = omega arith

most_compare : (k : Compare) → compare_limit k ≤ 4096
most_compare Eq = omega arith
most_compare Ne = omega arith
most_compare Eqx = omega arith
most_compare Nex = omega arith
most_compare Lt = omega arith
most_compare Le = omega arith
most_compare Gt = omega arith
most_compare Ge = omega arith

pub record AreNarrow (a b s y : ℕ) : Type 0 where
  pub at_a : a ≤ 4096
  pub at_b : b ≤ 4096
  pub at_s : s ≤ 4096
  pub at_y : y ≤ 4096

pub narrow : (o : Op) (a b s y : ℕ) → HasWidths o a b s y → AreNarrow a b s y
narrow op.Copy a b s y h = record { at_a = omega arith; at_b = omega arith; at_s = omega arith; at_y = omega arith }
narrow (op.Unary k signed) a b s y h = let l = most_unary k in record { at_a = omega arith; at_b = omega arith; at_s = omega arith; at_y = omega arith }
narrow (op.Binary k signed) a b s y h = let l = most_binary k in record { at_a = omega arith; at_b = omega arith; at_s = omega arith; at_y = omega arith }
narrow (op.Reduce k) a b s y h = record { at_a = omega arith; at_b = omega arith; at_s = omega arith; at_y = omega arith }
narrow (op.Logic k) a b s y h = record { at_a = omega arith; at_b = omega arith; at_s = omega arith; at_y = omega arith }
narrow (op.Compare k signed) a b s y h = let l = most_compare k in record { at_a = omega arith; at_b = omega arith; at_s = omega arith; at_y = omega arith }
narrow (op.ShiftLeft signed) a b s y h = record { at_a = omega arith; at_b = omega arith; at_s = omega arith; at_y = omega arith }
narrow (op.ShiftRight signed) a b s y h = record { at_a = omega arith; at_b = omega arith; at_s = omega arith; at_y = omega arith }
narrow (op.ShiftSign signed) a b s y h = record { at_a = omega arith; at_b = omega arith; at_s = omega arith; at_y = omega arith }
narrow (op.ShiftAny signed by) a b s y h = record { at_a = omega arith; at_b = omega arith; at_s = omega arith; at_y = omega arith }
narrow (op.Divide k signed) a b s y h = record { at_a = omega arith; at_b = omega arith; at_s = omega arith; at_y = omega arith }
narrow op.Mux a b s y h = record { at_a = omega arith; at_b = omega arith; at_s = omega arith; at_y = omega arith }
narrow op.Pmux a b s y h = record { at_a = omega arith; at_b = omega arith; at_s = omega arith; at_y = omega arith }
narrow op.Bmux a b s y h = record { at_a = omega arith; at_b = omega arith; at_s = omega arith; at_y = omega arith }
narrow (op.Slice offset) a b s y h = record { at_a = omega arith; at_b = omega arith; at_s = omega arith; at_y = omega arith }
narrow op.Concat a b s y h = record { at_a = omega arith; at_b = omega arith; at_s = omega arith; at_y = omega arith }

-- the row that was written is what the node gives
pub row_is : (c new : Cycle) (n : NodeOf) (o : Op) (a b s y : List ℕ) (w : ℕ) (ra rb rs row : Row) → o ≡ n.op → a ≡ n.a → b ≡ n.b → s ≡ n.s → y ≡ n.y → w ≡ length y
    → ra ≡ row_at c a → rb ≡ row_at c b → rs ≡ row_at c s → row ≡ node_fn o w ra rb rs → row_at new y ≡ row → row_at new n.y ≡ row_of_node c n
row_is c new n o a b s y w ra rb rs row eo ea eb es ey ew ga gb gs gr h =
    rw (← eo, ← ea, ← eb, ← es, ← ey) (h ∙ gr ∙ (rw (ew, ga, gb, gs) refl))

-- a node whose row is one bit has one place
pub one_place : (c : Cycle) (n : NodeOf) (x : Bool) → IsNode n → row_of_node c n ≡ x ∷ [] → length n.y ≡ 1
one_place c n x h e = sym (node_rows_fit c n h) ∙ ap (λ (row : Row). length row) e

-- the rows of one more register stand after the others
pub rows_step : (regs : List RegisterOf) (i : ℕ) (r : RegisterOf) (c : Cycle) (end n k : ℕ) (held row : Row) → slice_get regs i ≡ Some r → end ≡ length (flat_map (λ q. q.q) (take i regs))
    → take end held ≡ flat_map (next_row c) (take i regs) → end ≤ length held → row ≡ next_row c r → length row ≡ length r.q → n ≡ end + length r.q
    → (n ≡ length (flat_map (λ q. q.q) (take (i + 1) regs))) × (take n (put_mid end k held row) ≡ flat_map (next_row c) (take (i + 1) regs))
rows_step regs i r c end n k held row e ee eh le er el en =
    let places = ap (λ (ps : List ℕ). length ps) (flat_more (λ (q : RegisterOf). q.q) regs i r e) in
    let sum = length-append (flat_map (λ (q : RegisterOf). q.q) (take i regs)) r.q in
    rw add-one (
      omega (arith, places, sum, ee, en),
      take-put_mid end k held row n (omega arith) le ∙ ap (λ (xs : Row). xs ++ row) eh ∙ ap (λ (xs : Row). flat_map (next_row c) (take i regs) ++ xs) er ∙ sym (flat_more (next_row c) regs i r e),
    )

-- start bits, one after the other
pub bit_left : (ps : List ℕ) (ds : List (Option Bool)) (k : ℕ) → k < length ds → length ds ≡ length ps → get_or ds k None ≡ None → 0 < length (without_digit (drop k ps) (drop k ds))
bit_left ps ds k l w e = let lp : k < length ps = omega arith in rw (drop-cons ds k None l, drop-cons ps k 0 lp, e) (omega arith)

pub starts_step : (ps : List ℕ) (ds : List (Option Bool)) (bits held rest next : Row) (k : ℕ) (b : Bool) → k < length ds → length ds ≡ length ps → k < length held
    → start_row ds bits ≡ take k held ++ start_row (drop k ds) rest
    → ((digits : List (Option Bool)) → start_row (get_or ds k None ∷ digits) rest ≡ b ∷ start_row digits next)
    → start_row ds bits ≡ take (k + 1) (set held k b) ++ start_row (drop (k + 1) ds) next
starts_step ps ds bits held rest next k b l w h e f =
    e ∙ ap (λ (xs : List (Option Bool)). take k held ++ start_row xs rest) (drop-cons ds k None l) ∙ ap (λ (xs : Row). take k held ++ xs) (f (drop (suc k) ds))
    ∙ (rw (take_more_set held k b h, add-one, append_assoc) refl)

pub left_step : (ps : List ℕ) (ds : List (Option Bool)) (rest next : Row) (k : ℕ) → k < length ds → length ds ≡ length ps
    → length rest ≡ length (without_digit (drop k ps) (drop k ds))
    → ((p : ℕ) (qs : List ℕ) (digits : List (Option Bool)) → length rest ≡ length (without_digit (p ∷ qs) (get_or ds k None ∷ digits)) → length next ≡ length (without_digit qs digits))
    → length next ≡ length (without_digit (drop (k + 1) ps) (drop (k + 1) ds))
left_step ps ds rest next k l w e f =
    let lp : k < length ps = omega arith in
    let split : length (without_digit (drop k ps) (drop k ds)) ≡ length (without_digit (get_or ps k 0 ∷ drop (suc k) ps) (get_or ds k None ∷ drop (suc k) ds)) = rw (drop-cons ds k None l, drop-cons ps k 0 lp) refl in
    rw add-one (f (get_or ps k 0) (drop (suc k) ps) (drop (suc k) ds) (e ∙ split))
