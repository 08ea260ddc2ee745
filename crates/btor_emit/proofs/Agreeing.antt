-- Cycles that are the same at state bits and at the inputs that are read: they say the same.
use Rattle.std.proofs.Common.{◌≡◌, ◌⊎◌, ℕ, zero, suc, ◌<◌, ◌≤◌, Bool, false, cond, List, [], ◌∷◌, ◌++◌, Some, None, length, get_or, refl, sym, ap, subst, ◌∙◌, inl, inr, arith}
use Rattle.std.specs.Prelude.{Contains, slice_get}
use Rattle.std.specs.List.{flat_map}
use Rattle.std.proofs.lemmas.List.Elements.{All-contains}
use Rattle.std.proofs.lemmas.Option.{slice_get_within}
use Rattle.sby_bits.specs.Rows.{Row}
use Rattle.cell_table.specs.Cells.{same_bit}
use Rattle.btor_emit.specs.Goals.{IsGoal}
use Rattle.btor_emit.specs.Reads.{IsRead, IsUsed, register_reads}
use Rattle.btor_emit.specs.declared.goal.Goal.{Goal}
use Rattle.btor_emit.specs.declared.goal.Goal.TheVariants as goal
use Rattle.btor_emit.proofs.Gathering.{bit_of_row}
use Rattle.model_core.specs.Meaning.{Assumed, Broken, Cycle, Follows, Frame, Reached, Starts, next_row, node_fn, row_at}
use Rattle.model_core.specs.Served.{HasWidths, IsModel, IsNode}
use Rattle.model_core.specs.Shape.{IsRegister, IsStatement, ModelOf, NodeOf, RegisterOf, sources, states}
use Rattle.model_core.specs.declared.model.Statement.{Statement}
use Rattle.model_core.specs.declared.op.Op.{Op}
use Rattle.model_core.specs.declared.op.Op.TheVariants as op
use Rattle.model_core.proofs.Frames.{all_known, node_same}
use Rattle.model_core.proofs.Lists.{all_at, at_place, contained_at, contains_either, contains_left, contains_right, place_of_contained}
use Rattle.model_core.proofs.Writing.{bit_same, known, known_more, row_same}

copy_or_not : (o : Op) → (o ≡ op.Copy) ⊎ (o ≡ op.Copy → ⊥)
copy_or_not op.Copy = inl refl
copy_or_not (op.Unary k signed) = inr (λ e. cc)
copy_or_not (op.Binary k signed) = inr (λ e. cc)
copy_or_not (op.Reduce k) = inr (λ e. cc)
copy_or_not (op.Logic k) = inr (λ e. cc)
copy_or_not (op.Compare k signed) = inr (λ e. cc)
copy_or_not (op.ShiftLeft signed) = inr (λ e. cc)
copy_or_not (op.ShiftRight signed) = inr (λ e. cc)
copy_or_not (op.ShiftSign signed) = inr (λ e. cc)
copy_or_not (op.ShiftAny signed by_signed) = inr (λ e. cc)
copy_or_not (op.Divide k signed) = inr (λ e. cc)
copy_or_not op.Mux = inr (λ e. cc)
copy_or_not op.Pmux = inr (λ e. cc)
copy_or_not op.Bmux = inr (λ e. cc)
copy_or_not (op.Slice offset) = inr (λ e. cc)
copy_or_not op.Concat = inr (λ e. cc)

-- a register's next row by the rows and bits that it reads
abbrev next_of : RegisterOf → Row → Row → Row → Bool → Bool → Row
next_of r q d v a b =
    cond r.reset_first (cond (same_bit b r.reset.level) v (cond (same_bit a r.enable.level) d q)) (cond (same_bit a r.enable.level) (cond (same_bit b r.reset.level) v d) q)

pub of_register : (rs : List RegisterOf) (k : ℕ) (r : RegisterOf) (p : ℕ) → slice_get rs k ≡ Some r → Contains r.q p → Contains (flat_map (λ r. r.q) rs) p
of_register [] k r p at i = absurd (let c : None ≡ Some r = at in cc)
of_register (x ∷ rs) zero r p at i =
    let e : r ≡ x = (let s : x ≡ r = cc in sym s) in
    contains_left x.q (flat_map (λ (y : RegisterOf). y.q) rs) p (subst (λ (y : RegisterOf). Contains y.q p) e i)
of_register (x ∷ rs) (suc k) r p at i = contains_right x.q (flat_map (λ (y : RegisterOf). y.q) rs) p (of_register rs k r p at i)

module _ (m : ModelOf) (is : IsModel m) (inputs : List ℕ) (read_input : (p : ℕ) → Contains m.inputs p → IsRead m p → Contains inputs p) where
  used_read : (p : ℕ) → IsUsed m p → IsRead m p
  used_read p u = (0, p, refl, u)

  module _ (c e : Cycle) (fc : Frame m c) (fe : Frame m e) (h : row_at c (states m ++ inputs) ≡ row_at e (states m ++ inputs)) where
    pub state_same : (p : ℕ) → Contains (states m) p → c p ≡ e p
    state_same p i = bit_same c e (states m ++ inputs) p h (contains_left (states m) inputs p i)

    source_same : (p : ℕ) → Contains (sources m) p → IsRead m p → c p ≡ e p
    source_same p g r = let at = place_of_contained (sources m) p g in by at.0 at.1
      where
        by : (k : ℕ) → slice_get (sources m) k ≡ Some p → c p ≡ e p
        by zero z = let q : m.zero ≡ p = cc in subst (λ (x : ℕ). c x ≡ e x) q (fc.zero ∙ sym fe.zero)
        by (suc zero) z = let q : suc m.zero ≡ p = cc in subst (λ (x : ℕ). c x ≡ e x) q (fc.one ∙ sym fe.one)
        by (suc (suc k)) z =
            elim (contains_either (states m) m.inputs p (contained_at (states m ++ m.inputs) p k z)) as (λ _. c p ≡ e p) [
              | inl s ↦ state_same p s
              | inr s ↦ bit_same c e (states m ++ inputs) p h (contains_right (states m) inputs p (read_input p s r))
            ]

    known_same : (i : ℕ) → i ≤ length m.nodes → (p : ℕ) → Contains (known m is i) p → IsRead m p → c p ≡ e p
    known_same zero l p g r = elim (contains_either (sources m) [] p g) as (λ _. c p ≡ e p) [
      | inl a ↦ source_same p a r
      | inr a ↦ absurd (let b = a.1 in omega arith)
    ]
    known_same (suc i) l p g r =
        let n = at_place m.nodes i (omega arith) in
        elim (contains_either (known m is i) n.0.y p (subst (λ (ps : List ℕ). Contains ps p) (known_more m is i n.0 n.1) g)) as (λ _. c p ≡ e p) [
          | inl a ↦ known_same i (omega arith) p a r
          | inr a ↦ by (λ q h u. known_same i (omega arith) q h u) n.0 n.1 a (copy_or_not n.0.op)
        ]
      where
        by : ((q : ℕ) → Contains (known m is i) q → IsRead m q → c q ≡ e q) → (n : NodeOf) → slice_get m.nodes i ≡ Some n → Contains n.y p → (n.op ≡ op.Copy) ⊎ (n.op ≡ op.Copy → ⊥) → c p ≡ e p
        by earlier n at a (inl copy) =
            let j = place_of_contained n.y p a in
            let wide = all_at IsNode m.nodes i n is.nodes at in
            let long : length n.y ≡ length n.a = (subst (λ (o : Op). HasWidths o (length n.a) (length n.b) (length n.s) (length n.y)) copy wide).1 in
            let q = at_place n.a j.0 (let b = slice_get_within n.y j.0 p j.1 in omega arith) in
            let copied : IsRead m q.0 = (suc r.0, r.1, (p, (i, j.0, n, at, copy, q.1, j.1), r.2), r.3) in
            let before : c q.0 ≡ e q.0 = earlier q.0 (is.order i n at q.0 (contains_left n.a (n.b ++ n.s) q.0 (contained_at n.a q.0 j.0 q.1))) copied in
            let row : (d : Cycle) → Frame m d → row_at d n.y ≡ row_at d n.a = λ d f. f.nodes i n at ∙ ap (λ (o : Op). node_fn o (length n.y) (row_at d n.a) (row_at d n.b) (row_at d n.s)) copy in
            let bit : (d : Cycle) → Frame m d → d p ≡ d q.0 = λ d f. sym (bit_of_row d n.y j.0 p j.1) ∙ ap (λ (x : Row). get_or x j.0 false) (row d f) ∙ bit_of_row d n.a j.0 q.0 q.1 in
            bit c fc ∙ before ∙ sym (bit e fe)
        by earlier n at a (inr other) =
            bit_same c e n.y p
            (fc.nodes i n at ∙ node_same c e n (λ q s. earlier q (is.order i n at q s) (used_read q (inl (i, n, at, other, s)))) ∙ sym (fe.nodes i n at)) a

    pub read_same : (p : ℕ) → p < m.size → IsRead m p → c p ≡ e p
    read_same p l r = known_same (length m.nodes) (omega arith) p (all_known m is p l) r

    statement_same : (s : Statement) → Contains (m.asserts ++ (m.assumes ++ m.covers)) s → IsStatement m.size s → (c s.a ≡ e s.a) × (c s.en ≡ e s.en)
    statement_same s g w = (read_same s.a w.0 (used_read s.a (inr (inr (s, g, inl refl)))), read_same s.en w.1 (used_read s.en (inr (inr (s, g, inr refl)))))

    pub starts_go : Starts m c → Starts m e
    starts_go s k p x a b = sym (state_same p (contained_at (states m) p k a)) ∙ s k p x a b

    pub assumed_goes : Assumed m c → Assumed m e
    assumed_goes a i s at =
        let w = all_at (IsStatement m.size) m.assumes i s is.assumes at in
        let same = statement_same s (contains_right m.asserts (m.assumes ++ m.covers) s (contains_left m.assumes m.covers s (contained_at m.assumes s i at))) w in
        rw (← same.0, ← same.1) (a i s at)

    broken_goes : (k : ℕ) → Broken m c k → Broken m e k
    broken_goes k (s, at, en, a) =
        let w = all_at (IsStatement m.size) m.asserts k s is.asserts at in
        let same = statement_same s (contains_left m.asserts (m.assumes ++ m.covers) s (contained_at m.asserts s k at)) w in
        (s, at, sym same.1 ∙ en, sym same.0 ∙ a)

    reached_goes : (k : ℕ) → Reached m c k → Reached m e k
    reached_goes k (s, at, en, a) =
        let w = all_at (IsStatement m.size) m.covers k s is.covers at in
        let same = statement_same s (contains_right m.asserts (m.assumes ++ m.covers) s (contains_right m.assumes m.covers s (contained_at m.covers s k at))) w in
        (s, at, sym same.1 ∙ en, sym same.0 ∙ a)

    pub goal_goes : (g : Goal) (k : ℕ) → IsGoal m g c k → IsGoal m g e k
    goal_goes goal.Asserts k b = broken_goes k b
    goal_goes (goal.Cover j) k b = (b.0, reached_goes j b.1)

    register_row : (r : RegisterOf) → Contains m.registers r → (ps : List ℕ) → ((p : ℕ) → Contains ps p → p < m.size) → ((p : ℕ) → Contains ps p → Contains (register_reads r) p) → row_at c ps ≡ row_at e ps
    register_row r g ps below inside = row_same c e ps (λ p i. read_same p (below p i) (used_read p (inr (inl (r, g, inside p i)))))

    pub own_same : (r : RegisterOf) → Contains m.registers r → row_at c r.q ≡ row_at e r.q
    own_same r g = row_same c e r.q (λ p i. state_same p (of_register m.registers (place_of_contained m.registers r g).0 r p (place_of_contained m.registers r g).1 i))

    pub next_same : (r : RegisterOf) → Contains m.registers r → IsRegister m.size r → next_row c r ≡ next_row e r
    next_same r g w =
        by (row_at c r.q) (row_at e r.q) (row_at c r.d) (row_at e r.d) (row_at c r.value) (row_at e r.value) (c r.enable.place) (e r.enable.place) (c r.reset.place) (e r.reset.place) (own_same r g)
        (register_row r g r.d (λ p i. All-contains (λ (q : ℕ). q < m.size) r.d p w.d_below i) (λ p i. contains_left r.d (r.value ++ controls) p i))
        (register_row r g r.value (λ p i. All-contains (λ (q : ℕ). q < m.size) r.value p w.value_below i) (λ p i. contains_right r.d (r.value ++ controls) p (contains_left r.value controls p i)))
        (bit r.enable.place w.enable (contained_at controls r.enable.place 0 refl)) (bit r.reset.place w.reset (contained_at controls r.reset.place 1 refl))
      where
        controls : List ℕ
        controls = r.enable.place ∷ r.reset.place ∷ []

        bit : (p : ℕ) → p < m.size → Contains controls p → c p ≡ e p
        bit p l i = read_same p l (used_read p (inr (inl (r, g, contains_right r.d (r.value ++ controls) p (contains_right r.value controls p i)))))

        by : (q q' d d' v v' : Row) (a a' b b' : Bool) → q ≡ q' → d ≡ d' → v ≡ v' → a ≡ a' → b ≡ b' → next_of r q d v a b ≡ next_of r q' d' v' a' b'
        by q q' d d' v v' a a' b b' eq ed ev ea eb = rw (eq, ed, ev, ea, eb) refl

  -- and two of them can follow one another where the two others can
  pub follows_go : (c e d f : Cycle) → Frame m c → Frame m e → Frame m d → Frame m f → row_at c (states m ++ inputs) ≡ row_at e (states m ++ inputs) → row_at d (states m ++ inputs) ≡ row_at f (states m ++ inputs) → Follows m c d → Follows m e f
  follows_go c e d f fc fe fd ff h g follows i r at =
      let there = contained_at m.registers r i at in
      let w = all_at (IsRegister m.size) m.registers i r is.registers at in
      sym (own_same d f fd ff g r there) ∙ follows i r at ∙ next_same c e fc fe h r there w

-- a register's next row in cycles that are the same everywhere
pub next_local : (c e : Cycle) (r : RegisterOf) → ((p : ℕ) → c p ≡ e p) → next_row c r ≡ next_row e r
next_local c e r h =
    by (row_at c r.q) (row_at e r.q) (row_at c r.d) (row_at e r.d) (row_at c r.value) (row_at e r.value) (c r.enable.place) (e r.enable.place) (c r.reset.place) (e r.reset.place) (row_same c e r.q (λ p i. h p)) (row_same c e r.d (λ p i. h p)) (row_same c e r.value (λ p i. h p)) (h r.enable.place)
    (h r.reset.place)
  where
    by : (q q' d d' v v' : Row) (a a' b b' : Bool) → q ≡ q' → d ≡ d' → v ≡ v' → a ≡ a' → b ≡ b' → next_of r q d v a b ≡ next_of r q' d' v' a' b'
    by q q' d d' v v' a a' b b' eq ed ev ea eb = rw (eq, ed, ev, ea, eb) refl
