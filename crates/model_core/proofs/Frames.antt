-- Each choice of the state bits and the inputs has a cycle, and one only.
use Rattle.std.proofs.Common.{◌≡◌, ℕ, zero, suc, ◌+◌, ◌-◌, ◌<◌, ◌≤◌, true, false, List, [], ◌∷◌, ◌++◌, Some, refl, sym, ◌∙◌, subst, inl, inr, arith, length, take}
use Rattle.std.specs.Prelude.{slice_get, Contains}
use Rattle.std.proofs.lemmas.List.Elements.{All-contains}
use Rattle.std.proofs.lemmas.Option.{slice_get_within}
use Rattle.sby_bits.specs.Rows.{Row}
use Rattle.model_core.specs.Choices.{Agree}
use Rattle.model_core.specs.Shape.{IsStatement, ModelOf, NodeOf, given, reads, sources, states}
use Rattle.model_core.specs.Meaning.{Assumed, Broken, Cycle, Frame, Reached, node_fn, row_at, row_of_node}
use Rattle.model_core.specs.Served.{IsModel, IsNode}
use Rattle.model_core.proofs.Fitting.{node_rows_fit}
use Rattle.model_core.proofs.Lists.{all_at, app_left, at_place, contained_at, contains_either, contains_left, contains_right, place_of_contained}
use Rattle.model_core.proofs.Writing.{after, after_none, after_one, bit_same, every, known, known_at_end, known_more, output_distinct, row_same, stays, written, written_other, written_row}

-- a node gives the same from the same operands
pub node_same : (c e : Cycle) (n : NodeOf) → ((p : ℕ) → Contains (reads n) p → c p ≡ e p) → row_of_node c n ≡ row_of_node e n
node_same c e n h =
    let a = row_same c e n.a (λ p i. h p (contains_left n.a (n.b ++ n.s) p i)) in
    let b = row_same c e n.b (λ p i. h p (contains_right n.a (n.b ++ n.s) p (contains_left n.b n.s p i))) in
    let s = row_same c e n.s (λ p i. h p (contains_right n.a (n.b ++ n.s) p (contains_right n.b n.s p i))) in
    by (row_at c n.a) (row_at e n.a) (row_at c n.b) (row_at e n.b) (row_at c n.s) (row_at e n.s) a b s
  where
    by : (a a' b b' s s' : Row) → a ≡ a' → b ≡ b' → s ≡ s' → node_fn n.op (length n.y) a b s ≡ node_fn n.op (length n.y) a' b' s'
    by a a' b b' s s' e f g = rw (e, f, g) refl

module _ (m : ModelOf) (is : IsModel m) where
  node_at : (i : ℕ) → i < length m.nodes → (n : NodeOf) × (slice_get m.nodes i ≡ Some n)
  node_at i l = at_place m.nodes i l

  -- every place is a source, or a node gives it
  pub all_known : (p : ℕ) → p < m.size → Contains (known m is (length m.nodes)) p
  all_known p l = subst (λ (ps : List ℕ). Contains ps p) (sym (known_at_end m is)) (is.all p l)

  pub known_below : (p : ℕ) → Contains (every m is) p → p < m.size
  known_below p h = All-contains (λ (q : ℕ). q < m.size) (every m is) p is.below h

  pub reads_below : (i : ℕ) (n : NodeOf) → slice_get m.nodes i ≡ Some n → (p : ℕ) → Contains (reads n) p → p < m.size
  reads_below i n e p h =
      let l = slice_get_within m.nodes i n e in
      let z : length m.nodes ≡ i + (length m.nodes - i) = omega arith in
      known_below p (subst (λ (ps : List ℕ). Contains ps p) (known_at_end m is) (stays m is (λ q. false) i (length m.nodes - i) (length m.nodes) p z (omega arith) (is.order i n e p h)).0)

  pub gives_below : (i : ℕ) (n : NodeOf) → slice_get m.nodes i ≡ Some n → (p : ℕ) → Contains n.y p → p < m.size
  gives_below i n e p h =
      let l = slice_get_within m.nodes i n e in
      let z : length m.nodes ≡ suc i + (length m.nodes - suc i) = omega arith in
      let here : Contains (known m is (suc i)) p = subst (λ (ps : List ℕ). Contains ps p) (sym (known_more m is i n e)) (contains_right (known m is i) n.y p h) in
      known_below p (subst (λ (ps : List ℕ). Contains ps p) (known_at_end m is) (stays m is (λ q. false) (suc i) (length m.nodes - suc i) (length m.nodes) p z (omega arith) here).0)

  pub source_below : (p : ℕ) → Contains (sources m) p → p < m.size
  source_below p h = known_below p (contains_left (sources m) (given m.nodes) p h)

  pub open_source : (p : ℕ) → Contains (states m ++ m.inputs) p → Contains (sources m) p
  open_source p h = let at = place_of_contained (states m ++ m.inputs) p h in contained_at (sources m) p (suc (suc at.0)) at.1

  -- two cycles that are the same at the state bits and the inputs
  module _ (c e : Cycle) (fc : Frame m c) (fe : Frame m e) (h : (p : ℕ) → Contains (states m ++ m.inputs) p → c p ≡ e p) where
    source_same : (p : ℕ) → Contains (sources m) p → c p ≡ e p
    source_same p g = let at = place_of_contained (sources m) p g in by at.0 at.1
      where
        by : (k : ℕ) → slice_get (sources m) k ≡ Some p → c p ≡ e p
        by zero z = let q : m.zero ≡ p = cc in subst (λ (x : ℕ). c x ≡ e x) q (fc.zero ∙ sym fe.zero)
        by (suc zero) z = let q : suc m.zero ≡ p = cc in subst (λ (x : ℕ). c x ≡ e x) q (fc.one ∙ sym fe.one)
        by (suc (suc k)) z = h p (contained_at (states m ++ m.inputs) p k z)

    known_same : (i : ℕ) → i ≤ length m.nodes → (p : ℕ) → Contains (known m is i) p → c p ≡ e p
    known_same zero l p g = elim (contains_either (sources m) [] p g) as (λ _. c p ≡ e p) [
      | inl a ↦ source_same p a
      | inr a ↦ absurd (let b = a.1 in omega arith)
    ]
    known_same (suc i) l p g =
        let n = node_at i (omega arith) in
        elim (contains_either (known m is i) n.0.y p (subst (λ (ps : List ℕ). Contains ps p) (known_more m is i n.0 n.1) g)) as (λ _. c p ≡ e p) [
          | inl a ↦ known_same i (omega arith) p a
          | inr a ↦ bit_same c e n.0.y p
              (fc.nodes i n.0 n.1 ∙ node_same c e n.0 (λ q r. known_same i (omega arith) q (is.order i n.0 n.1 q r)) ∙ sym (fe.nodes i n.0 n.1)) a
        ]

    pub frames_same : Agree m c e
    frames_same p l = known_same (length m.nodes) (omega arith) p (all_known p l)

  -- the cycle with these state bits and inputs
  abbrev pub based : Cycle → Cycle
  based c = written c (m.zero ∷ suc m.zero ∷ []) (false ∷ true ∷ [])

  abbrev pub settled : Cycle → Cycle
  settled c = after (based c) (take (length m.nodes) m.nodes)

  module _ (c : Cycle) where
    source_kept : (p : ℕ) → Contains (sources m) p → settled c p ≡ based c p
    source_kept p h =
        let z : length m.nodes ≡ 0 + length m.nodes = omega arith in
        (stays m is (based c) 0 (length m.nodes) (length m.nodes) p z (omega arith) (contains_left (sources m) [] p h)).1 ∙ after_none (based c) p

    constants_row : row_at (based c) (m.zero ∷ suc m.zero ∷ []) ≡ false ∷ true ∷ []
    constants_row = written_row c (m.zero ∷ suc m.zero ∷ []) (false ∷ true ∷ []) distinct refl
      where
        source_at : (k p : ℕ) → slice_get (m.zero ∷ suc m.zero ∷ []) k ≡ Some p → slice_get (every m is) k ≡ Some p
        source_at k p z = app_left (m.zero ∷ suc m.zero ∷ []) ((states m ++ m.inputs) ++ given m.nodes) k p z

        distinct : (i j p : ℕ) → slice_get (m.zero ∷ suc m.zero ∷ []) i ≡ Some p → slice_get (m.zero ∷ suc m.zero ∷ []) j ≡ Some p → i ≡ j
        distinct i j p a b = is.once i j p (source_at i p a) (source_at j p b)

    settled_zero : settled c m.zero ≡ false
    settled_zero = let r = constants_row in source_kept m.zero (contained_at (sources m) m.zero 0 refl) ∙ (let z : based c m.zero ≡ false = cc in z)

    settled_one : settled c (suc m.zero) ≡ true
    settled_one = let r = constants_row in source_kept (suc m.zero) (contained_at (sources m) (suc m.zero) 1 refl) ∙ (let z : based c (suc m.zero) ≡ true = cc in z)

    pub settled_open : (p : ℕ) → Contains (states m ++ m.inputs) p → settled c p ≡ c p
    settled_open p h =
        source_kept p (open_source p h) ∙ written_other c (m.zero ∷ suc m.zero ∷ []) (false ∷ true ∷ []) p (λ g. apart g)
      where
        apart : Contains (m.zero ∷ suc m.zero ∷ []) p → ⊥
        apart g =
            let a = place_of_contained (m.zero ∷ suc m.zero ∷ []) p g in
            let b = place_of_contained (states m ++ m.inputs) p h in
            let l = slice_get_within (m.zero ∷ suc m.zero ∷ []) a.0 p a.1 in
            let same : a.0 ≡ suc (suc b.0) = is.once a.0 (suc (suc b.0)) p
            (app_left (m.zero ∷ suc m.zero ∷ []) ((states m ++ m.inputs) ++ given m.nodes) a.0 p a.1) (app_left (states m ++ m.inputs) (given m.nodes) b.0 p b.1) in
            omega arith

    settled_node : (i : ℕ) (n : NodeOf) → slice_get m.nodes i ≡ Some n → row_at (settled c) n.y ≡ row_of_node (settled c) n
    settled_node i n e =
        let l = slice_get_within m.nodes i n e in
        let zi : length m.nodes ≡ i + (length m.nodes - i) = omega arith in
        let zs : length m.nodes ≡ suc i + (length m.nodes - suc i) = omega arith in
        let before : Cycle = after (based c) (take i m.nodes) in
        let operands : row_of_node (settled c) n ≡ row_of_node before n =
        node_same (settled c) before n (λ p h. (stays m is (based c) i (length m.nodes - i) (length m.nodes) p zi (omega arith) (is.order i n e p h)).1) in
        let kept : row_at (settled c) n.y ≡ row_at (after (based c) (take (suc i) m.nodes)) n.y =
        row_same (settled c) (after (based c) (take (suc i) m.nodes)) n.y
        (λ p h. (stays m is (based c) (suc i) (length m.nodes - suc i) (length m.nodes) p zs (omega arith)
        (subst (λ (ps : List ℕ). Contains ps p) (sym (known_more m is i n e)) (contains_right (known m is i) n.y p h))).1) in
        let here = row_same (after (based c) (take (suc i) m.nodes)) (written before n.y (row_of_node before n)) n.y (λ p h. after_one (based c) m.nodes i n e p) in
        kept ∙ here ∙ written_row before n.y (row_of_node before n) (output_distinct m is i n e) (node_rows_fit before n (all_at IsNode m.nodes i n is.nodes e)) ∙ sym operands

    pub settled_frame : Frame m (settled c)
    settled_frame = record { zero = settled_zero; one = settled_one; nodes = λ i n e. settled_node i n e }

    pub some_frame : (e : Cycle) × Frame m e × ((p : ℕ) → Contains (states m ++ m.inputs) p → e p ≡ c p)
    some_frame = (settled c, settled_frame, λ p h. settled_open p h)

  -- what holds of a cycle holds of each that is the same at all places
  module _ (c e : Cycle) (same : Agree m c e) where
    pub row_kept : (ps : List ℕ) → ((p : ℕ) → Contains ps p → p < m.size) → row_at c ps ≡ row_at e ps
    row_kept ps h = row_same c e ps (λ p g. same p (h p g))

    pub frame_kept : Frame m c → Frame m e
    frame_kept f = record {
      zero = sym (same m.zero (source_below m.zero (contained_at (sources m) m.zero 0 refl))) ∙ f.zero;
      one = sym (same (suc m.zero) (source_below (suc m.zero) (contained_at (sources m) (suc m.zero) 1 refl))) ∙ f.one;
      nodes = λ i n at. sym (row_kept n.y (λ p h. gives_below i n at p h)) ∙ f.nodes i n at ∙ node_same c e n (λ p h. same p (reads_below i n at p h));
    }

    pub assumed_kept : Assumed m c → Assumed m e
    assumed_kept a i s at =
        let w = all_at (IsStatement m.size) m.assumes i s is.assumes at in
        let x = same s.a w.0 in
        let y = same s.en w.1 in
        rw (← x, ← y) (a i s at)

    pub broken_kept : (k : ℕ) → Broken m c k → Broken m e k
    broken_kept k (s, at, en, a) = let w = all_at (IsStatement m.size) m.asserts k s is.asserts at in (s, at, sym (same s.en w.1) ∙ en, sym (same s.a w.0) ∙ a)

    pub reached_kept : (k : ℕ) → Reached m c k → Reached m e k
    reached_kept k (s, at, en, a) = let w = all_at (IsStatement m.size) m.covers k s is.covers at in (s, at, sym (same s.en w.1) ∙ en, sym (same s.a w.0) ∙ a)
