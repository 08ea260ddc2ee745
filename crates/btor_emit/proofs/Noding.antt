-- Nodes, one after the other.
use Rattle.std.proofs.Common.{◌≡◌, ℕ, suc, ◌+◌, ◌*◌, ◌-◌, ◌<◌, ◌≤◌, false, List, [], ◌++◌, Some, length, take, refl, sym, ap, subst, ◌∙◌, inl, inr, arith, length-append}
use Rattle.std.specs.Prelude.{Contains, slice_get}
use Rattle.std.specs.List.{flat_map}
use Rattle.std.proofs.lemmas.Bool.{cases_lt}
use Rattle.std.proofs.lemmas.Option.{slice_get_within}
use Rattle.btor_core.specs.Fits.{IsBtor}
use Rattle.btor_core.specs.Shape.{BtorOf}
use Rattle.btor_core.proofs.Choosing.{front_holds}
use Rattle.btor_core.proofs.Growing.{grows_same, keeps_same}
use Rattle.btor_words.proofs.Emitting.{both}
use Rattle.btor_emit.specs.Emitting.{Gives}
use Rattle.btor_emit.specs.Nodes.{AreDone, AreNodes}
use Rattle.btor_emit.specs.Table.{AreIn, AreSeats, Table, cycle_of}
use Rattle.model_core.specs.Meaning.{Cycle, row_at, row_of_node}
use Rattle.model_core.specs.Served.{HasWidths, IsModel, IsNode}
use Rattle.model_core.specs.Shape.{AreBelow, ModelOf, NodeOf, reads, sources}
use Rattle.model_core.specs.declared.op.Op.{Op}
use Rattle.model_core.specs.declared.op.Op.TheVariants as op
use Rattle.model_core.proofs.Frames.{gives_below, node_same, reads_below}
use Rattle.model_core.proofs.Lists.{all_at, all_from, contained_at, contains_left, contains_right, flat_more}
use Rattle.model_core.proofs.Writing.{fresh, known, known_more, row_same, stays}

-- what is said of a node's parts
pub by_parts : (G : Op → List ℕ → List ℕ → List ℕ → List ℕ → Type 0) (o o' : Op) (a a' b b' s s' y y' : List ℕ) → o ≡ o' → a ≡ a' → b ≡ b' → s ≡ s' → y ≡ y' → G o a b s y → G o' a' b' s' y'
by_parts G o o' a a' b b' s s' y y' eo ea eb es ey g =
    subst (λ (z : List ℕ). G o' a' b' s' z) ey
    (subst (λ (z : List ℕ). G o' a' b' z y) es (subst (λ (z : List ℕ). G o' a' z s y) eb (subst (λ (z : List ℕ). G o' z b s y) ea (subst (λ (z : Op). G z a b s y) eo g))))

pub nodes_none : (m : ModelOf) (e : BtorOf) (t : Table) → IsBtor e → AreSeats e t → AreNodes m e e t t 0
nodes_none m e t btor seats = record {
  adds = record { btor = btor; grows = grows_same e; lists = keeps_same e; opened = refl; few = omega arith; holds = λ vs h j n l. absurd (omega arith) };
  size = refl;
  seats = seats;
  same = λ vs h p c. refl;
}

module _ (m : ModelOf) (is : IsModel m) (i : ℕ) (n : NodeOf) (at : slice_get m.nodes i ≡ Some n) where
  -- what is known before the node
  pub earlier : (j p : ℕ) → j ≤ i → Contains (known m is j) p → Contains (known m is i) p
  earlier j p l h =
      let b = slice_get_within m.nodes i n at in
      let e : i ≡ j + (i - j) = omega arith in
      (stays m is (λ q. false) j (i - j) i p e (omega arith) h).0

  done_more : (c d : Cycle) → ((p : ℕ) → (Contains n.y p → ⊥) → d p ≡ c p) → AreDone m c i → row_at d n.y ≡ row_of_node c n → AreDone m d (i + 1)
  done_more c d same done new j k l e =
      let kept : (p : ℕ) → Contains (known m is i) p → d p ≡ c p = λ p h. same p (λ g. fresh m is i n p at h g) in
      elim (cases_lt j i) as (λ _. row_at d k.y ≡ row_of_node d k) [
        | inl under ↦
            let outputs = row_same d c k.y (λ p h. kept p (earlier (suc j) p (omega arith) (subst (λ (ps : List ℕ). Contains ps p) (sym (known_more m is j k e)) (contains_right (known m is j) k.y p h)))) in
            outputs ∙ done j k under e ∙ node_same c d k (λ p h. sym (kept p (earlier j p (omega arith) (is.order j k e p h))))
        | inr over ↦
            let z : j ≡ i = omega arith in
            let s : Some k ≡ Some n = sym e ∙ ap (λ (w : ℕ). slice_get m.nodes w) z ∙ at in
            let same_node : n ≡ k = cc in
            subst (λ (w : NodeOf). row_at d w.y ≡ row_of_node d w) same_node (new ∙ node_same c d n (λ p h. sym (kept p (is.order i n at p h))))
      ]

  pub nodes_more : (e0 e1 e2 : BtorOf) (t0 t1 t2 : Table) → AreNodes m e0 e1 t0 t1 i → Gives e1 e2 t1 t2 n.y (12 * (length n.a + length n.b + length n.s) + 20) (λ vs. row_of_node (cycle_of t1 vs) n) → AreNodes m e0 e2 t0 t2 (i + 1)
  nodes_more e0 e1 e2 t0 t1 t2 old new =
      let s = both old.adds new.adds in
      let more : length (flat_map reads (take (suc i) m.nodes)) ≡ length (flat_map reads (take i m.nodes)) + (length n.a + length n.b + length n.s) =
      ap (λ (ps : List ℕ). length ps) (flat_more reads m.nodes i n at) ∙ length-append (flat_map reads (take i m.nodes)) (reads n) ∙ (let x = length-append n.a (n.b ++ n.s) in let y = length-append n.b n.s in omega arith) in
      let next : suc i ≡ i + 1 = omega arith in
      let cost : length (flat_map reads (take (i + 1) m.nodes)) ≡ length (flat_map reads (take i m.nodes)) + (length n.a + length n.b + length n.s) = subst (λ (k : ℕ). length (flat_map reads (take k m.nodes)) ≡ length (flat_map reads (take i m.nodes)) + (length n.a + length n.b + length n.s)) next more in
      record {
        adds = record {
          btor = s.btor;
          grows = s.grows;
          lists = s.lists;
          opened = s.opened;
          few = (let f = s.few in omega arith);
          holds = λ vs h. let p = s.holds vs h in done_more (cycle_of t1 vs) (cycle_of t2 vs) (λ q. new.same vs h q) p.0 p.1;
        };
        size = new.size ∙ old.size;
        seats = new.seats;
        same = λ vs h p c. new.same vs h p (λ g. fresh m is i n p at (earlier 0 p (omega arith) (contains_left (sources m) [] p c)) g) ∙ old.same vs (front_holds e1 e2 old.adds.btor new.adds.grows vs h) p c;
      }

  -- where a node's places stand
  pub reads_in : (table : Table) (ps qs : List ℕ) → length table ≡ m.size → ps ≡ qs → ((p : ℕ) → Contains ps p → Contains (reads n) p) → AreIn table qs
  reads_in table ps qs size e inside = subst (λ (xs : List ℕ). AreIn table xs) e (all_from (λ (p : ℕ). p < length table) ps (λ k p h. let b = reads_below m is i n at p (inside p (contained_at ps p k h)) in omega arith))

  pub gives_in : (table : Table) (qs : List ℕ) → length table ≡ m.size → n.y ≡ qs → AreIn table qs
  gives_in table qs size e = subst (λ (xs : List ℕ). AreIn table xs) e (all_from (λ (p : ℕ). p < length table) n.y (λ k p h. let b = gives_below m is i n at p (contained_at n.y p k h) in omega arith))

  pub reads_apart : (p : ℕ) → Contains n.y p → Contains (reads n) p → ⊥
  reads_apart p g h = fresh m is i n p at (is.order i n at p h) g

  pub copy_wide : (a y : List ℕ) → n.op ≡ op.Copy → a ≡ n.a → y ≡ n.y → length y ≡ length a
  copy_wide a y copy ea ey =
      let w : HasWidths op.Copy (length n.a) (length n.b) (length n.s) (length n.y) = subst (λ (o : Op). HasWidths o (length n.a) (length n.b) (length n.s) (length n.y)) copy (all_at IsNode m.nodes i n is.nodes at) in
      ap (λ (ps : List ℕ). length ps) ey ∙ w.1 ∙ sym (ap (λ (ps : List ℕ). length ps) ea)

  pub reads_under : (size : ℕ) (ps qs : List ℕ) → size ≡ m.size → ps ≡ qs → ((p : ℕ) → Contains ps p → Contains (reads n) p) → AreBelow size qs
  reads_under size ps qs same e inside = subst (λ (xs : List ℕ). AreBelow size xs) e (all_from (λ (p : ℕ). p < size) ps (λ k p h. let b = reads_below m is i n at p (inside p (contained_at ps p k h)) in omega arith))

  pub gives_under : (size : ℕ) (qs : List ℕ) → size ≡ m.size → n.y ≡ qs → AreBelow size qs
  gives_under size qs same e = subst (λ (xs : List ℕ). AreBelow size xs) e (all_from (λ (p : ℕ). p < size) n.y (λ k p h. let b = gives_below m is i n at p (contained_at n.y p k h) in omega arith))
