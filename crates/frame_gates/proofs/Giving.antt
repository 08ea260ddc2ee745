-- Nodes, one after the other.
use Rattle.std.proofs.Common.{◌≡◌, ℕ, suc, ◌+◌, List, ◌++◌, Some, refl, sym, ap, ◌∙◌, subst, inl, inr, arith, length, take}
use Rattle.std.specs.Prelude.{slice_get, Contains, All}
use Rattle.cnf_form.specs.Cnf.{LitOf, LitWithin, lit_in}
use Rattle.gate_graph.specs.Circuit.{GatesOf, Continues}
use Rattle.gate_graph.specs.Laws.{keeps}
use Rattle.gate_rows.specs.Literals.{MeansRow, row_of}
use Rattle.sby_bits.specs.Rows.{Row}
use Rattle.model_core.specs.Shape.{NodeOf, ModelOf, given, reads, sources}
use Rattle.model_core.specs.Meaning.{Cycle, node_fn, row_at, row_of_node}
use Rattle.model_core.specs.Served.{IsModel}
use Rattle.frame_gates.specs.Frames.{IsTable, cycle_of, lit_at, lits_at}
use Rattle.frame_gates.specs.Rows.{AreGiven, IsGiven, IsWritten}
use Rattle.std.proofs.lemmas.List.Elements.{Contains-append_left, Contains-append_right}
use Rattle.model_core.proofs.Lists.{below_or_last, flat_more}
use Rattle.frame_gates.proofs.Lists.{flat_front, map_same, one_at}
use Rattle.frame_gates.proofs.Places.{before_apart, earlier_apart, read_apart, source_apart}
use Rattle.frame_gates.proofs.Reading.{all_more, read_row, written_lits, written_others}

-- cycles that agree where a node reads
pub row_agrees : (c e : Cycle) (places : List ℕ) → ((p : ℕ) → Contains places p → c p ≡ e p) → row_at c places ≡ row_at e places
row_agrees c e places h = map_same c e places h

pub node_agrees : (c e : Cycle) (n : NodeOf) → ((p : ℕ) → Contains (reads n) p → c p ≡ e p) → row_of_node c n ≡ row_of_node e n
node_agrees c e n h =
    let a = row_agrees c e n.a (λ p k. h p (Contains-append_left n.a (n.b ++ n.s) p k)) in
    let b = row_agrees c e n.b (λ p k. h p (Contains-append_right n.a (n.b ++ n.s) p (Contains-append_left n.b n.s p k))) in
    let s = row_agrees c e n.s (λ p k. h p (Contains-append_right n.a (n.b ++ n.s) p (Contains-append_right n.b n.s p k))) in
    ap (λ (r : Row). node_fn n.op (length n.y) r (row_at c n.b) (row_at c n.s)) a
    ∙ ap (λ (r : Row). node_fn n.op (length n.y) (row_at e n.a) r (row_at c n.s)) b
    ∙ ap (node_fn n.op (length n.y) (row_at e n.a) (row_at e n.b)) s

-- one node
pub given_row : (g h : GatesOf) (n : NodeOf) (old new row : List LitOf) → Continues g h → All (LitWithin g.formula.vars) old →
    length row ≡ length n.y → IsWritten n.y row (length n.y) old new →
    MeansRow h (λ x. node_fn n.op (length n.y) (row_of x (lits_at old n.a)) (row_of x (lits_at old n.b)) (row_of x (lits_at old n.s))) row → IsGiven h n old new
given_row g h n old new row k w e t r = record {
  size = t.size;
  within = t.within h.formula.vars r.within (all_more g.formula.vars h.formula.vars old k.vars w);
  value = λ x s.
      sym (read_row x new n.y) ∙ ap (row_of x) (written_lits n.y row old new e t) ∙ r.means x s
      ∙ ap (λ (z : Row). node_fn n.op (length n.y) z (row_of x (lits_at old n.b)) (row_of x (lits_at old n.s))) (read_row x old n.a)
      ∙ ap (λ (z : Row). node_fn n.op (length n.y) (row_at (cycle_of old x) n.a) z (row_of x (lits_at old n.s))) (read_row x old n.b)
      ∙ ap (node_fn n.op (length n.y) (row_at (cycle_of old x) n.a) (row_at (cycle_of old x) n.b)) (read_row x old n.s);
  others = λ p none. written_others n.y row old new p t none;
}

pub Given-none : (m : ModelOf) (g : GatesOf) (table : List LitOf) → IsTable m g table → AreGiven m 0 g table table
Given-none m g table t = record { table = t; nodes = λ i n h. absurd (omega arith); sources = λ p c. refl }

pub Given-more : (m : ModelOf) (is : IsModel m) (g h : GatesOf) (i : ℕ) (n : NodeOf) (old mid new : List LitOf) → slice_get m.nodes i ≡ Some n → Continues g h →
    AreGiven m i g old mid → IsGiven h n mid new → AreGiven m (i + 1) h old new
Given-more m is g h i n old mid new at k p q = record {
  table = record { size = q.size ∙ p.table.size; within = q.within };
  nodes = λ j node lt e x s. elim (below_or_last j i lt) as (λ _. row_at (cycle_of new x) node.y ≡ row_of_node (cycle_of new x) node) [
    | inl a ↦
        let outs : (r : ℕ) → Contains node.y r → Contains (given (take i m.nodes)) r = λ r c.
        flat_front (λ (z : NodeOf). z.y) m.nodes (suc j) i r (omega arith)
        (subst (λ (rs : List ℕ). Contains rs r) (sym (flat_more (λ (z : NodeOf). z.y) m.nodes j node e)) (Contains-append_right (given (take j m.nodes)) node.y r c)) in
        row_agrees (cycle_of new x) (cycle_of mid x) node.y (λ r c. ap (lit_in x) (q.others r (λ y. earlier_apart m is i n at r (outs r c) y)))
        ∙ p.nodes j node a e x (keeps g h k x s)
        ∙ node_agrees (cycle_of mid x) (cycle_of new x) node
        (λ r c. ap (lit_in x) (sym (q.others r (λ y. before_apart m is i n at j r (omega arith) (is.order j node e r c) y))))
    | inr a ↦
        let here : slice_get m.nodes i ≡ Some node = subst (λ (z : ℕ). slice_get m.nodes z ≡ Some node) a e in
        let same : n ≡ node = one_at m.nodes i n node at here in
        subst (λ (z : NodeOf). row_at (cycle_of new x) z.y ≡ row_of_node (cycle_of new x) z) same
        (q.value x s ∙ node_agrees (cycle_of mid x) (cycle_of new x) n (λ r c. ap (lit_in x) (sym (q.others r (λ y. read_apart m is i n at r c y)))))
  ];
  sources = λ p c. q.others p (λ y. source_apart m is i n at p c y) ∙ p0 p c;
}
  where
    p0 : (r : ℕ) → Contains (sources m) r → lit_at mid r ≡ lit_at old r
    p0 r c = p.sources r c
