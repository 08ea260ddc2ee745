-- What the levels of a window's cycles hold may be needed alone.
use Rattle.std.proofs.Common.{◌≡◌, ℕ, zero, suc, ◌+◌, ◌-◌, ◌<◌, ◌≤◌, Bool, true, false, not, ◌||◌, cond, List, [], ◌∷◌, ◌++◌, Some, length, refl, sym, ap, ◌∙◌, subst, inl, inr, arith, ltb}
use Rattle.std.specs.Prelude.{Contains, slice_get}
use Rattle.std.specs.List.{flat_map}
use Rattle.std.proofs.lemmas.Bool.{ltb-true, lt-ltb, cases_Bool}
use Rattle.std.proofs.lemmas.Grind.{flat_map-append}
use Rattle.std.proofs.lemmas.List.{append-nil}
use Rattle.std.proofs.lemmas.List.Elements.{Contains-append_left, Contains-append_right, Contains-append_cases}
use Rattle.cnf_form.specs.Cnf.{LitOf}
use Rattle.gate_graph.specs.declared.gate.Gate.{Gate}
use Rattle.gate_graph.specs.Folding.{operands}
use Rattle.bit_net.specs.Net.{IsNet, NetOf, gate_node, gate_var, input_var, node_at, state_node, state_var, vars}
use Rattle.bit_net.specs.Needs.{IsNeed}
use Rattle.bit_net.specs.Reaching.{IsReach, early_before, is_at, is_needed, level, levels, nearer, next_of, nexts, numbers, reached}
use Rattle.bit_net.specs.declared.node.State.{State}
use Rattle.bit_net.specs.declared.node.Node.{Node}
use Rattle.bit_net.specs.declared.node.Node.TheVariants as node
use Rattle.bit_net.proofs.Lists.{and_both, both_and, cases_in, filter_in, in_filter, in_numbers, none_in, not_true, numbers_end, or_cases, or_left, or_right}
use Rattle.bit_net.proofs.Reached.{at_before, at_gate, at_now, at_state, further, least}
use Rattle.bit_net.proofs.Extending.{get_less}

near_gate : (n : NetOf) (now before : List LitOf) (d k : ℕ) (g : Gate) (o : LitOf) → IsNet n → slice_get n.gates k ≡ Some g → nearer n now before d (gate_var n k) ≡ true → Contains (operands g) o → nearer n now before d o.var ≡ true
near_gate n now before zero k g o net at h c = absurd (let z : false ≡ true = h in cc)
near_gate n now before (suc d) k g o net at h c = at_gate n now before d k g o net at h c

pub near_state : (n : NetOf) (now before : List LitOf) (d k : ℕ) (s : State) → slice_get n.states k ≡ Some s → nearer n now before d (state_var k) ≡ true → nearer n now before (suc d) s.next.var ≡ true
near_state n now before zero k s at h = absurd (let z : false ≡ true = h in cc)
near_state n now before (suc d) k s at h = at_state n now before d k s at h

pub near_further : (n : NetOf) (now before : List LitOf) (d v : ℕ) → nearer n now before d v ≡ true → reached n now before d v ≡ true
near_further n now before zero v h = absurd (let z : false ≡ true = h in cc)
near_further n now before (suc d) v h = further n now before d v h

pub needs : (n : NetOf) (now before : List LitOf) (count : ℕ) → IsNet n → IsNeed n count (λ t v. nearer n now before (count - t) v)
needs n now before count net = record {
  gates = λ t k g o l at h c. near_gate n now before (count - t) k g o net at h c;
  states = λ t k s l at h. subst (λ (d : ℕ). nearer n now before d s.next.var ≡ true) (let e : suc (count - suc t) ≡ count - t = omega arith in e) (near_state n now before (count - suc t) k s at h);
}

pub in_flat_map : {A B : Type 0} (f : A → List B) (xs : List A) (x : A) (y : B) → Contains xs x → Contains (f x) y → Contains (flat_map f xs) y
in_flat_map f [] x y c i = absurd (none_in x c)
in_flat_map f (z ∷ xs) x y c i = elim (cases_in z xs x c) as (λ _. Contains (f z ++ flat_map f xs) y) [
  | inl e ↦ Contains-append_left (f z) (flat_map f xs) y (subst (λ w. Contains (f w) y) (sym e) i)
  | inr r ↦ Contains-append_right (f z) (flat_map f xs) y (in_flat_map f xs x y r i)
]

pub node_of_state : (n : NetOf) (k : ℕ) (s : State) → slice_get n.states k ≡ Some s → node_at n (state_var k) ≡ node.State s
node_of_state n k s at =
    let i = get_less n.states k s at in
    ap (λ (b : Bool). cond b (state_node (slice_get n.states (state_var k - 2))) (cond (ltb (state_var k) (gate_var n 0)) node.Input (gate_node (slice_get n.gates (state_var k - gate_var n 0))))) (lt-ltb (state_var k) (input_var n 0) (omega arith))
    ∙ ap (λ (j : ℕ). state_node (slice_get n.states j)) (let e : state_var k - 2 ≡ k = omega arith in e)
    ∙ ap state_node at

-- what states that are reached within a cycle take next
early : (n : NetOf) (goals : List LitOf) (k : ℕ) (s : State) → slice_get n.states k ≡ Some s → reached n goals [] 0 (state_var k) ≡ true → Contains (nexts n (early_before n goals)) s.next
early n goals k s at h =
    let i = get_less n.states k s at in
    let inside : Contains (level n goals [] 0) (state_var k) = in_filter (is_at n goals [] 0) (numbers 2 (length n.states + n.inputs + length n.gates)) (state_var k)
    (in_numbers 2 (length n.states + n.inputs + length n.gates) (state_var k) (omega arith) (omega arith)) (and_both (reached n goals [] 0 (state_var k)) (not (nearer n goals [] 0 (state_var k))) h refl) in
    in_flat_map (λ v. next_of (node_at n v)) (early_before n goals) (state_var k) s.next inside (subst (λ (m : Node). Contains (next_of m) s.next) (sym (node_of_state n k s at)) (0, omega arith, refl))

meet : (n : NetOf) (goals asks : List LitOf) (d k : ℕ) (s : State) → IsNet n → slice_get n.states k ≡ Some s → reached n goals [] d (state_var k) ≡ true → reached n asks (nexts n (early_before n goals)) (suc d) s.next.var ≡ true
meet n goals asks d k s net at h =
    elim (or_cases (reached n goals [] 0 (state_var k)) (reached n asks before d (state_var k)) (least n goals [] test reach d (state_var k) h)) as (λ _. reached n asks before (suc d) s.next.var ≡ true) [
      | inl a ↦ at_before n asks before d s.next (early n goals k s at a)
      | inr a ↦ at_state n asks before d k s at a
    ]
  where
    before : List LitOf
    before = nexts n (early_before n goals)

    test : ℕ → ℕ → Bool
    test e v = reached n goals [] 0 v || reached n asks (nexts n (early_before n goals)) e v

    reach : IsReach n goals [] test
    reach = record {
      asked = λ e l c. or_left (reached n goals [] 0 l.var) (reached n asks before e l.var) (at_now n goals [] 0 l c);
      asked_before = λ e l c. absurd (none_in l c);
      gates = λ e i g o at h c. elim (or_cases (reached n goals [] 0 (gate_var n i)) (reached n asks before e (gate_var n i)) h) as (λ _. test e o.var ≡ true) [
        | inl a ↦ or_left (reached n goals [] 0 o.var) (reached n asks before e o.var) (at_gate n goals [] 0 i g o net at a c)
        | inr a ↦ or_right (reached n goals [] 0 o.var) (reached n asks before e o.var) (at_gate n asks before e i g o net at a c)
      ];
      states = λ e i r at h. or_right (reached n goals [] 0 r.next.var) (reached n asks before (suc e) r.next.var) (elim (or_cases (reached n goals [] 0 (state_var i)) (reached n asks before e (state_var i)) h) as (λ _. reached n asks before (suc e) r.next.var ≡ true) [
        | inl a ↦ at_before n asks before e r.next (early n goals i r at a)
        | inr a ↦ at_state n asks before e i r at a
      ]);
      further = λ e v h. elim (or_cases (reached n goals [] 0 v) (reached n asks before e v) h) as (λ _. test (suc e) v ≡ true) [
        | inl a ↦ or_left (reached n goals [] 0 v) (reached n asks before (suc e) v) a
        | inr a ↦ or_right (reached n goals [] 0 v) (reached n asks before (suc e) v) (further n asks before e v a)
      ];
    }

near_meet : (n : NetOf) (goals asks : List LitOf) (d k : ℕ) (s : State) → IsNet n → slice_get n.states k ≡ Some s → nearer n goals [] d (state_var k) ≡ true → nearer n asks (nexts n (early_before n goals)) (suc d) s.next.var ≡ true
near_meet n goals asks zero k s net at h = absurd (let z : false ≡ true = h in cc)
near_meet n goals asks (suc d) k s net at h = meet n goals asks d k s net at h

pub needs_in : (n : NetOf) (goals asks : List LitOf) (first count : ℕ) → IsNet n → IsNeed n count (is_needed n goals asks first count)
needs_in n goals asks first count net = record {
  gates = λ t k g o l at h c. gate t k g o at c (ltb t first) h;
  states = λ t k s l at h. state t k s l at (ltb t first) refl (ltb (suc t) first) refl h;
}
  where
    before : List LitOf
    before = nexts n (early_before n goals)

    gate : (t k : ℕ) (g : Gate) (o : LitOf) → slice_get n.gates k ≡ Some g → Contains (operands g) o → (b : Bool) → cond b (nearer n asks before (count - t) (gate_var n k)) (nearer n goals [] (count - t) (gate_var n k)) ≡ true →
        cond b (nearer n asks before (count - t) o.var) (nearer n goals [] (count - t) o.var) ≡ true
    gate t k g o at c true h = near_gate n asks before (count - t) k g o net at h c
    gate t k g o at c false h = near_gate n goals [] (count - t) k g o net at h c

    one_more : (t : ℕ) → suc t < count → suc (count - suc t) ≡ count - t
    one_more t l = omega arith

    state : (t k : ℕ) (s : State) → suc t < count → slice_get n.states k ≡ Some s → (a : Bool) → ltb t first ≡ a → (b : Bool) → ltb (suc t) first ≡ b →
        cond b (nearer n asks before (count - suc t) (state_var k)) (nearer n goals [] (count - suc t) (state_var k)) ≡ true → cond a (nearer n asks before (count - t) s.next.var) (nearer n goals [] (count - t) s.next.var) ≡ true
    state t k s l at true e true f h = subst (λ (d : ℕ). nearer n asks before d s.next.var ≡ true) (one_more t l) (near_state n asks before (count - suc t) k s at h)
    state t k s l at true e false f h = subst (λ (d : ℕ). nearer n asks before d s.next.var ≡ true) (one_more t l) (near_meet n goals asks (count - suc t) k s net at h)
    state t k s l at false e true f h = absurd (let p = ltb-true (suc t) first f in let q = lt-ltb t first (omega arith) in let z : true ≡ false = sym q ∙ e in cc)
    state t k s l at false e false f h = subst (λ (d : ℕ). nearer n goals [] d s.next.var ≡ true) (one_more t l) (near_state n goals [] (count - suc t) k s at h)

-- one level more
pub levels_end : (n : NetOf) (now before : List LitOf) (d : ℕ) → levels n now before (suc d) ≡ levels n now before d ++ level n now before d
levels_end n now before d =
    ap (flat_map (level n now before)) (numbers_end 0 d)
    ∙ flat_map-append (level n now before) (numbers 0 d) ((0 + d) ∷ [])
    ∙ ap (λ (i : ℕ). levels n now before d ++ (level n now before i ++ [])) (let e : 0 + d ≡ d = omega arith in e)
    ∙ ap (λ (vs : List ℕ). levels n now before d ++ vs) (append-nil (level n now before d))

pub in_levels : (n : NetOf) (now before : List LitOf) (many v : ℕ) → Contains (levels n now before many) v → nearer n now before many v ≡ true
in_levels n now before zero v c = absurd (none_in v c)
in_levels n now before (suc d) v c = elim (Contains-append_cases (levels n now before d) (level n now before d) v (subst (λ (vs : List ℕ). Contains vs v) (levels_end n now before d) c)) as (λ _. reached n now before d v ≡ true) [
  | inl a ↦ near_further n now before d v (in_levels n now before d v a)
  | inr a ↦ (both_and (reached n now before d v) (not (nearer n now before d v)) (filter_in (is_at n now before d) (numbers 2 (length n.states + n.inputs + length n.gates)) v a).1).0
]

pub levels_in : (n : NetOf) (now before : List LitOf) (many v : ℕ) → 1 < v → v ≤ vars n → nearer n now before many v ≡ true → Contains (levels n now before many) v
levels_in n now before zero v lo hi h = absurd (let z : false ≡ true = h in cc)
levels_in n now before (suc d) v lo hi h = subst (λ (vs : List ℕ). Contains vs v) (sym (levels_end n now before d)) (elim (cases_Bool (nearer n now before d v)) as (λ _. Contains (levels n now before d ++ level n now before d) v) [
  | inl e ↦ Contains-append_left (levels n now before d) (level n now before d) v (levels_in n now before d v lo hi e)
  | inr e ↦ Contains-append_right (levels n now before d) (level n now before d) v
      (in_filter (is_at n now before d) (numbers 2 (length n.states + n.inputs + length n.gates)) v (in_numbers 2 (length n.states + n.inputs + length n.gates) v (omega arith) (omega arith))
      (and_both (reached n now before d v) (not (nearer n now before d v)) h (not_true (nearer n now before d v) e)))
])
