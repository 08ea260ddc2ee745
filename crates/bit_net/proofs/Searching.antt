-- The search, variable by variable.
use Rattle.std.proofs.Common.{◌≡◌, ◌⊎◌, ℕ, suc, ◌+◌, ◌-◌, ◌<◌, ◌≤◌, Bool, true, false, cond, List, [], ◌∷◌, ◌++◌, Option, Some, None, ltb, drop, length, map, get_or, refl, sym, ap, ◌∙◌, subst, inl, inr, arith, eqb, take, set}
use Rattle.std.specs.Prelude.{Contains, All, slice_get, count_by}
use Rattle.std.specs.List.{list_any}
use Rattle.std.specs.Cmp.{IsEquivalence}
use Rattle.std.proofs.lemmas.Bool.{eq-eqb, eqb-true, cases_eq, cases_lt, lt-ltb}
use Rattle.std.proofs.lemmas.List.{append_assoc, append-nil, length-append, length-set, get_or-set_same, get_or-set_other, take_more, take-append-le, drop-append-le, length-take}
use Rattle.std.proofs.Math.ListN.{get_or-append}
use Rattle.std.proofs.lemmas.List.Elements.{All-push, All-contains, Contains-append_left, Contains-append_right, Contains-append_cases, Contains-push, Contains-push_cases}
use Rattle.std.proofs.lemmas.List.Sums.{sum_by-set, count_by-le-length}
use Rattle.std.proofs.lemmas.Map.Keys.{IsDistinct-push}
use Rattle.cnf_form.specs.Cnf.{LitOf}
use Rattle.gate_graph.specs.declared.gate.Gate.{Gate}
use Rattle.gate_graph.specs.Folding.{operands}
use Rattle.bit_net.specs.Net.{NetOf, gate_node, gate_var, input_var, node_at, state_node, state_var}
use Rattle.bit_net.specs.Search.{Descends, HoldsBelow, IsClosedTo, IsSearch, Takes, Visits, marked, read_by}
use Rattle.bit_net.specs.declared.node.State.{State}
use Rattle.bit_net.specs.declared.node.Node.{Node}
use Rattle.bit_net.specs.declared.node.Node.TheVariants as node
use Rattle.bit_net.proofs.Lists.{cases_in, head_in, in_map, map_in, none_in, not_both, or_cases, tail_in}
use Rattle.bit_net.proofs.Extending.{not_less}
use Rattle.bit_net.proofs.Needing.{node_of_state}

pub same_numbers : IsEquivalence eqb
same_numbers = record {
  refl = λ x. eq-eqb x x refl;
  symm = λ x y. (elim (cases_eq x y) as (λ _. eqb x y ≡ eqb y x) [
    | inl e ↦ eq-eqb x y e ∙ sym (eq-eqb y x (sym e))
    | inr n ↦ no x y n ∙ sym (no y x (λ e. n (sym e)))
  ]);
  congr = λ x y z h. ap (λ (w : ℕ). eqb w z) (eqb-true x y h);
}
  where
    no : (x y : ℕ) → (x ≡ y → ⊥) → eqb x y ≡ false
    no x y n = not_both (eqb x y) (λ e. n (eqb-true x y e))

count_set : (seen : List Bool) (v : ℕ) → v < length seen → marked seen v ≡ false → count_by (λ (b : Bool). b) (set seen v true) ≡ suc (count_by (λ (b : Bool). b) seen)
count_set seen v l h =
    let f : Bool → ℕ = λ b. cond b 1 0 in
    let r : count_by (λ (b : Bool). b) (set seen v true) + f (marked seen v) ≡ count_by (λ (b : Bool). b) seen + 1 = sum_by-set f seen v true false l in
    let z : f (marked seen v) ≡ 0 = ap f h in
    omega arith

pub visit_new : (seen : List Bool) (found : List ℕ) (v : ℕ) → IsSearch seen found → 1 < v → v < length seen → marked seen v ≡ false → IsSearch (set seen v true) (found ++ v ∷ [])
visit_new seen found v s lo inside new = record {
  count = length-append found (v ∷ []) ∙ (let e = s.count in let f = count_set seen v inside new in let g : length found + 1 ≡ count_by (λ (b : Bool). b) (set seen v true) = omega arith in g);
  within = subst (λ (n : ℕ). All (λ w. (1 < w) × (w < n)) (found ++ v ∷ [])) (sym (length-set seen v true)) (All-push (λ w. (1 < w) × (w < length seen)) found v s.within (lo, inside));
  marks = λ w h. (elim (cases_eq w v) as (λ _. Contains (found ++ v ∷ []) w) [
    | inl e ↦ subst (Contains (found ++ v ∷ [])) (sym e) (Contains-push found v)
    | inr n ↦ Contains-append_left found (v ∷ []) w (s.marks w (sym (get_or-set_other seen v w true false n) ∙ h))
  ]);
  all = λ w c. (elim (cases_eq w v) as (λ _. marked (set seen v true) w ≡ true) [
    | inl e ↦ subst (λ (u : ℕ). marked (set seen v true) u ≡ true) (sym e) (get_or-set_same seen v true false inside)
    | inr n ↦ get_or-set_other seen v w true false n ∙ (elim (Contains-push_cases found v w c) as (λ _. marked seen w ≡ true) [ inl i ↦ s.all w i | inr e ↦ absurd (n (sym e)) ])
  ]);
  distinct = IsDistinct-push same_numbers found v s.distinct (not_both (list_any (eqb v) found) (λ e. fresh (any_in found e)));
}
  where
    any_in : (xs : List ℕ) → list_any (eqb v) xs ≡ true → Contains xs v
    any_in [] h = absurd (let z : false ≡ true = h in cc)
    any_in (x ∷ xs) h = elim (or_cases (eqb v x) (list_any (eqb v) xs) h) as (λ _. Contains (x ∷ xs) v) [
      | inl e ↦ subst (Contains (x ∷ xs)) (sym (eqb-true v x e)) (head_in x xs)
      | inr r ↦ tail_in x v xs (any_in xs r)
    ]

    fresh : Contains found v → ⊥
    fresh c = let m = s.all v c in let z : false ≡ true = sym new ∙ m in cc

pub visits_none : (found : List ℕ) → Visits [] found found
visits_none found = record { front = ([], sym (append-nil found)); has = λ v c h. absurd (none_in v c); only = λ v c. inl c }

pub visits_new : (found : List ℕ) (v : ℕ) → Visits (v ∷ []) found (found ++ v ∷ [])
visits_new found v = record {
  front = (v ∷ [], refl);
  has = λ w c h. (elim (cases_in v [] w c) as (λ _. Contains (found ++ v ∷ []) w) [ inl e ↦ subst (Contains (found ++ v ∷ [])) e (Contains-push found v) | inr i ↦ absurd (none_in w i) ]);
  only = λ w c. (elim (Contains-append_cases found (v ∷ []) w c) as (λ _. Contains found w ⊎ Contains (v ∷ []) w) [ inl i ↦ inl i | inr i ↦ inr i ]);
}

pub visits_old : (seen : List Bool) (found : List ℕ) (v : ℕ) → IsSearch seen found → (1 < v → marked seen v ≡ true) → Visits (v ∷ []) found found
visits_old seen found v s old = record {
  front = ([], sym (append-nil found));
  has = λ w c h. (elim (cases_in v [] w c) as (λ _. Contains found w) [ inl e ↦ s.marks w (subst (λ (u : ℕ). marked seen u ≡ true) e (old (omega arith))) | inr i ↦ absurd (none_in w i) ]);
  only = λ w c. inl c;
}

pub grown : (old new more : List ℕ) (v : ℕ) → new ≡ old ++ more → Contains old v → Contains new v
grown old new more v e c = subst (λ (vs : List ℕ). Contains vs v) (sym e) (Contains-append_left old more v c)

pub visits_more : (vs ws a b c : List ℕ) → Visits vs a b → Visits ws b c → Visits (vs ++ ws) a c
visits_more vs ws a b c p q =
    let (f, e) = p.front in
    let (g, h) = q.front in
    record {
      front = (f ++ g, h ∙ ap (λ (z : List ℕ). z ++ g) e ∙ append_assoc a f g);
      has = λ v i l. (elim (Contains-append_cases vs ws v i) as (λ _. Contains c v) [ inl j ↦ grown b c g v h (p.has v j l) | inr j ↦ q.has v j l ]);
      only = λ v i. (elim (q.only v i) as (λ _. Contains a v ⊎ Contains (vs ++ ws) v) [
        | inl j ↦ elim (p.only v j) as (λ _. Contains a v ⊎ Contains (vs ++ ws) v) [ inl k ↦ inl k | inr k ↦ inr (Contains-append_left vs ws v k) ]
        | inr j ↦ inr (Contains-append_right vs ws v j)
      ]);
    }

-- the variables of one literal more
pub vars_more : (lits : List LitOf) (i : ℕ) (l : LitOf) (a b c : List ℕ) → i < length lits → l ≡ get_or lits i l → Visits (map (λ (m : LitOf). m.var) (take i lits)) a b → Visits (l.var ∷ []) b c →
    Visits (map (λ (m : LitOf). m.var) (take (i + 1) lits)) a c
vars_more lits i l a b c h e p q =
    subst (λ (ls : List LitOf). Visits (map (λ (m : LitOf). m.var) ls) a c) (sym (take_more lits i l h ∙ ap (λ (m : LitOf). take i lits ++ m ∷ []) (sym e)))
    (subst (λ (vs : List ℕ). Visits vs a c) (sym (map_push (take i lits))) (visits_more (map (λ (m : LitOf). m.var) (take i lits)) (l.var ∷ []) a b c p q))
  where
    map_push : (ls : List LitOf) → map (λ (m : LitOf). m.var) (ls ++ l ∷ []) ≡ map (λ (m : LitOf). m.var) ls ++ l.var ∷ []
    map_push [] = refl
    map_push (k ∷ ls) = ap (λ (vs : List ℕ). k.var ∷ vs) (map_push ls)

pub past : (a b : ℕ) → ltb a b ≡ false → b ≤ a
past a b e = elim (cases_lt a b) as (λ _. b ≤ a) [ inl l ↦ absurd (let t = lt-ltb a b l in let z : true ≡ false = sym t ∙ e in cc) | inr m ↦ omega arith ]

-- the nodes of variables
pub node_gate : (n : NetOf) (v : ℕ) (g : Gate) → node_at n v ≡ node.Gate g → (k : ℕ) × (slice_get n.gates k ≡ Some g) × (gate_var n k ≡ v)
node_gate n v g h = low (ltb v (input_var n 0)) refl h
  where
    state : (o : Option State) → state_node o ≡ node.Gate g → ⊥
    state None h = cc
    state (Some s) h = cc

    gate : (o : Option Gate) → slice_get n.gates (v - gate_var n 0) ≡ o → gate_node o ≡ node.Gate g → gate_var n 0 ≤ v → (k : ℕ) × (slice_get n.gates k ≡ Some g) × (gate_var n k ≡ v)
    gate None e h l = absurd (let z : node.Input ≡ node.Gate g = h in cc)
    gate (Some j) e h l = let z : node.Gate j ≡ node.Gate g = h in let same : j ≡ g = cc in (v - gate_var n 0, e ∙ ap Some same, omega arith)

    high : (b : Bool) → ltb v (gate_var n 0) ≡ b → cond b node.Input (gate_node (slice_get n.gates (v - gate_var n 0))) ≡ node.Gate g → (k : ℕ) × (slice_get n.gates k ≡ Some g) × (gate_var n k ≡ v)
    high true e h = absurd (let z : node.Input ≡ node.Gate g = h in cc)
    high false e h = gate (slice_get n.gates (v - gate_var n 0)) refl h (past v (gate_var n 0) e)

    low : (b : Bool) → ltb v (input_var n 0) ≡ b → cond b (state_node (slice_get n.states (v - 2))) (cond (ltb v (gate_var n 0)) node.Input (gate_node (slice_get n.gates (v - gate_var n 0)))) ≡ node.Gate g →
        (k : ℕ) × (slice_get n.gates k ≡ Some g) × (gate_var n k ≡ v)
    low true e h = absurd (state (slice_get n.states (v - 2)) h)
    low false e h = high (ltb v (gate_var n 0)) refl h

pub node_state : (n : NetOf) (v : ℕ) (s : State) → 1 < v → node_at n v ≡ node.State s → (k : ℕ) × (slice_get n.states k ≡ Some s) × (state_var k ≡ v)
node_state n v s lo h = low (ltb v (input_var n 0)) refl h
  where
    state : (o : Option State) → slice_get n.states (v - 2) ≡ o → state_node o ≡ node.State s → (k : ℕ) × (slice_get n.states k ≡ Some s) × (state_var k ≡ v)
    state None e h = absurd (let z : node.Input ≡ node.State s = h in cc)
    state (Some r) e h = let z : node.State r ≡ node.State s = h in let same : r ≡ s = cc in (v - 2, e ∙ ap Some same, omega arith)

    gate : (o : Option Gate) → gate_node o ≡ node.State s → ⊥
    gate None h = cc
    gate (Some g) h = cc

    high : (b : Bool) → cond b node.Input (gate_node (slice_get n.gates (v - gate_var n 0))) ≡ node.State s → ⊥
    high true h = cc
    high false h = gate (slice_get n.gates (v - gate_var n 0)) h

    low : (b : Bool) → ltb v (input_var n 0) ≡ b → cond b (state_node (slice_get n.states (v - 2))) (cond (ltb v (gate_var n 0)) node.Input (gate_node (slice_get n.gates (v - gate_var n 0)))) ≡ node.State s →
        (k : ℕ) × (slice_get n.states k ≡ Some s) × (state_var k ≡ v)
    low true e h = state (slice_get n.states (v - 2)) refl h
    low false e h = absurd (high (ltb v (gate_var n 0)) h)

pub node_of_gate : (n : NetOf) (k : ℕ) (g : Gate) → slice_get n.gates k ≡ Some g → node_at n (gate_var n k) ≡ node.Gate g
node_of_gate n k g at =
    ap (λ (b : Bool). cond b (state_node (slice_get n.states (gate_var n k - 2))) (cond (ltb (gate_var n k) (gate_var n 0)) node.Input (gate_node (slice_get n.gates (gate_var n k - gate_var n 0))))) (not_less (gate_var n k) (input_var n 0) (omega arith))
    ∙ ap (λ (b : Bool). cond b node.Input (gate_node (slice_get n.gates (gate_var n k - gate_var n 0)))) (not_less (gate_var n k) (gate_var n 0) (omega arith))
    ∙ ap (λ (j : ℕ). gate_node (slice_get n.gates j)) (let e : gate_var n k - gate_var n 0 ≡ k = omega arith in e)
    ∙ ap gate_node at

-- what has been found of what lies beyond
pub record IsDescent (n : NetOf) (old new : List ℕ) (next : ℕ) : Type 0 where
  pub front : (more : List ℕ) × (new ≡ old ++ more)
  pub inside : next ≤ length new
  pub closed : IsClosedTo n new next
  pub least : (test : ℕ → Bool) → HoldsBelow n test → ((v : ℕ) → Contains old v → test v ≡ true) → (v : ℕ) → Contains new v → test v ≡ true

pub descent_begins : (n : NetOf) (old : List ℕ) (next : ℕ) → next ≤ length old → IsClosedTo n old next → IsDescent n old old next
descent_begins n old next l c = record { front = ([], sym (append-nil old)); inside = l; closed = c; least = λ test h b v i. b v i }

pub descent_goes_on : (n : NetOf) (seen : List Bool) (old mid new : List ℕ) (next v : ℕ) → IsDescent n old mid next → next < length mid → get_or mid next v ≡ v → IsSearch seen new → Visits (read_by (node_at n v)) mid new →
    IsDescent n old new (next + 1)
descent_goes_on n seen old mid new next v d l at search p =
    let (f, e) = d.front in
    let (g, h) = p.front in
    record {
      front = (f ++ g, h ∙ ap (λ (z : List ℕ). z ++ g) e ∙ append_assoc old f g);
      inside = subst (λ (zs : List ℕ). next + 1 ≤ length zs) (sym h) (let z = length-append mid g in omega arith);
      closed = closed;
      least = least;
    }
  where
    firsts : take (next + 1) new ≡ take next mid ++ v ∷ []
    firsts = let (g, h) = p.front in ap (take (next + 1)) h ∙ take-append-le (next + 1) mid g (omega arith) ∙ take_more mid next v l ∙ ap (λ (w : ℕ). take next mid ++ w ∷ []) at

    closed : IsClosedTo n new (next + 1)
    closed k g o here i c lo = elim (Contains-push_cases (take next mid) v (gate_var n k) (subst (λ (zs : List ℕ). Contains zs (gate_var n k)) firsts i)) as (λ _. Contains new o.var) [
      | inl j ↦ let (more, h) = p.front in grown mid new more o.var h (d.closed k g o here j c lo)
      | inr q ↦
          let is : node_at n v ≡ node.Gate g = ap (node_at n) q ∙ node_of_gate n k g here in
          p.has o.var (subst (λ (m : Node). Contains (read_by m) o.var) (sym is) (in_map (λ (m : LitOf). m.var) (operands g) o c)) lo
    ]

    least : (test : ℕ → Bool) → HoldsBelow n test → ((w : ℕ) → Contains old w → test w ≡ true) → (w : ℕ) → Contains new w → test w ≡ true
    least test below begun w c = elim (p.only w c) as (λ _. test w ≡ true) [
      | inl i ↦ d.least test below begun w i
      | inr i ↦ by (node_at n v) refl i
    ]
      where
        has : test v ≡ true
        has = d.least test below begun v (next, l, at)

        by : (m : Node) → node_at n v ≡ m → Contains (read_by m) w → test w ≡ true
        by (node.State s) q i = absurd (none_in w i)
        by node.Input q i = absurd (none_in w i)
        by (node.Gate g) q i =
            let (k, here, var) = node_gate n v g q in
            let (o, j, z) = map_in (λ (m : LitOf). m.var) (operands g) w i in
            let lo = (All-contains (λ u. (1 < u) × (u < length seen)) new w search.within c).0 in
            subst (λ (u : ℕ). test u ≡ true) z (below k g o here (subst (λ (u : ℕ). test u ≡ true) (sym var) has) j (omega arith))

pub descends : (n : NetOf) (old new : List ℕ) (next : ℕ) → IsDescent n old new next → length new ≤ next → Descends n old new
descends n old new next d l = record {
  front = d.front;
  closed = subst (IsClosedTo n new) (let h = d.inside in let e : next ≡ length new = omega arith in e) d.closed;
  least = d.least;
}

-- no more has been found than there are variables
pub found_few : (seen : List Bool) (found : List ℕ) → IsSearch seen found → length found ≤ length seen
found_few seen found s = let e = s.count in let l = count_by-le-length (λ (b : Bool). b) seen in omega arith

-- what states take
pub takes_none : (n : NetOf) (found : List ℕ) → Takes n [] found found
takes_none n found = record { front = ([], sym (append-nil found)); has = λ k s at c. absurd (none_in (state_var k) c); only = λ v c. inl c }

pub takes_state : (n : NetOf) (vs a b c : List ℕ) (v : ℕ) (s : State) → 1 < v → node_at n v ≡ node.State s → Takes n vs a b → Visits (s.next.var ∷ []) b c → Takes n (vs ++ v ∷ []) a c
takes_state n vs a b c v s lo is p q =
    let (f, e) = p.front in
    let (g, h) = q.front in
    let (k, at, var) = node_state n v s lo is in
    record {
      front = (f ++ g, h ∙ ap (λ (z : List ℕ). z ++ g) e ∙ append_assoc a f g);
      has = λ j r here i l. (elim (Contains-push_cases vs v (state_var j) i) as (λ _. Contains c r.next.var) [
        | inl x ↦ grown b c g r.next.var h (p.has j r here x l)
        | inr x ↦
            let same : j ≡ k = let z : state_var k ≡ state_var j = var ∙ x in omega arith in
            let z : Some s ≡ Some r = sym at ∙ ap (slice_get n.states) (sym same) ∙ here in
            let w : s ≡ r = cc in
            q.has r.next.var (subst (λ (t : State). Contains (s.next.var ∷ []) t.next.var) w (head_in s.next.var [])) l
      ]);
      only = λ w i. (elim (q.only w i) as (λ _. Contains a w ⊎ ((j : ℕ) × (r : State) × (slice_get n.states j ≡ Some r) × Contains (vs ++ v ∷ []) (state_var j) × (r.next.var ≡ w))) [
        | inl x ↦ elim (p.only w x) as (λ _. Contains a w ⊎ ((j : ℕ) × (r : State) × (slice_get n.states j ≡ Some r) × Contains (vs ++ v ∷ []) (state_var j) × (r.next.var ≡ w))) [
          | inl y ↦ inl y
          | inr y ↦ inr (y.0, y.1, y.2, Contains-append_left vs (v ∷ []) (state_var y.0) y.3, y.4)
        ]
        | inr x ↦ elim (cases_in s.next.var [] w x) as (λ _. Contains a w ⊎ ((j : ℕ) × (r : State) × (slice_get n.states j ≡ Some r) × Contains (vs ++ v ∷ []) (state_var j) × (r.next.var ≡ w))) [
          | inl y ↦ inr (k, s, at, subst (Contains (vs ++ v ∷ [])) (sym var) (Contains-push vs v), y)
          | inr y ↦ absurd (none_in w y)
        ]
      ]);
    }

pub takes_other : (n : NetOf) (vs a b : List ℕ) (v : ℕ) → ((s : State) → node_at n v ≡ node.State s → ⊥) → Takes n vs a b → Takes n (vs ++ v ∷ []) a b
takes_other n vs a b v other p = record {
  front = p.front;
  has = λ j r here i l. (elim (Contains-push_cases vs v (state_var j) i) as (λ _. Contains b r.next.var) [
    | inl x ↦ p.has j r here x l
    | inr x ↦ absurd (other r (ap (node_at n) x ∙ node_of_state n j r here))
  ]);
  only = λ w i. (elim (p.only w i) as (λ _. Contains a w ⊎ ((j : ℕ) × (r : State) × (slice_get n.states j ≡ Some r) × Contains (vs ++ v ∷ []) (state_var j) × (r.next.var ≡ w))) [
    | inl y ↦ inl y
    | inr y ↦ inr (y.0, y.1, y.2, Contains-append_left vs (v ∷ []) (state_var y.0) y.3, y.4)
  ]);
}

-- one variable more of those after a place
pub part_more : (xs : List ℕ) (begin i v : ℕ) → begin ≤ i → i < length xs → get_or xs i v ≡ v → drop begin (take (i + 1) xs) ≡ drop begin (take i xs) ++ v ∷ []
part_more xs begin i v b l at =
    let short : begin ≤ length (take i xs) = let z = length-take i xs in omega arith in
    ap (drop begin) (take_more xs i v l ∙ ap (λ (w : ℕ). take i xs ++ w ∷ []) at) ∙ drop-append-le begin (take i xs) (v ∷ []) short

-- what stands at a place of the first variables stands there of more
pub front_at : (old new more : List ℕ) (i d : ℕ) → new ≡ old ++ more → i < length old → get_or new i d ≡ get_or old i d
front_at old new more i d e l = ap (λ (xs : List ℕ). get_or xs i d) e ∙ get_or-append old more d i l

pub takes_whole : (n : NetOf) (old new : List ℕ) (begin i j : ℕ) → j ≤ i → i ≤ j → Takes n (drop begin (take i old)) old new → Takes n (drop begin (take j old)) old new
takes_whole n old new begin i j p q t = subst (λ (k : ℕ). Takes n (drop begin (take k old)) old new) (let e : i ≡ j = omega arith in e) t
