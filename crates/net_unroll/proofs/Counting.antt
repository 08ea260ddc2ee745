-- How many variables the steps of all cycles make, by counting.
use Rattle.std.proofs.Common.{◌≡◌, ℕ, zero, suc, ◌+◌, ◌-◌, ◌*◌, ◌<◌, ◌≤◌, Bool, true, false, ◌&&◌, not, cond, List, [], ◌∷◌, ◌++◌, Option, Some, None, refl, sym, ap, ◌∙◌, subst, arith, length}
use Rattle.std.specs.Prelude.{ltb, slice_get}
use Rattle.std.specs.List.{filter, flat_map}
use Rattle.std.proofs.lemmas.Bool.{lt-ltb}
use Rattle.cnf_form.specs.Cnf.{LitOf}
use Rattle.bit_net.specs.Net.{NetOf, gate_node, gate_var, input_var, node_at, state_node}
use Rattle.bit_net.specs.Reaching.{early_before, level, levels, nearer, nexts, numbers, reached}
use Rattle.bit_net.specs.declared.node.Node.{Node}
use Rattle.bit_net.specs.declared.node.Node.TheVariants as node
use Rattle.bit_net.specs.declared.node.State.{State}
use Rattle.bit_net.proofs.Needing.{levels_end, near_further}
use Rattle.net_unroll.specs.Asking.{goal_of}
use Rattle.net_unroll.specs.Counting.{most_made}
use Rattle.net_unroll.specs.Encoding.{bound_for, made, steps_bound}
use Rattle.net_unroll.specs.Program.{Step, cycle, first_steps, later_steps, needed, state_step, values, watch}
use Rattle.net_unroll.specs.Program.Step.{Assume, Pass, End}
use Rattle.net_unroll.specs.declared.asking.Asked.{Asked}
use Rattle.net_unroll.specs.declared.asking.Cycles.{Cycles}
use Rattle.net_unroll.proofs.Bounding.{bounded}

-- sums over variables
abbrev sum_of : (ℕ → ℕ) → List ℕ → ℕ
sum_of w [] = 0
sum_of w (v ∷ vs) = w v + sum_of w vs

sum_append : (w : ℕ → ℕ) (xs ys : List ℕ) → sum_of w (xs ++ ys) ≡ sum_of w xs + sum_of w ys
sum_append w [] ys = omega arith
sum_append w (x ∷ xs) ys = let e = sum_append w xs ys in omega arith

-- what passes two tests of which one is within the other
sum_split : (w : ℕ → ℕ) (f g : ℕ → Bool) → ((v : ℕ) → f v ≡ true → g v ≡ true) → (xs : List ℕ) → sum_of w (filter f xs) + sum_of w (filter (λ v. g v && not (f v)) xs) ≡ sum_of w (filter g xs)
sum_split w f g h [] = omega arith
sum_split w f g h (x ∷ xs) = by (f x) refl (g x) refl (sum_split w f g h xs)
  where
    by : (a : Bool) → f x ≡ a → (b : Bool) → g x ≡ b → sum_of w (filter f xs) + sum_of w (filter (λ v. g v && not (f v)) xs) ≡ sum_of w (filter g xs) →
        sum_of w (cond a (x ∷ filter f xs) (filter f xs)) + sum_of w (cond (b && not a) (x ∷ filter (λ v. g v && not (f v)) xs) (filter (λ v. g v && not (f v)) xs)) ≡ sum_of w (cond b (x ∷ filter g xs) (filter g xs))
    by true p true q rest = omega arith
    by true p false q rest = absurd (let z : true ≡ false = sym (h x p) ∙ q in cc)
    by false p true q rest = omega arith
    by false p false q rest = omega arith

sum_filter : (w : ℕ → ℕ) (f : ℕ → Bool) (xs : List ℕ) → sum_of w (filter f xs) ≤ sum_of w xs
sum_filter w f [] = omega arith
sum_filter w f (x ∷ xs) = by (f x) (sum_filter w f xs)
  where
    by : (b : Bool) → sum_of w (filter f xs) ≤ sum_of w xs → sum_of w (cond b (x ∷ filter f xs) (filter f xs)) ≤ w x + sum_of w xs
    by true h = omega arith
    by false h = omega arith

sum_none : (w : ℕ → ℕ) (xs : List ℕ) → sum_of w (filter (λ v. false) xs) ≡ 0
sum_none w [] = refl
sum_none w (x ∷ xs) = sum_none w xs

-- each variable stands in one level at most
levels_few : (n : NetOf) (now before : List LitOf) (w : ℕ → ℕ) (many : ℕ) → sum_of w (levels n now before many) ≤ sum_of w (numbers 2 (length n.states + n.inputs + length n.gates))
levels_few n now before w many =
    let e = levels_sum many in
    let l = sum_filter w (nearer n now before many) (numbers 2 (length n.states + n.inputs + length n.gates)) in
    omega arith
  where
    levels_sum : (d : ℕ) → sum_of w (levels n now before d) ≡ sum_of w (filter (nearer n now before d) (numbers 2 (length n.states + n.inputs + length n.gates)))
    levels_sum zero = sym (sum_none w (numbers 2 (length n.states + n.inputs + length n.gates)))
    levels_sum (suc d) =
        let e = ap (sum_of w) (levels_end n now before d) in
        let a = sum_append w (levels n now before d) (level n now before d) in
        let r = levels_sum d in
        let s = sum_split w (nearer n now before d) (reached n now before d) (near_further n now before d) (numbers 2 (length n.states + n.inputs + length n.gates)) in
        omega arith

-- numbers of which the first count for nothing
few_each : (w : ℕ → ℕ) (first count : ℕ) → ((v : ℕ) → first ≤ v → v < first + count → w v ≤ 1) → sum_of w (numbers first count) ≤ count
few_each w first zero h = omega arith
few_each w first (suc count) h =
    let a = h first (omega arith) (omega arith) in
    let b = few_each w (suc first) count (λ v p q. h v (omega arith) (omega arith)) in
    omega arith

few_last : (w : ℕ → ℕ) (first none count : ℕ) → ((v : ℕ) → first ≤ v → v < first + none → w v ≡ 0) → ((v : ℕ) → first + none ≤ v → v < first + none + count → w v ≤ 1) → sum_of w (numbers first (none + count)) ≤ count
few_last w first zero count g h =
    subst (λ (k : ℕ). sum_of w (numbers first k) ≤ count) (let z : count ≡ zero + count = omega arith in z) (few_each w first count (λ v p q. h v (omega arith) (omega arith)))
few_last w first (suc none) count g h =
    let a = g first (omega arith) (omega arith) in
    let b = few_last w (suc first) none count (λ v p q. g v (omega arith) (omega arith)) (λ v p q. h v (omega arith) (omega arith)) in
    subst (λ (k : ℕ). sum_of w (numbers first k) ≤ count) (let z : suc (none + count) ≡ suc none + count = omega arith in z) (omega arith)

-- steps
steps_append : (a b : List Step) → steps_bound (a ++ b) ≡ steps_bound a + steps_bound b
steps_append [] b = omega arith
steps_append (s ∷ a) b = let e = steps_append a b in omega arith

steps_each : (f : ℕ → List Step) (vs : List ℕ) → steps_bound (flat_map f vs) ≡ sum_of (λ v. steps_bound (f v)) vs
steps_each f [] = refl
steps_each f (v ∷ vs) = let a = steps_append (f v) (flat_map f vs) in let b = steps_each f vs in omega arith

first_few : (start : Bool) (v : ℕ) (k : Node) → steps_bound (first_steps start v k) ≤ 1
first_few start v node.Input = omega arith
first_few start v (node.Gate g) = omega arith
first_few start v (node.State s) = by start s.start
  where
    by : (start : Bool) (d : Option Bool) → steps_bound (state_step start v d ∷ []) ≤ 1
    by true (Some b) = omega arith
    by true None = omega arith
    by false d = omega arith

later_few : (t v : ℕ) (k : Node) → steps_bound (later_steps t v k) ≤ 1
later_few t v (node.State s) = omega arith
later_few t v node.Input = omega arith
later_few t v (node.Gate g) = omega arith

watch_few : (goal : LitOf) (c : Cycles) (t : ℕ) → steps_bound (watch goal c t) ≤ 3
watch_few goal c t = by (ltb t c.first) (ltb t c.end)
  where
    by : (a b : Bool) → steps_bound (cond a [] (cond b (Pass goal ∷ []) (End goal ∷ Pass goal ∷ []))) ≤ 3
    by true b = omega arith
    by false true = omega arith
    by false false = omega arith

module _ (n : NetOf) where
  abbrev open_parts : ℕ
  open_parts = n.inputs + length n.gates

  state_here : (v : ℕ) → 2 ≤ v → v < 2 + length n.states → (t : ℕ) → steps_bound (later_steps t v (node_at n v)) ≡ 0
  state_here v lo hi t =
      ap (λ (b : Bool). steps_bound (later_steps t v (cond b (state_node (slice_get n.states (v - 2))) (cond (ltb v (gate_var n 0)) node.Input (gate_node (slice_get n.gates (v - gate_var n 0)))))))
      (lt-ltb v (input_var n 0) (omega arith))
      ∙ by n.states (v - 2) (omega arith)
    where
      by : (states : List State) (k : ℕ) → k < length states → steps_bound (later_steps t v (state_node (slice_get states k))) ≡ 0
      by [] k l = absurd (omega arith)
      by (s ∷ states) zero l = refl
      by (s ∷ states) (suc k) l = by states k (omega arith)

  needed_few : (goal : LitOf) (c : Cycles) (t : ℕ) (w : ℕ → ℕ) → sum_of w (needed n goal c t) ≤ sum_of w (numbers 2 (length n.states + n.inputs + length n.gates))
  needed_few goal c t w = by (ltb t c.first)
    where
      by : (b : Bool) → sum_of w (cond b (levels n (n.assumed ∷ []) (nexts n (early_before n (goal ∷ n.assumed ∷ []))) (c.count - t)) (levels n (goal ∷ n.assumed ∷ []) [] (c.count - t))) ≤
          sum_of w (numbers 2 (length n.states + n.inputs + length n.gates))
      by true = levels_few n (n.assumed ∷ []) (nexts n (early_before n (goal ∷ n.assumed ∷ []))) w (c.count - t)
      by false = levels_few n (goal ∷ n.assumed ∷ []) [] w (c.count - t)

  first_cycle : (goal : LitOf) (c : Cycles) → steps_bound (cycle n goal c 0) ≤ length n.states + (open_parts + 4)
  first_cycle goal c =
      let e = steps_append (values n c 0 (needed n goal c 0)) (Assume n.assumed ∷ watch goal c 0) in
      let a = steps_each (λ v. first_steps c.start v (node_at n v)) (needed n goal c 0) in
      let b = needed_few goal c 0 (λ v. steps_bound (first_steps c.start v (node_at n v))) in
      let d = few_each (λ v. steps_bound (first_steps c.start v (node_at n v))) 2 (length n.states + n.inputs + length n.gates) (λ v p q. first_few c.start v (node_at n v)) in
      let w = watch_few goal c 0 in
      omega arith

  later_cycle : (goal : LitOf) (c : Cycles) (t : ℕ) → steps_bound (cycle n goal c (suc t)) ≤ open_parts + 4
  later_cycle goal c t =
      let e = steps_append (values n c (suc t) (needed n goal c (suc t))) (Assume n.assumed ∷ watch goal c (suc t)) in
      let a = steps_each (λ v. later_steps (suc t) v (node_at n v)) (needed n goal c (suc t)) in
      let b = needed_few goal c (suc t) (λ v. steps_bound (later_steps (suc t) v (node_at n v))) in
      let d = few_last (λ v. steps_bound (later_steps (suc t) v (node_at n v))) 2 (length n.states) open_parts
      (λ v p q. state_here v p q (suc t)) (λ v p q. later_few (suc t) v (node_at n v)) in
      let k : length n.states + n.inputs + length n.gates ≡ length n.states + open_parts = omega arith in
      let f = ap (λ (many : ℕ). sum_of (λ v. steps_bound (later_steps (suc t) v (node_at n v))) (numbers 2 many)) k in
      let w = watch_few goal c (suc t) in
      omega arith

  later_cycles : (goal : LitOf) (c : Cycles) (t many : ℕ) → steps_bound (flat_map (cycle n goal c) (numbers (suc t) many)) ≤ many * (open_parts + 4)
  later_cycles goal c t zero = omega arith
  later_cycles goal c t (suc many) =
      let e = steps_append (cycle n goal c (suc t)) (flat_map (cycle n goal c) (numbers (suc (suc t)) many)) in
      let a = later_cycle goal c t in
      let b = later_cycles goal c (suc t) many in
      let s : suc many * (open_parts + 4) ≡ (open_parts + 4) + many * (open_parts + 4) = grind arith in
      omega arith

  all_cycles : (goal : LitOf) (c : Cycles) (many : ℕ) → steps_bound (flat_map (cycle n goal c) (numbers 0 many)) ≤ length n.states + many * (open_parts + 4)
  all_cycles goal c zero = omega arith
  all_cycles goal c (suc many) =
      let e = steps_append (cycle n goal c 0) (flat_map (cycle n goal c) (numbers 1 many)) in
      let a = first_cycle goal c in
      let b = later_cycles goal c 0 many in
      let s : suc many * (open_parts + 4) ≡ (open_parts + 4) + many * (open_parts + 4) = grind arith in
      omega arith

  pub few_made : (a : Asked) (c : Cycles) → made n a c ≤ most_made n c.count
  few_made a c = let e = bounded n a c in let f = by (goal_of n a) in omega arith
    where
      by : (o : Option LitOf) → bound_for n c o ≤ most_made n c.count
      by None = omega arith
      by (Some goal) = let h = all_cycles goal c c.count in omega arith
