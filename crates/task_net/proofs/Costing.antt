-- The net of a slice takes no more variables than that of its model.
use Rattle.std.proofs.Common.{◌≡◌, ℕ, ◌+◌, ◌≤◌, Bool, true, false, not, cond, List, [], ◌∷◌, ◌++◌, length, map, refl, ap, ◌∙◌, ◌*◌, arith}
use Rattle.std.specs.List.{filter, sum_by}
use Rattle.std.proofs.lemmas.List.Filters.{length-filter_both}
use Rattle.std.proofs.lemmas.List.Sums.{sum_by-append, sum_by-cons}
use Rattle.model_core.specs.Shape.{ModelOf, NodeOf, RegisterOf, states}
use Rattle.frame_gates.specs.Costs.{frame_vars, next_gates, node_gates}
use Rattle.frame_net.specs.NetOf.{net_cost}
use Rattle.model_cone.specs.Slice.{has_kept, kept_registers, narrowed, sliced, sliced_node, zeroes}
use Rattle.model_cone.proofs.Slicing.{slice-states}

fewer : {A : Type 0} (test : A → Bool) (xs : List A) → length (filter test xs) ≤ length xs
fewer test xs = let e = length-filter_both test (λ x. not (test x)) (λ x. refl) xs in omega arith

no-gates : (z : ℕ) (ps : List ℕ) → sum_by node_gates (map (λ p. zeroes z (p ∷ [])) ps) ≡ 0
no-gates z [] = refl
no-gates z (p ∷ ps) =
    let r = no-gates z ps in
    let e = sum_by-cons node_gates (zeroes z (p ∷ [])) (map (λ p. zeroes z (p ∷ [])) ps) in
    let g : node_gates (zeroes z (p ∷ [])) ≡ 0 = refl in
    omega arith

node-less : (keep : ℕ → Bool) (z : ℕ) (n : NodeOf) → node_gates (sliced_node keep z n) ≤ node_gates n
node-less keep z n = by (has_kept keep n.y)
  where
    by : (b : Bool) → node_gates (cond b n (zeroes z n.y)) ≤ node_gates n
    by true = omega arith
    by false = let g : node_gates (zeroes z n.y) ≡ 0 = refl in omega arith

nodes-less : (keep : ℕ → Bool) (z : ℕ) (ns : List NodeOf) → sum_by node_gates (map (sliced_node keep z) ns) ≤ sum_by node_gates ns
nodes-less keep z [] = omega arith
nodes-less keep z (n ∷ ns) =
    let r = nodes-less keep z ns in
    let a = sum_by-cons node_gates (sliced_node keep z n) (map (sliced_node keep z) ns) in
    let b = sum_by-cons node_gates n ns in
    let l = node-less keep z n in
    omega arith

-- the choices for what a register has next
abbrev two_each : RegisterOf → ℕ
two_each r = 2 * length r.q

next-less : (keep : ℕ → Bool) (rs : List RegisterOf) → sum_by two_each (kept_registers keep rs) ≤ sum_by two_each rs
next-less keep [] = omega arith
next-less keep (r ∷ rs) = by (has_kept keep r.q) (next-less keep rs)
  where
    by : (b : Bool) → sum_by two_each (kept_registers keep rs) ≤ sum_by two_each rs
        → sum_by two_each (map (narrowed keep) (cond b (r ∷ filter (λ (r : RegisterOf). has_kept keep r.q) rs) (filter (λ (r : RegisterOf). has_kept keep r.q) rs))) ≤ sum_by two_each (r ∷ rs)
    by true h =
        let a = sum_by-cons two_each (narrowed keep r) (kept_registers keep rs) in
        let e : sum_by two_each (r ∷ rs) ≡ two_each r + sum_by two_each rs = sum_by-cons two_each r rs in
        let l = fewer keep r.q in
        let kept : two_each (narrowed keep r) ≡ 2 * length (filter keep r.q) = refl in
        omega arith
    by false h = let e : sum_by two_each (r ∷ rs) ≡ two_each r + sum_by two_each rs = sum_by-cons two_each r rs in omega arith

module _ (m : ModelOf) (keep : ℕ → Bool) where
  abbrev left-nodes : List NodeOf
  left-nodes = map (λ p. zeroes m.zero (p ∷ [])) (filter (λ p. not (keep p)) (states m ++ m.inputs))

  vars-less : frame_vars (sliced keep m) ≤ frame_vars m
  vars-less =
      let a = sum_by-append node_gates (map (sliced_node keep m.zero) m.nodes) left-nodes in
      let b = nodes-less keep m.zero m.nodes in
      let c = no-gates m.zero (filter (λ p. not (keep p)) (states m ++ m.inputs)) in
      let d = fewer keep m.inputs in
      omega arith

  states-less : length (states (sliced keep m)) ≤ length (states m)
  states-less =
      let e : length (states (sliced keep m)) ≡ length (filter keep (states m)) = ap (λ (ps : List ℕ). length ps) (slice-states keep m) in
      let l = fewer keep (states m) in
      omega arith

  pub slice-less : net_cost (sliced keep m) ≤ net_cost m
  slice-less = let v = vars-less in let n : next_gates (sliced keep m) ≤ next_gates m = next-less keep m.registers in let s = states-less in omega arith
