-- Unit propagation in the gates of both cycles.
use Rattle.std.proofs.Common.{◌≡◌, ℕ, zero, suc, ◌+◌, ◌*◌, ◌-◌, ◌<◌, ◌≤◌, ◌^◌, max, true, List, [], ◌∷◌, ◌++◌, Option, Some, length, refl, sym, ap, ◌∙◌, subst, arith}
use Rattle.std.specs.Prelude.{slice_get}
use Rattle.std.specs.List.{flat_map}
use Rattle.std.proofs.lemmas.List.{append_assoc, append-nil}
use Rattle.std.proofs.lemmas.List.Concat.{flat_map-cons}
use Rattle.std.proofs.lemmas.List.Elements.{All-append, All-cons, All-nil, Contains-append_left}
use Rattle.cnf_form.specs.Cnf.{ClauseWithin, LitOf, LitWithin, Within}
use Rattle.cnf_form.specs.declared.literal.TheConstants.{MAX_VARS}
use Rattle.gate_graph.specs.declared.gate.Gate.{Gate}
use Rattle.gate_graph.specs.Circuit.{IsFixed, IsGates}
use Rattle.gate_graph.specs.Folding.{clauses_of, operands}
use Rattle.gate_graph.specs.Kept.{OthersWithin, circuit_of, clauses_from, lit_of}
use Rattle.gate_graph.proofs.Keeping.{IsCircuit-start, IsGates-input}
use Rattle.gate_graph.proofs.Making.{IsGates-next}
use Rattle.bit_net.specs.Net.{IsNet, NetOf, gate_var, vars}
use Rattle.bit_net.specs.Reaching.{entries, numbered, numbers}
use Rattle.bit_net.proofs.Lists.{numbers_end, numbers_in}
use Rattle.net_pair.specs.Pairing.{both, made, now, pair_of}
use Rattle.net_pair.proofs.Laying.{digits_few}
use Rattle.net_pair.proofs.Placing.{both_gates, both_vars, fits, now_within}

abbrev clauses : List (Gate × LitOf) → List (List LitOf)
clauses es = flat_map (λ (e : Gate × LitOf). clauses_of e.1 e.0) es

inputs_are : (count : ℕ) → 1 + count ≤ MAX_VARS → IsGates (circuit_of (1 + count) ((lit_of 1 true ∷ []) ∷ []) (numbers 2 count))
inputs_are zero room = IsCircuit-start.gates
inputs_are (suc count) room =
    subst (λ (is : List ℕ). IsGates (circuit_of (1 + suc count) ((lit_of 1 true ∷ []) ∷ []) is)) (sym (numbers_end 2 count))
    (subst (λ (v : ℕ). IsGates (circuit_of v ((lit_of 1 true ∷ []) ∷ []) (numbers 2 count ++ (2 + count) ∷ []))) (let z : 1 + count + 1 ≡ 1 + suc count = omega arith in z)
    (subst (λ (v : ℕ). IsGates (circuit_of (1 + count + 1) ((lit_of 1 true ∷ []) ∷ []) (numbers 2 count ++ v ∷ []))) (let z : 1 + count + 1 ≡ 2 + count = omega arith in z)
    (IsGates-input (1 + count) ((lit_of 1 true ∷ []) ∷ []) (numbers 2 count) (inputs_are count (omega arith)) (omega arith))))

gates_are : (v w first : ℕ) (F : List (List LitOf)) (is : List ℕ) (gs : List Gate) → IsGates (circuit_of v F is) → first ≡ suc v → w ≡ v + length gs → w ≤ MAX_VARS →
    ((k : ℕ) (g : Gate) → slice_get gs k ≡ Some g → OthersWithin (v + k) (operands g)) → IsGates (circuit_of w (F ++ clauses (numbered first gs)) is)
gates_are v w first F is [] g e q room h =
    subst (λ (G : List (List LitOf)). IsGates (circuit_of w G is)) (sym (append-nil F)) (subst (λ (u : ℕ). IsGates (circuit_of u F is)) (let z : v ≡ w = omega arith in z) g)
gates_are v w first F is (k ∷ gs) g e q room h =
    let reads : OthersWithin v (operands k) = subst (λ (u : ℕ). OthersWithin u (operands k)) (let z : v + 0 ≡ v = omega arith in z) (h 0 k refl) in
    let next = IsGates-next v F k reads is g (omega arith) in
    let named = subst (λ (u : ℕ). IsGates (circuit_of (v + 1) (F ++ clauses_of (lit_of u true) k) is)) (let z : v + 1 ≡ first = omega arith in z) next in
    let here = subst (λ (u : ℕ). IsGates (circuit_of u (F ++ clauses_of (lit_of first true) k) is)) (let z : v + 1 ≡ suc v = omega arith in z) named in
    let rest = gates_are (suc v) w (suc first) (F ++ clauses_of (lit_of first true) k) is gs here (omega arith) (omega arith) room (λ j o at. subst (λ (u : ℕ). OthersWithin u (operands o)) (let z : v + suc j ≡ suc v + j = omega arith in z) (h (suc j) o at)) in
    subst (λ (G : List (List LitOf)). IsGates (circuit_of w G is))
    (append_assoc F (clauses_of (lit_of first true) k) (clauses (numbered (suc first) gs)) ∙ ap (λ (G : List (List LitOf)). F ++ G) (sym (flat_map-cons (λ (d : Gate × LitOf). clauses_of d.1 d.0) (k, lit_of first true) (numbered (suc first) gs))))
    rest

pub both_are : (n : NetOf) → IsNet n → vars (both n) ≤ MAX_VARS → IsGates (circuit_of (vars (both n)) (clauses_from (entries (both n))) (numbers 2 (both n).inputs))
both_are n net few = gates_are (1 + (both n).inputs) (vars (both n)) (gate_var (both n) 0) ((lit_of 1 true ∷ []) ∷ []) (numbers 2 (both n).inputs) (both n).gates (inputs_are (both n).inputs (omega arith)) (omega arith) (omega arith) few
    (λ k g at. subst (λ (u : ℕ). OthersWithin u (operands g)) (let z : gate_var (both n) k - 1 ≡ 1 + (both n).inputs + k = omega arith in z) (both_gates n k g net at))

pub all_fixed : (n : NetOf) (bits : List (Option ℕ)) → IsNet n → made n bits ≤ 2 ^ 27 → (more : List (List LitOf)) → ((v : ℕ) → 1 < v → v < gate_var (both n) 0 → IsFixed ((pair_of n bits).formula.clauses ++ more) v) →
    (v : ℕ) → 0 < v → v ≤ vars (both n) → IsFixed ((pair_of n bits).formula.clauses ++ more) v
all_fixed n bits net few more given v lo hi = (both_are n net (fits n bits few)).fixed ((pair_of n bits).formula.clauses ++ more)
    (λ c h. Contains-append_left (pair_of n bits).formula.clauses more c (Contains-append_left (clauses_from (entries (both n))) ((now n n.assumed ∷ []) ∷ []) c h))
    (λ u h. (let (a, b) = numbers_in 2 (both n).inputs u h in given u (omega arith) (omega arith))) v lo hi

pub all_within : (n : NetOf) (bits : List (Option ℕ)) → IsNet n → made n bits ≤ 2 ^ 27 → Within (vars (both n)) (pair_of n bits).formula.clauses
all_within n bits net few =
    let a = (both_are n net (fits n bits few)).within in
    let (lo, hi) = now_within n (length n.gates) n.assumed (let (p, q) = net.assumed in (p, omega arith)) in
    let b = both_vars n in
    let unit : ClauseWithin (vars (both n)) (now n n.assumed ∷ []) = All-cons (LitWithin (vars (both n))) (now n n.assumed) [] (lo, omega arith) (All-nil (LitWithin (vars (both n)))) in
    All-append (ClauseWithin (vars (both n))) (clauses_from (entries (both n))) ((now n n.assumed ∷ []) ∷ []) a
    (All-cons (ClauseWithin (vars (both n))) (now n n.assumed ∷ []) [] unit (All-nil (ClauseWithin (vars (both n)))))

pub counted : (n : NetOf) (bits : List (Option ℕ)) → made n bits ≤ 1 + max (1 + 2 * length n.states + 2 * n.inputs + 2 * length n.gates) (length bits)
counted n bits = let b = both_vars n in let d = digits_few 0 n.states in omega arith
