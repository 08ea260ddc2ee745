-- Where the variables of both cycles stand.
use Rattle.std.proofs.Common.{◌≡◌, ℕ, zero, suc, ◌+◌, ◌-◌, ◌<◌, ◌≤◌, ◌^◌, Bool, true, false, cond, List, [], ◌∷◌, ◌++◌, Option, Some, None, All, length, map, take, get_or, refl, sym, ap, ◌∙◌, subst, inl, inr, arith, eqb, length-append}
use Rattle.std.specs.Prelude.{slice_get}
use Rattle.std.proofs.lemmas.Bool.{cases_lt, eq-eqb, eqb-true, lt-ltb}
use Rattle.std.proofs.Math.Nat.{le-max_left}
use Rattle.std.proofs.lemmas.List.{length-take}
use Rattle.std.proofs.lemmas.Option.{slice_get-get_or}
use Rattle.std.proofs.lemmas.List.Elements.{All-append, All-cons, All-head, All-nil, All-tail}
use Rattle.cnf_form.specs.Cnf.{LitOf, LitWithin}
use Rattle.cnf_form.specs.declared.literal.TheConstants.{MAX_VARS}
use Rattle.gate_graph.specs.declared.gate.Gate.{Gate}
use Rattle.gate_graph.specs.declared.gate.Gate.TheVariants.{And, Xor, Mux, Maj}
use Rattle.gate_graph.specs.Circuit.{GatesOf}
use Rattle.gate_graph.specs.Folding.{operands}
use Rattle.gate_graph.specs.Kept.{OthersWithin, lit_of, signed}
use Rattle.bit_net.specs.Net.{IsNet, NetOf, gate_var, input_var, node_at, state_var, vars}
use Rattle.bit_net.specs.declared.node.State.{State}
use Rattle.bit_net.specs.declared.node.Node.{Node}
use Rattle.bit_net.specs.declared.node.Node.TheVariants as node
use Rattle.bit_net.proofs.Extending.{Kind, get_less, get_some, kind_of, not_less}
use Rattle.bit_net.proofs.Extending.Kind.{truth, state, input, gate}
use Rattle.bit_net.proofs.Lists.{not_both}
use Rattle.bit_net.proofs.Needing.{node_of_state}
use Rattle.bit_net.proofs.Searching.{node_of_gate}
use Rattle.model_core.proofs.Lists.{app_cases}
use Rattle.frame_gates.proofs.Lists.{length_map, map_at, one_at}
use Rattle.net_unroll.proofs.Saying.{node_of_input}
use Rattle.net_unroll.proofs.Stepping.{lits_up}
use Rattle.pair_form.specs.declared.pair.Frame.{Frame}
use Rattle.pair_form.specs.declared.pair.Frame.TheVariants.{First, Second}
use Rattle.net_pair.specs.Laying.{with_gates}
use Rattle.net_pair.specs.Pairing.{before_gates, before_start, both, chain, digit_of, digits, gate_at, gates_at, later, later_by, lit_at, made, now, raised, start_gates}
use Rattle.net_pair.proofs.Laying.{chain_length, with_gates_vars}

-- what stands before the gates stays where it is in the first cycle, and the others move up
pub now_low : (n : NetOf) (l : LitOf) → l.var < gate_var n 0 → now n l ≡ l
now_low n l h = ap (λ (b : Bool). cond b l (raised n.inputs l)) (lt-ltb l.var (gate_var n 0) h)

pub now_high : (n : NetOf) (l : LitOf) → gate_var n 0 ≤ l.var → now n l ≡ raised n.inputs l
now_high n l h = ap (λ (b : Bool). cond b l (raised n.inputs l)) (not_less l.var (gate_var n 0) h)

pub now_within : (n : NetOf) (k : ℕ) (l : LitOf) → LitWithin (gate_var n k - 1) l → LitWithin (before_gates n First + k) (now n l)
now_within n k l (lo, hi) = elim (cases_lt l.var (gate_var n 0)) as (λ _. LitWithin (before_gates n First + k) (now n l)) [
  | inl h ↦ subst (LitWithin (before_gates n First + k)) (sym (now_low n l h)) (lo, omega arith)
  | inr h ↦ subst (LitWithin (before_gates n First + k)) (sym (now_high n l h)) (omega arith, omega arith)
]

-- a literal in the second cycle, by what its variable is
pub later_truth : (n : NetOf) (l : LitOf) → l.var ≡ 1 → later n l ≡ l
later_truth n l e = ap (λ (b : Bool). cond b l (later_by n (node_at n l.var) l)) (eq-eqb l.var 1 e)

not_truth : (v : ℕ) → 1 < v → eqb v 1 ≡ false
not_truth v h = not_both (eqb v 1) (λ e. (let z = eqb-true v 1 e in omega arith))

later_node : (n : NetOf) (l : LitOf) (m : Node) → 1 < l.var → node_at n l.var ≡ m → later n l ≡ later_by n m l
later_node n l m h e = ap (λ (b : Bool). cond b l (later_by n (node_at n l.var) l)) (not_truth l.var h) ∙ ap (λ (o : Node). later_by n o l) e

pub later_state : (n : NetOf) (k : ℕ) (s : State) (l : LitOf) → slice_get n.states k ≡ Some s → l.var ≡ state_var k → later n l ≡ signed l.negated (now n s.next)
later_state n k s l at e = later_node n l (node.State s) (omega arith) (ap (node_at n) e ∙ node_of_state n k s at)

pub later_input : (n : NetOf) (k : ℕ) (l : LitOf) → k < n.inputs → l.var ≡ input_var n k → later n l ≡ raised n.inputs l
later_input n k l h e = later_node n l node.Input (omega arith) (ap (node_at n) e ∙ node_of_input n k h)

pub later_gate : (n : NetOf) (k : ℕ) (g : Gate) (l : LitOf) → slice_get n.gates k ≡ Some g → l.var ≡ gate_var n k → later n l ≡ raised (n.inputs + length n.gates) l
later_gate n k g l at e = later_node n l (node.Gate g) (omega arith) (ap (node_at n) e ∙ node_of_gate n k g at)

signed_within : (n : ℕ) (s : Bool) (l : LitOf) → LitWithin n l → LitWithin n (signed s l)
signed_within n true l w = w
signed_within n false l w = w

pub within_more : (n m : ℕ) (l : LitOf) → n ≤ m → LitWithin n l → LitWithin m l
within_more n m l h (lo, hi) = (lo, omega arith)

pub later_within : (n : NetOf) (k : ℕ) (l : LitOf) → IsNet n → k ≤ length n.gates → LitWithin (gate_var n k - 1) l → LitWithin (before_gates n Second + k) (later n l)
later_within n k l net few (lo, hi) = by (kind_of n l.var lo (omega arith))
  where
    by : Kind n l.var → LitWithin (before_gates n Second + k) (later n l)
    by (truth e) = subst (LitWithin (before_gates n Second + k)) (sym (later_truth n l e)) (lo, omega arith)
    by (state j s at e) =
        let (a, b) = net.next j s at in
        subst (LitWithin (before_gates n Second + k)) (sym (later_state n j s l at e))
        (signed_within (before_gates n Second + k) l.negated (now n s.next) (within_more (before_gates n First + length n.gates) (before_gates n Second + k) (now n s.next) (omega arith) (now_within n (length n.gates) s.next (a, omega arith))))
    by (input j h e) = subst (LitWithin (before_gates n Second + k)) (sym (later_input n j l h e)) (omega arith, omega arith)
    by (gate j g at e) = subst (LitWithin (before_gates n Second + k)) (sym (later_gate n j g l at e)) (omega arith, omega arith)

pub lit_within : (n : NetOf) (t : Frame) (k : ℕ) (l : LitOf) → IsNet n → k ≤ length n.gates → LitWithin (gate_var n k - 1) l → LitWithin (before_gates n t + k) (lit_at n t l)
lit_within n First k l net few w = now_within n k l w
lit_within n Second k l net few w = later_within n k l net few w

pub gate_within : (n : NetOf) (t : Frame) (k : ℕ) (g : Gate) → IsNet n → k ≤ length n.gates → OthersWithin (gate_var n k - 1) (operands g) → OthersWithin (before_gates n t + k) (operands (gate_at n t g))
gate_within n t k (And a b) net few (p, (q, u)) = (lit_within n t k a net few p, (lit_within n t k b net few q, u))
gate_within n t k (Xor a b) net few (p, (q, u)) = (lit_within n t k a net few p, (lit_within n t k b net few q, u))
gate_within n t k (Mux s a b) net few (r, (p, (q, u))) = (lit_within n t k s net few r, (lit_within n t k a net few p, (lit_within n t k b net few q, u)))
gate_within n t k (Maj a b c) net few (p, (q, (r, u))) = (lit_within n t k a net few p, (lit_within n t k b net few q, (lit_within n t k c net few r, u)))

-- the literals of start digits are of states
digit_within : (k : ℕ) (d : Option Bool) (m : ℕ) → 2 + k ≤ m → All (LitWithin m) (digit_of k d)
digit_within k None m h = All-nil (LitWithin m)
digit_within k (Some b) m h = All-cons (LitWithin m) (lit_of (state_var k) b) [] (omega arith, omega arith) (All-nil (LitWithin m))

pub digits_within : (k : ℕ) (ss : List State) (m : ℕ) → 1 + k + length ss ≤ m → All (LitWithin m) (digits k ss)
digits_within k [] m h = All-nil (LitWithin m)
digits_within k (s ∷ ss) m h = All-append (LitWithin m) (digit_of k s.start) (digits (suc k) ss) (digit_within k s.start m (omega arith)) (digits_within (suc k) ss m (omega arith))

-- how many variables there are
pub both_vars : (n : NetOf) → vars (both n) ≡ before_start n + length (digits 0 n.states)
both_vars n =
    let a = length-append (gates_at n First) (gates_at n Second ++ start_gates n) in
    let b = length-append (gates_at n Second) (start_gates n) in
    let c = length_map (gate_at n First) n.gates in
    let d = length_map (gate_at n Second) n.gates in
    let e = chain_length (suc (before_start n)) (lit_of 1 true) (digits 0 n.states) in
    omega arith

pub map_back : {A B : Type 0} (f : A → B) (xs : List A) (k : ℕ) (y : B) → slice_get (map f xs) k ≡ Some y → (x : A) × (slice_get xs k ≡ Some x) × (f x ≡ y)
map_back f xs k y at =
    let l = get_less (map f xs) k y at in
    let m = length_map f xs in
    let (x, here) = get_some xs k (omega arith) in
    (x, here, one_at (map f xs) k (f x) y (map_at f xs k x here) at)

-- a gate of a chain reads what stands before it
chain_within : (n v : ℕ) (b : LitOf) (ls : List LitOf) (k : ℕ) (g : Gate) → v ≡ suc n → LitWithin n b → All (LitWithin n) ls → slice_get (chain v b ls) k ≡ Some g → OthersWithin (n + k) (operands g)
chain_within n v b [] k g e w ws at = absurd (let z : None ≡ Some g = at in cc)
chain_within n v b (l ∷ ls) zero g e w ws at =
    let z : Some (And b l) ≡ Some g = at in
    let here : And b l ≡ g = cc in
    subst (λ (h : Gate). OthersWithin (n + 0) (operands h)) here (within_more n (n + 0) b (omega arith) w, (within_more n (n + 0) l (omega arith) (All-head (LitWithin n) l ls ws), tt))
chain_within n v b (l ∷ ls) (suc k) g e w ws at =
    subst (λ (m : ℕ). OthersWithin m (operands g)) (let z : suc n + k ≡ n + suc k = omega arith in z)
    (chain_within (suc n) (suc v) (lit_of v true) ls k g (omega arith) (omega arith, omega arith) (lits_up n (suc n) ls (omega arith) (All-tail (LitWithin n) l ls ws)) at)

others_same : (n m : ℕ) (ls : List LitOf) → n ≡ m → OthersWithin n ls → OthersWithin m ls
others_same n m ls e w = subst (λ (k : ℕ). OthersWithin k ls) e w

pub both_gates : (n : NetOf) (k : ℕ) (g : Gate) → IsNet n → slice_get (both n).gates k ≡ Some g → OthersWithin (gate_var (both n) k - 1) (operands g)
both_gates n k g net at = elim (app_cases (gates_at n First) (gates_at n Second ++ start_gates n) k g at) as (λ _. OthersWithin (gate_var (both n) k - 1) (operands g)) [
  | inl h ↦
      let (o, here, e) = map_back (gate_at n First) n.gates k g h in
      let l = get_less n.gates k o here in
      subst (λ (j : Gate). OthersWithin (gate_var (both n) k - 1) (operands j)) e
      (others_same (before_gates n First + k) (gate_var (both n) k - 1) (operands (gate_at n First o)) (omega arith) (gate_within n First k o net (omega arith) (net.gates k o here)))
  | inr (i, p, r) ↦
      let c = length_map (gate_at n First) n.gates in
      elim (app_cases (gates_at n Second) (start_gates n) i g r) as (λ _. OthersWithin (gate_var (both n) k - 1) (operands g)) [
        | inl h ↦
            let (o, here, e) = map_back (gate_at n Second) n.gates i g h in
            let l = get_less n.gates i o here in
            subst (λ (j : Gate). OthersWithin (gate_var (both n) k - 1) (operands j)) e
            (others_same (before_gates n Second + i) (gate_var (both n) k - 1) (operands (gate_at n Second o)) (omega arith) (gate_within n Second i o net (omega arith) (net.gates i o here)))
        | inr (j, q, h) ↦
            let d = length_map (gate_at n Second) n.gates in
            others_same (before_start n + j) (gate_var (both n) k - 1) (operands g) (omega arith)
            (chain_within (before_start n) (suc (before_start n)) (lit_of 1 true) (digits 0 n.states) j g refl (omega arith, omega arith) (digits_within 0 n.states (before_start n) (omega arith)) h)
      ]
]

pub both_net : (n : NetOf) → IsNet n → vars (both n) ≤ MAX_VARS → IsNet (both n)
both_net n net few = record {
  limit = few;
  gates = λ k g at. both_gates n k g net at;
  next = λ k s at. absurd (let z : None ≡ Some s = at in cc);
  asserted = λ l e. absurd (let z : None ≡ Some l = e in cc);
  assumed = (omega arith, omega arith);
  covers = All-nil (LitWithin (vars (both n)));
}

pub fits : (n : NetOf) (bits : List (Option ℕ)) → made n bits ≤ 2 ^ 27 → vars (both n) ≤ MAX_VARS
fits n bits few = let m = le-max_left (vars (both n)) (length bits) in omega arith

pub before_few : (n : NetOf) (t : Frame) → before_gates n t + length n.gates ≤ before_start n
before_few n First = omega arith
before_few n Second = omega arith

pub place_at : {A : Type 0} (xs : List A) (i : ℕ) (x : A) → i < length xs → x ≡ get_or xs i x → slice_get xs i ≡ Some x
place_at xs i x h e = slice_get-get_or xs i x h ∙ ap Some (sym e)

-- how many variables there are once this many of a cycle's gates are there
pub cycle_room : (n : NetOf) (t : Frame) (old mid : GatesOf) (i : ℕ) → old.formula.vars ≡ before_gates n t → mid ≡ with_gates old (map (gate_at n t) (take i n.gates)) → i < length n.gates → mid.formula.vars ≡ before_gates n t + i
cycle_room n t old mid i v e h =
    let w : mid.formula.vars ≡ old.formula.vars + length (map (gate_at n t) (take i n.gates)) = ap (λ (g : GatesOf). g.formula.vars) e ∙ with_gates_vars old (map (gate_at n t) (take i n.gates)) in
    let l = length_map (gate_at n t) (take i n.gates) in
    let m = length-take i n.gates in
    w ∙ (let z : length (map (gate_at n t) (take i n.gates)) ≡ i = omega arith in ap (λ (k : ℕ). old.formula.vars + k) z) ∙ ap (λ (k : ℕ). k + i) v
