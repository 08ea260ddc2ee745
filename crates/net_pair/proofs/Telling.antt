-- What a frame of both cycles says of each.
use Rattle.std.proofs.Common.{◌≡◌, ℕ, zero, suc, ◌+◌, ◌-◌, ◌<◌, Bool, true, false, not, ◌&&◌, cond, List, [], ◌∷◌, ◌++◌, Option, Some, None, length, refl, sym, ap, ◌∙◌, subst, inl, inr, arith, eqb, ltb}
use Rattle.std.specs.Prelude.{Contains, slice_get}
use Rattle.std.specs.List.{flat_map}
use Rattle.cnf_form.specs.Cnf.{Assignment, LitOf, Satisfies, lit_in}
use Rattle.gate_graph.specs.declared.gate.Gate.{Gate}
use Rattle.gate_graph.specs.declared.gate.Gate.TheVariants.{And, Xor, Mux, Maj}
use Rattle.gate_graph.specs.Folding.{bit, clauses_of, majority, xor}
use Rattle.gate_graph.specs.Kept.{clauses_from, lit_of, signed}
use Rattle.gate_graph.proofs.OneTable.{lit_negated}
use Rattle.bit_net.specs.Net.{Follows, Frame, IsNet, NetOf, Starts, gate_var, input_var, node_at, state_var}
use Rattle.bit_net.specs.Reaching.{entries, numbered}
use Rattle.bit_net.specs.declared.node.State.{State}
use Rattle.bit_net.specs.declared.node.Node.{Node}
use Rattle.bit_net.specs.declared.node.Node.TheVariants as node
use Rattle.bit_net.proofs.Extending.{get_less}
use Rattle.bit_net.proofs.Lists.{and_both, both_and, cases_in, head_in, none_in, tail_in}
use Rattle.bit_net.proofs.Needing.{in_flat_map}
use Rattle.bit_net.proofs.Spreading.{in_numbered}
use Rattle.model_core.proofs.Lists.{app_left, app_right}
use Rattle.frame_gates.proofs.Lists.{length_map, map_at}
use Rattle.net_unroll.proofs.Finished.{gate_holds, gate_says}
use Rattle.net_unroll.proofs.Means.{flat_in}
use Rattle.pair_form.specs.declared.pair.Frame.{Frame as Which}
use Rattle.pair_form.specs.declared.pair.Frame.TheVariants.{First, Second}
use Rattle.net_pair.specs.Pairing.{all_of, before_start, both, chain, digit_of, digits, gate_at, gates_at, later_by, lit_at, now, raised, start_gates, start_lit}
use Rattle.net_pair.proofs.Placing.{later_gate, later_input, later_state, later_truth, now_high, now_low}

-- what a cycle has in an assignment of both
abbrev pub cycle_of : NetOf → Which → Assignment → Assignment
cycle_of n t x v = lit_in x (lit_at n t (lit_of v true))

signed_value : (x : Assignment) (s : Bool) (l : LitOf) → cond s (not (lit_in x l)) (lit_in x l) ≡ lit_in x (signed s l)
signed_value x true l = sym (lit_negated x l)
signed_value x false l = refl

-- a literal of the net has the value of what stands for it
pub lit_value : (n : NetOf) (t : Which) (x : Assignment) (l : LitOf) → lit_in x (lit_at n t l) ≡ lit_in (cycle_of n t x) l
lit_value n First x l = by (ltb l.var (gate_var n 0))
  where
    by : (b : Bool) → lit_in x (cond b l (raised n.inputs l)) ≡ cond l.negated (not (lit_in x (cond b (lit_of l.var true) (raised n.inputs (lit_of l.var true))))) (lit_in x (cond b (lit_of l.var true) (raised n.inputs (lit_of l.var true))))
    by true = refl
    by false = refl
lit_value n Second x l = by (eqb l.var 1) (node_at n l.var)
  where
    by : (b : Bool) (m : Node) → lit_in x (cond b l (later_by n m l)) ≡ cond l.negated (not (lit_in x (cond b (lit_of l.var true) (later_by n m (lit_of l.var true))))) (lit_in x (cond b (lit_of l.var true) (later_by n m (lit_of l.var true))))
    by true m = refl
    by false (node.State s) = sym (signed_value x l.negated (now n s.next))
    by false node.Input = refl
    by false (node.Gate g) = refl

bit_value : (n : NetOf) (t : Which) (x : Assignment) (g : Gate) → bit (gate_at n t g) x ≡ bit g (cycle_of n t x)
bit_value n t x (And a b) =
    ap (λ (c : Bool). c && lit_in x (lit_at n t b)) (lit_value n t x a) ∙ ap (λ (c : Bool). lit_in (cycle_of n t x) a && c) (lit_value n t x b)
bit_value n t x (Xor a b) =
    ap (λ (c : Bool). xor c (lit_in x (lit_at n t b))) (lit_value n t x a) ∙ ap (λ (c : Bool). xor (lit_in (cycle_of n t x) a) c) (lit_value n t x b)
bit_value n t x (Mux s a b) =
    ap (λ (c : Bool). cond c (lit_in x (lit_at n t b)) (lit_in x (lit_at n t a))) (lit_value n t x s)
    ∙ ap (λ (c : Bool). cond (lit_in (cycle_of n t x) s) c (lit_in x (lit_at n t a))) (lit_value n t x b)
    ∙ ap (λ (c : Bool). cond (lit_in (cycle_of n t x) s) (lit_in (cycle_of n t x) b) c) (lit_value n t x a)
bit_value n t x (Maj a b c) =
    ap (λ (d : Bool). majority d (lit_in x (lit_at n t b)) (lit_in x (lit_at n t c))) (lit_value n t x a)
    ∙ ap (λ (d : Bool). majority (lit_in (cycle_of n t x) a) d (lit_in x (lit_at n t c))) (lit_value n t x b)
    ∙ ap (λ (d : Bool). majority (lit_in (cycle_of n t x) a) (lit_in (cycle_of n t x) b) d) (lit_value n t x c)

-- literals are all true
abbrev pub all_true : Assignment → List LitOf → Bool
all_true x [] = true
all_true x (l ∷ ls) = lit_in x l && all_true x ls

and_assoc : (a b c : Bool) → ((a && b) && c) ≡ (a && (b && c))
and_assoc true b c = refl
and_assoc false b c = refl

and_true : (a : Bool) → (a && true) ≡ a
and_true true = refl
and_true false = refl

chain_value : (v : ℕ) (b : LitOf) (ls : List LitOf) (x : Assignment) → ((k : ℕ) (g : Gate) → slice_get (chain v b ls) k ≡ Some g → x (v + k) ≡ bit g x) → lit_in x (all_of v b ls) ≡ (lit_in x b && all_true x ls)
chain_value v b [] x h = sym (and_true (lit_in x b))
chain_value v b (l ∷ ls) x h =
    chain_value (suc v) (lit_of v true) ls x (λ k g at. ap x (let z : suc v + k ≡ v + suc k = omega arith in z) ∙ h (suc k) g at)
    ∙ ap (λ (c : Bool). c && all_true x ls) (ap x (let z : v ≡ v + 0 = omega arith in z) ∙ h 0 (And b l) refl)
    ∙ and_assoc (lit_in x b) (lit_in x l) (all_true x ls)

all_append : (x : Assignment) (ls ms : List LitOf) → all_true x (ls ++ ms) ≡ (all_true x ls && all_true x ms)
all_append x [] ms = refl
all_append x (l ∷ ls) ms = ap (λ (c : Bool). lit_in x l && c) (all_append x ls ms) ∙ sym (and_assoc (lit_in x l) (all_true x ls) (all_true x ms))

lit_of_value : (x : Assignment) (v : ℕ) (b : Bool) → lit_in x (lit_of v b) ≡ true → x v ≡ b
lit_of_value x v true h = h
lit_of_value x v false h = by (x v) h
  where
    by : (c : Bool) → not c ≡ true → c ≡ false
    by true k = absurd (let z : false ≡ true = k in cc)
    by false k = refl

value_lit_of : (x : Assignment) (v : ℕ) (b : Bool) → x v ≡ b → lit_in x (lit_of v b) ≡ true
value_lit_of x v true h = h
value_lit_of x v false h = ap not h

-- the digit of a state is the state's
digit_told : (x : Assignment) (k : ℕ) (d : Option Bool) (b : Bool) → d ≡ Some b → all_true x (digit_of k d) ≡ true → x (state_var k) ≡ b
digit_told x k None b e h = absurd (let z : None ≡ Some b = e in cc)
digit_told x k (Some c) b e h = let z : c ≡ b = cc in lit_of_value x (state_var k) c (both_and (lit_in x (lit_of (state_var k) c)) true h).0 ∙ z

digit_tells : (x : Assignment) (k : ℕ) (d : Option Bool) → ((b : Bool) → d ≡ Some b → x (state_var k) ≡ b) → all_true x (digit_of k d) ≡ true
digit_tells x k None h = refl
digit_tells x k (Some c) h = and_both (lit_in x (lit_of (state_var k) c)) true (value_lit_of x (state_var k) c (h c refl)) refl

digits_told : (x : Assignment) (k : ℕ) (ss : List State) → all_true x (digits k ss) ≡ true → (j : ℕ) (s : State) (b : Bool) → slice_get ss j ≡ Some s → s.start ≡ Some b → x (state_var (k + j)) ≡ b
digits_told x k [] h j s b at e = absurd (let z : None ≡ Some s = at in cc)
digits_told x k (t ∷ ss) h zero s b at e =
    let z : Some t ≡ Some s = at in
    let here : t ≡ s = cc in
    let front = (both_and (all_true x (digit_of k t.start)) (all_true x (digits (suc k) ss)) (sym (all_append x (digit_of k t.start) (digits (suc k) ss)) ∙ h)).0 in
    ap (λ (i : ℕ). x (state_var i)) (let q : k + 0 ≡ k = omega arith in q) ∙ digit_told x k t.start b (ap (λ (u : State). u.start) here ∙ e) front
digits_told x k (t ∷ ss) h (suc j) s b at e =
    let back = (both_and (all_true x (digit_of k t.start)) (all_true x (digits (suc k) ss)) (sym (all_append x (digit_of k t.start) (digits (suc k) ss)) ∙ h)).1 in
    ap (λ (i : ℕ). x (state_var i)) (let q : k + suc j ≡ suc k + j = omega arith in q) ∙ digits_told x (suc k) ss back j s b at e

digits_tell : (x : Assignment) (k : ℕ) (ss : List State) → ((j : ℕ) (s : State) (b : Bool) → slice_get ss j ≡ Some s → s.start ≡ Some b → x (state_var (k + j)) ≡ b) → all_true x (digits k ss) ≡ true
digits_tell x k [] h = refl
digits_tell x k (t ∷ ss) h =
    all_append x (digit_of k t.start) (digits (suc k) ss)
    ∙ and_both (all_true x (digit_of k t.start)) (all_true x (digits (suc k) ss))
    (digit_tells x k t.start (λ b e. ap (λ (i : ℕ). x (state_var i)) (let q : k ≡ k + 0 = omega arith in q) ∙ h 0 t b refl e))
    (digits_tell x (suc k) ss (λ j s b at e. ap (λ (i : ℕ). x (state_var i)) (let q : suc k + j ≡ k + suc j = omega arith in q) ∙ h (suc j) s b at e))

-- the clauses of a net say that its gates have their values
pub satisfied : (n : NetOf) (x : Assignment) → IsNet n → Satisfies x (clauses_from (entries n)) → Frame n x
satisfied n x net s = record {
  truth =
      let (l, c, e) = s (lit_of 1 true ∷ []) (head_in (lit_of 1 true ∷ []) (flat_map (λ (d : Gate × LitOf). clauses_of d.1 d.0) (entries n))) in
      elim (cases_in (lit_of 1 true) [] l c) as (λ _. x 1 ≡ true) [ inl z ↦ subst (λ (k : LitOf). lit_in x k ≡ true) (sym z) e | inr d ↦ absurd (none_in l d) ];
  gates = λ k g at. gate_says (gate_var n k) g (gate_var n k - 1) x (net.gates k g at) (λ d i.
      s d (tail_in (lit_of 1 true ∷ []) d (flat_map (λ (e : Gate × LitOf). clauses_of e.1 e.0) (entries n))
      (in_flat_map (λ (e : Gate × LitOf). clauses_of e.1 e.0) (entries n) (g, lit_of (gate_var n k) true) d (numbered_in (gate_var n 0) n.gates k (gate_var n k) g at (omega arith)) i)));
}
  where
    numbered_in : (first : ℕ) (gates : List Gate) (k v : ℕ) (g : Gate) → slice_get gates k ≡ Some g → v ≡ first + k → Contains (numbered first gates) (g, lit_of v true)
    numbered_in first [] k v g at e = absurd (let z : None ≡ Some g = at in cc)
    numbered_in first (h ∷ gates) zero v g at e =
        let z : Some h ≡ Some g = at in
        let here : h ≡ g = cc in
        let same : first ≡ v = omega arith in
        subst (λ (d : Gate × LitOf). Contains (numbered first (h ∷ gates)) d) (ap (λ (j : Gate). let d : Gate × LitOf = (j, lit_of first true) in d) here ∙ ap (λ (w : ℕ). let d : Gate × LitOf = (g, lit_of w true) in d) same)
        (head_in (h, lit_of first true) (numbered (suc first) gates))
    numbered_in first (h ∷ gates) (suc k) v g at e = tail_in (h, lit_of first true) (g, lit_of v true) (numbered (suc first) gates) (numbered_in (suc first) gates k v g at (omega arith))

pub satisfies : (n : NetOf) (x : Assignment) → IsNet n → Frame n x → Satisfies x (clauses_from (entries n))
satisfies n x net f c h = elim (cases_in (lit_of 1 true ∷ []) (flat_map (λ (e : Gate × LitOf). clauses_of e.1 e.0) (entries n)) c h) as (λ _. (l : LitOf) × Contains c l × (lit_in x l ≡ true)) [
  | inl e ↦ (lit_of 1 true, subst (λ (d : List LitOf). Contains d (lit_of 1 true)) e (head_in (lit_of 1 true) []), f.truth)
  | inr r ↦
      let (e, i, j) = flat_in (λ (e : Gate × LitOf). clauses_of e.1 e.0) (entries n) c r in
      let (k, g, at, q) = in_numbered (gate_var n 0) n.gates e i in
      let there : e ≡ (g, lit_of (gate_var n k) true) = sym q ∙ ap (λ (v : ℕ). let d : Gate × LitOf = (g, lit_of v true) in d) (let z : gate_var n 0 + k ≡ gate_var n k = omega arith in z) in
      gate_holds (gate_var n k) g (gate_var n k - 1) x (net.gates k g at) (f.gates k g at) c (subst (λ (d : Gate × LitOf). Contains (clauses_of d.1 d.0) c) there j)
]

module _ (n : NetOf) (x : Assignment) (f : Frame (both n) x) where
  -- what stands before the gates
  pub first_open : (v : ℕ) → v < gate_var n 0 → cycle_of n First x v ≡ x v
  first_open v h = ap (lit_in x) (now_low n (lit_of v true) h)

  pub second_input : (k : ℕ) → k < n.inputs → cycle_of n Second x (input_var n k) ≡ x (input_var n k + n.inputs)
  second_input k h = ap (lit_in x) (later_input n k (lit_of (input_var n k) true) h refl)

  pub second_state : (k : ℕ) (s : State) → slice_get n.states k ≡ Some s → cycle_of n Second x (state_var k) ≡ lit_in (cycle_of n First x) s.next
  second_state k s at = ap (lit_in x) (later_state n k s (lit_of (state_var k) true) at refl) ∙ lit_value n First x s.next

  pub first_frame : Frame n (cycle_of n First x)
  first_frame = record {
    truth = first_open 1 (omega arith) ∙ f.truth;
    gates = λ k g at.
        ap (lit_in x) (now_high n (lit_of (gate_var n k) true) (omega arith))
        ∙ ap x (let z : gate_var n k + n.inputs ≡ gate_var (both n) k = omega arith in z)
        ∙ f.gates k (gate_at n First g) (app_left (gates_at n First) (gates_at n Second ++ start_gates n) k (gate_at n First g) (map_at (gate_at n First) n.gates k g at))
        ∙ bit_value n First x g;
  }

  pub second_frame : Frame n (cycle_of n Second x)
  second_frame = record {
    truth = ap (lit_in x) (later_truth n (lit_of 1 true) refl) ∙ f.truth;
    gates = λ k g at.
        let c = length_map (gate_at n First) n.gates in
        ap (lit_in x) (later_gate n k g (lit_of (gate_var n k) true) at refl)
        ∙ ap x (let z : gate_var n k + (n.inputs + length n.gates) ≡ gate_var (both n) (length n.gates + k) = omega arith in z)
        ∙ f.gates (length n.gates + k) (gate_at n Second g)
        (app_right (gates_at n First) (gates_at n Second ++ start_gates n) k (length n.gates + k) (omega arith)
        ∙ app_left (gates_at n Second) (start_gates n) k (gate_at n Second g) (map_at (gate_at n Second) n.gates k g at))
        ∙ bit_value n Second x g;
  }

  pub follow : Follows n (cycle_of n First x) (cycle_of n Second x)
  follow k s at = second_state k s at

  start_value : lit_in x (start_lit n) ≡ all_true x (digits 0 n.states)
  start_value =
      let c = length_map (gate_at n First) n.gates in
      let d = length_map (gate_at n Second) n.gates in
      chain_value (suc (before_start n)) (lit_of 1 true) (digits 0 n.states) x (λ k g at.
      (ap x (let z : suc (before_start n) + k ≡ gate_var (both n) (length n.gates + (length n.gates + k)) = omega arith in z)
      ∙ f.gates (length n.gates + (length n.gates + k)) g
      (app_right (gates_at n First) (gates_at n Second ++ start_gates n) (length n.gates + k) (length n.gates + (length n.gates + k)) (omega arith)
      ∙ app_right (gates_at n Second) (start_gates n) k (length n.gates + k) (omega arith) ∙ at)))
      ∙ ap (λ (b : Bool). b && all_true x (digits 0 n.states)) f.truth

  pub start_told : lit_in x (start_lit n) ≡ true → Starts n (cycle_of n First x)
  start_told h k s b at e = let l = get_less n.states k s at in first_open (state_var k) (omega arith) ∙ ap (λ (i : ℕ). x (state_var i)) (let q : k ≡ 0 + k = omega arith in q) ∙ digits_told x 0 n.states (sym start_value ∙ h) k s b at e

  pub start_tells : Starts n (cycle_of n First x) → lit_in x (start_lit n) ≡ true
  start_tells h = start_value ∙ digits_tell x 0 n.states (λ k s b at e. (let l = get_less n.states k s at in ap (λ (i : ℕ). x (state_var i)) (let q : 0 + k ≡ k = omega arith in q) ∙ sym (first_open (state_var k) (omega arith)) ∙ h k s b at e))
