-- What is reached by register steps.
use Rattle.std.proofs.Common.{◌≡◌, ℕ, zero, suc, ◌+◌, Bool, true, ◌||◌, List, Some, subst, inl, inr, arith}
use Rattle.std.specs.Prelude.{Contains, slice_get}
use Rattle.cnf_form.specs.Cnf.{LitOf}
use Rattle.gate_graph.specs.declared.gate.Gate.{Gate}
use Rattle.gate_graph.specs.Folding.{operands}
use Rattle.bit_net.specs.Net.{IsNet, NetOf, gate_var, state_var}
use Rattle.bit_net.specs.Reaching.{IsReach, entries, is_one_of, reached, taken}
use Rattle.bit_net.specs.declared.node.State.{State}
use Rattle.bit_net.proofs.Lists.{in_one_of, one_of_in, or_cases, or_left, or_right}
use Rattle.bit_net.proofs.Spreading.{in_taken, net_closed, net_least, spread_has, taken_in}

abbrev rest_of : NetOf → List LitOf → List LitOf → ℕ → ℕ → Bool
rest_of n now before d v = taken 0 n.states (reached n now before d) v || is_one_of before v

pub further : (n : NetOf) (now before : List LitOf) (d v : ℕ) → reached n now before d v ≡ true → reached n now before (suc d) v ≡ true
further n now before d v h = spread_has (entries n) (λ w. reached n now before d w || rest_of n now before d w) v (or_left (reached n now before d v) (rest_of n now before d v) h)

pub at_now : (n : NetOf) (now before : List LitOf) (d : ℕ) (l : LitOf) → Contains now l → reached n now before d l.var ≡ true
at_now n now before zero l c = spread_has (entries n) (is_one_of now) l.var (in_one_of now l c)
at_now n now before (suc d) l c = further n now before d l.var (at_now n now before d l c)

pub at_before : (n : NetOf) (now before : List LitOf) (d : ℕ) (l : LitOf) → Contains before l → reached n now before (suc d) l.var ≡ true
at_before n now before d l c = spread_has (entries n) (λ w. reached n now before d w || rest_of n now before d w) l.var
    (or_right (reached n now before d l.var) (rest_of n now before d l.var) (or_right (taken 0 n.states (reached n now before d) l.var) (is_one_of before l.var) (in_one_of before l c)))

pub at_gate : (n : NetOf) (now before : List LitOf) (d k : ℕ) (g : Gate) (o : LitOf) → IsNet n → slice_get n.gates k ≡ Some g → reached n now before d (gate_var n k) ≡ true → Contains (operands g) o → reached n now before d o.var ≡ true
at_gate n now before zero k g o net at h c = net_closed n (is_one_of now) k g o net at h c
at_gate n now before (suc d) k g o net at h c = net_closed n (λ w. reached n now before d w || rest_of n now before d w) k g o net at h c

pub at_state : (n : NetOf) (now before : List LitOf) (d k : ℕ) (s : State) → slice_get n.states k ≡ Some s → reached n now before d (state_var k) ≡ true → reached n now before (suc d) s.next.var ≡ true
at_state n now before d k s at h = spread_has (entries n) (λ w. reached n now before d w || rest_of n now before d w) s.next.var
    (or_right (reached n now before d s.next.var) (rest_of n now before d s.next.var) (or_left (taken 0 n.states (reached n now before d) s.next.var) (is_one_of before s.next.var)
    (in_taken 0 n.states (reached n now before d) k s at (subst (λ (i : ℕ). reached n now before d (state_var i) ≡ true) (let e : k ≡ 0 + k = omega arith in e) h))))

pub least : (n : NetOf) (now before : List LitOf) (test : ℕ → ℕ → Bool) → IsReach n now before test → (d v : ℕ) → reached n now before d v ≡ true → test d v ≡ true
least n now before test r zero v h = net_least n (λ w. test 0 w ≡ true) (is_one_of now) (λ k g o at p c. r.gates 0 k g o at p c)
    (λ w b. (let (l, c, e) = one_of_in now w b in subst (λ u. test 0 u ≡ true) e (r.asked 0 l c))) v h
least n now before test r (suc d) v h = net_least n (λ w. test (suc d) w ≡ true) (λ w. reached n now before d w || rest_of n now before d w) (λ k g o at p c. r.gates (suc d) k g o at p c) (begun (least n now before test r d)) v h
  where
    begun : ((w : ℕ) → reached n now before d w ≡ true → test d w ≡ true) → (w : ℕ) → (reached n now before d w || rest_of n now before d w) ≡ true → test (suc d) w ≡ true
    begun below w b = elim (or_cases (reached n now before d w) (rest_of n now before d w) b) as (λ _. test (suc d) w ≡ true) [
      | inl a ↦ r.further d w (below w a)
      | inr a ↦ elim (or_cases (taken 0 n.states (reached n now before d) w) (is_one_of before w) a) as (λ _. test (suc d) w ≡ true) [
        | inl t ↦
            let (i, s, at, p, e) = taken_in 0 n.states (reached n now before d) w t in
            let q = below (state_var (0 + i)) p in
            subst (λ u. test (suc d) u ≡ true) e (r.states d i s at (subst (λ (j : ℕ). test d (state_var j) ≡ true) (let z : 0 + i ≡ i = omega arith in z) q))
        | inr t ↦ let (l, c, e) = one_of_in before w t in subst (λ u. test (suc d) u ≡ true) e (r.asked_before d l c)
      ]
    ]
