-- What literals rest on within a cycle.
use Rattle.std.proofs.Common.{◌≡◌, ℕ, zero, suc, ◌+◌, ◌-◌, Bool, true, false, ◌&&◌, List, [], ◌∷◌, Some, None, refl, sym, ap, ◌∙◌, subst, inl, inr, arith, eqb}
use Rattle.std.specs.Prelude.{Contains, slice_get}
use Rattle.std.proofs.lemmas.Bool.{eq-eqb, eqb-true}
use Rattle.cnf_form.specs.Cnf.{LitOf}
use Rattle.gate_graph.specs.declared.gate.Gate.{Gate}
use Rattle.gate_graph.specs.Folding.{operands}
use Rattle.gate_graph.specs.Kept.{OthersWithin, lit_of}
use Rattle.bit_net.specs.Net.{IsNet, NetOf, gate_var, state_var}
use Rattle.bit_net.specs.Reaching.{entries, is_one_of, numbered, spread, taken}
use Rattle.bit_net.specs.declared.node.State.{State}
use Rattle.bit_net.proofs.Lists.{and_both, both_and, cases_in, head_in, in_one_of, none_in, one_of_in, or_cases, or_left, or_right, others_in, tail_in}

pub spread_has : (es : List (Gate × LitOf)) (test : ℕ → Bool) (v : ℕ) → test v ≡ true → spread es test v ≡ true
spread_has [] test v h = h
spread_has (e ∷ es) test v h = or_left (spread es test v) (spread es test e.1.var && is_one_of (operands e.0) v) (spread_has es test v h)

pub spread_least : (P : ℕ → Type 0) (es : List (Gate × LitOf)) (test : ℕ → Bool) → ((e : Gate × LitOf) (o : LitOf) → Contains es e → P e.1.var → Contains (operands e.0) o → P o.var) →
    ((v : ℕ) → test v ≡ true → P v) → (v : ℕ) → spread es test v ≡ true → P v
spread_least P [] test closed begun v h = begun v h
spread_least P (e ∷ es) test closed begun v h =
    elim (or_cases (spread es test v) (spread es test e.1.var && is_one_of (operands e.0) v) h) as (λ _. P v) [
      | inl l ↦ spread_least P es test (λ d o c. closed d o (tail_in e d es c)) begun v l
      | inr r ↦
          let (a, b) = both_and (spread es test e.1.var) (is_one_of (operands e.0) v) r in
          let (o, c, q) = one_of_in (operands e.0) v b in
          subst P q (closed e o (head_in e es) (spread_least P es test (λ d o c. closed d o (tail_in e d es c)) begun e.1.var a) c)
    ]

pub in_numbered : (first : ℕ) (gates : List Gate) (e : Gate × LitOf) → Contains (numbered first gates) e → (k : ℕ) × (g : Gate) × (slice_get gates k ≡ Some g) × ((g, lit_of (first + k) true) ≡ e)
in_numbered first [] e c = absurd (none_in e c)
in_numbered first (g ∷ gates) e c = elim (cases_in (g, lit_of first true) (numbered (suc first) gates) e c) as (λ _. (k : ℕ) × (h : Gate) × (slice_get (g ∷ gates) k ≡ Some h) × ((h, lit_of (first + k) true) ≡ e)) [
  | inl q ↦ (0, g, refl, ap (λ (n : ℕ). let z : Gate × LitOf = (g, lit_of n true) in z) (let s : first + 0 ≡ first = omega arith in s) ∙ q)
  | inr r ↦
      let (k, h, at, q) = in_numbered (suc first) gates e r in
      (suc k, h, at, ap (λ (n : ℕ). let z : Gate × LitOf = (h, lit_of n true) in z) (let s : first + suc k ≡ suc first + k = omega arith in s) ∙ q)
]

-- operands stand before their gates
abbrev pub AreBelow : ℕ → List Gate → Type 0
AreBelow first gates = (k : ℕ) (g : Gate) → slice_get gates k ≡ Some g → OthersWithin (first + k - 1) (operands g)

others_less : (m n : ℕ) (ls : List LitOf) → m ≡ n → OthersWithin m ls → OthersWithin n ls
others_less m n ls e w = subst (λ k. OthersWithin k ls) e w

pub spread_closed : (first : ℕ) (gates : List Gate) (test : ℕ → Bool) (k v : ℕ) (g : Gate) (o : LitOf) → AreBelow first gates → slice_get gates k ≡ Some g → v ≡ first + k →
    spread (numbered first gates) test v ≡ true → Contains (operands g) o → spread (numbered first gates) test o.var ≡ true
spread_closed first [] test k v g o below at e h c = absurd (let z : None ≡ Some g = at in cc)
spread_closed first (j ∷ gates) test zero v g o below at e h c =
    let z : Some j ≡ Some g = at in
    let same : j ≡ g = cc in
    let here : after first ≡ true = elim (or_cases (after v) (after first && is_one_of (operands j) v) h) as (λ _. after first ≡ true) [
      | inl l ↦ subst (λ (n : ℕ). after n ≡ true) (let s : v ≡ first = omega arith in s) l
      | inr r ↦ (both_and (after first) (is_one_of (operands j) v) r).0
    ] in
    or_right (after o.var) (after first && is_one_of (operands j) o.var) (and_both (after first) (is_one_of (operands j) o.var) here (in_one_of (operands j) o (subst (λ (i : Gate). Contains (operands i) o) (sym same) c)))
  where
    after : ℕ → Bool
    after = spread (numbered (suc first) gates) test
spread_closed first (j ∷ gates) test (suc k) v g o below at e h c =
    or_left (spread (numbered (suc first) gates) test o.var) (spread (numbered (suc first) gates) test first && is_one_of (operands j) o.var)
    (spread_closed (suc first) gates test k v g o (λ i q a. others_less (first + suc i - 1) (suc first + i - 1) (operands q) (omega arith) (below (suc i) q a)) at (omega arith) later c)
  where
    later : spread (numbered (suc first) gates) test v ≡ true
    later = elim (or_cases (spread (numbered (suc first) gates) test v) (spread (numbered (suc first) gates) test first && is_one_of (operands j) v) h) as (λ _. spread (numbered (suc first) gates) test v ≡ true) [
      | inl l ↦ l
      | inr r ↦
          let (l, i, q) = one_of_in (operands j) v (both_and (spread (numbered (suc first) gates) test first) (is_one_of (operands j) v) r).1 in
          absurd (let (a, b) = others_in (first + 0 - 1) (operands j) l (below 0 j refl) i in omega arith)
    ]

pub net_closed : (n : NetOf) (test : ℕ → Bool) (k : ℕ) (g : Gate) (o : LitOf) → IsNet n → slice_get n.gates k ≡ Some g → spread (entries n) test (gate_var n k) ≡ true → Contains (operands g) o → spread (entries n) test o.var ≡ true
net_closed n test k g o net at h c = spread_closed (gate_var n 0) n.gates test k (gate_var n k) g o (λ i q a. others_less (gate_var n i - 1) (gate_var n 0 + i - 1) (operands q) (omega arith) (net.gates i q a)) at (omega arith) h c

pub net_least : (n : NetOf) (P : ℕ → Type 0) (test : ℕ → Bool) → ((k : ℕ) (g : Gate) (o : LitOf) → slice_get n.gates k ≡ Some g → P (gate_var n k) → Contains (operands g) o → P o.var) →
    ((v : ℕ) → test v ≡ true → P v) → (v : ℕ) → spread (entries n) test v ≡ true → P v
net_least n P test closed begun v h = spread_least P (entries n) test by begun v h
  where
    by : (e : Gate × LitOf) (o : LitOf) → Contains (entries n) e → P e.1.var → Contains (operands e.0) o → P o.var
    by e o c p i =
        let (k, g, at, q) = in_numbered (gate_var n 0) n.gates e c in
        let var : gate_var n 0 + k ≡ e.1.var = ap (λ (d : Gate × LitOf). d.1.var) q in
        let s : gate_var n k ≡ e.1.var = let t : gate_var n k ≡ gate_var n 0 + k = omega arith in t ∙ var in
        closed k g o at (subst P (sym s) p) (subst (λ (j : Gate). Contains (operands j) o) (sym (ap (λ (d : Gate × LitOf). d.0) q)) i)

-- what states take next
pub taken_in : (k : ℕ) (states : List State) (test : ℕ → Bool) (v : ℕ) → taken k states test v ≡ true → (i : ℕ) × (s : State) × (slice_get states i ≡ Some s) × (test (state_var (k + i)) ≡ true) × (s.next.var ≡ v)
taken_in k [] test v h = absurd (let z : false ≡ true = h in cc)
taken_in k (s ∷ states) test v h =
    elim (or_cases (test (state_var k) && eqb s.next.var v) (taken (suc k) states test v) h) as (λ _. (i : ℕ) × (r : State) × (slice_get (s ∷ states) i ≡ Some r) × (test (state_var (k + i)) ≡ true) × (r.next.var ≡ v)) [
      | inl a ↦
          let (p, q) = both_and (test (state_var k)) (eqb s.next.var v) a in
          (0, s, refl, subst (λ (n : ℕ). test (state_var n) ≡ true) (let e : k ≡ k + 0 = omega arith in e) p, eqb-true s.next.var v q)
      | inr a ↦
          let (i, r, at, t, q) = taken_in (suc k) states test v a in
          (suc i, r, at, subst (λ (n : ℕ). test (state_var n) ≡ true) (let e : suc k + i ≡ k + suc i = omega arith in e) t, q)
    ]

pub in_taken : (k : ℕ) (states : List State) (test : ℕ → Bool) (i : ℕ) (s : State) → slice_get states i ≡ Some s → test (state_var (k + i)) ≡ true → taken k states test s.next.var ≡ true
in_taken k [] test i s at t = absurd (let z : None ≡ Some s = at in cc)
in_taken k (r ∷ states) test zero s at t =
    let z : Some r ≡ Some s = at in
    let same : r ≡ s = cc in
    or_left (test (state_var k) && eqb r.next.var s.next.var) (taken (suc k) states test s.next.var)
    (and_both (test (state_var k)) (eqb r.next.var s.next.var) (subst (λ (n : ℕ). test (state_var n) ≡ true) (let e : k + 0 ≡ k = omega arith in e) t) (eq-eqb r.next.var s.next.var (ap (λ (q : State). q.next.var) same)))
in_taken k (r ∷ states) test (suc i) s at t =
    or_right (test (state_var k) && eqb r.next.var s.next.var) (taken (suc k) states test s.next.var)
    (in_taken (suc k) states test i s at (subst (λ (n : ℕ). test (state_var n) ≡ true) (let e : k + suc i ≡ suc k + i = omega arith in e) t))
