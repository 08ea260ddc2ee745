-- A window of a part extends to one of the net.
use Rattle.std.proofs.Common.{◌≡◌, ℕ, zero, suc, ◌-◌, ◌<◌, ◌≤◌, Bool, true, false, not, ◌&&◌, cond, List, [], ◌∷◌, Option, Some, None, length, refl, sym, ap, ◌∙◌, subst, inl, inr, arith, eqb, ltb}
use Rattle.std.specs.Prelude.{Contains, slice_get}
use Rattle.std.proofs.lemmas.Bool.{eqb-true, ltb-true, lt-ltb, cases_eq, cases_lt}
use Rattle.cnf_form.specs.Cnf.{LitOf, Assignment, lit_in}
use Rattle.gate_graph.specs.declared.gate.Gate.{Gate}
use Rattle.gate_graph.specs.declared.gate.Gate.TheVariants.{And, Xor, Mux, Maj}
use Rattle.gate_graph.specs.Folding.{bit, majority, operands, xor}
use Rattle.bit_net.specs.Net.{Frame, IsNet, NetOf, Run, Starts, Window, gate_var, input_var, state_var, vars}
use Rattle.bit_net.specs.Needs.{Extends, IsNeed, PartRun, PartWindow}
use Rattle.bit_net.specs.declared.node.State.{State}
use Rattle.bit_net.proofs.Lists.{head_in, not_both, others_in, tail_in}

-- a gate's bit is told by its operands' variables
lit_same : (x y : Assignment) (l : LitOf) → x l.var ≡ y l.var → lit_in x l ≡ lit_in y l
lit_same x y l e = ap (λ (b : Bool). cond l.negated (not b) b) e

pub bit_same : (x y : Assignment) (k : Gate) → ((o : LitOf) → Contains (operands k) o → x o.var ≡ y o.var) → bit k x ≡ bit k y
bit_same x y (And a b) h =
    let p = lit_same x y a (h a (head_in a (b ∷ []))) in
    let q = lit_same x y b (h b (tail_in a b (b ∷ []) (head_in b []))) in
    ap (λ (c : Bool). c && lit_in x b) p ∙ ap (λ (c : Bool). lit_in y a && c) q
bit_same x y (Xor a b) h =
    let p = lit_same x y a (h a (head_in a (b ∷ []))) in
    let q = lit_same x y b (h b (tail_in a b (b ∷ []) (head_in b []))) in
    ap (λ (c : Bool). xor c (lit_in x b)) p ∙ ap (λ (c : Bool). xor (lit_in y a) c) q
bit_same x y (Mux s a b) h =
    let r = lit_same x y s (h s (head_in s (a ∷ b ∷ []))) in
    let p = lit_same x y a (h a (tail_in s a (a ∷ b ∷ []) (head_in a (b ∷ [])))) in
    let q = lit_same x y b (h b (tail_in s b (a ∷ b ∷ []) (tail_in a b (b ∷ []) (head_in b [])))) in
    ap (λ (c : Bool). cond c (lit_in x b) (lit_in x a)) r
    ∙ ap (λ (c : Bool). cond (lit_in y s) c (lit_in x a)) q
    ∙ ap (λ (c : Bool). cond (lit_in y s) (lit_in y b) c) p
bit_same x y (Maj a b c) h =
    let p = lit_same x y a (h a (head_in a (b ∷ c ∷ []))) in
    let q = lit_same x y b (h b (tail_in a b (b ∷ c ∷ []) (head_in b (c ∷ [])))) in
    let r = lit_same x y c (h c (tail_in a c (b ∷ c ∷ []) (tail_in b c (c ∷ []) (head_in c [])))) in
    ap (λ (d : Bool). majority d (lit_in x b) (lit_in x c)) p
    ∙ ap (λ (d : Bool). majority (lit_in y a) d (lit_in x c)) q
    ∙ ap (λ (d : Bool). majority (lit_in y a) (lit_in y b) d) r

-- what stands at a place
pub get_some : {A : Type 0} (xs : List A) (k : ℕ) → k < length xs → (x : A) × (slice_get xs k ≡ Some x)
get_some [] k h = absurd (omega arith)
get_some (x ∷ xs) zero h = (x, refl)
get_some (x ∷ xs) (suc k) h = get_some xs k (omega arith)

pub get_less : {A : Type 0} (xs : List A) (k : ℕ) (x : A) → slice_get xs k ≡ Some x → k < length xs
get_less [] k x h = absurd (let z : None ≡ Some x = h in cc)
get_less (y ∷ xs) zero x h = omega arith
get_less (y ∷ xs) (suc k) x h = let r = get_less xs k x h in omega arith

pub not_less : (a b : ℕ) → b ≤ a → ltb a b ≡ false
not_less a b h = not_both (ltb a b) (λ e. (let l = ltb-true a b e in omega arith))

-- the gate of a variable, and the state
abbrev pub gate_of : NetOf → ℕ → Option Gate
gate_of n v = cond (ltb v (gate_var n 0)) None (slice_get n.gates (v - gate_var n 0))

abbrev pub state_of : NetOf → ℕ → Option State
state_of n v = cond (ltb v (input_var n 0)) (slice_get n.states (v - 2)) None

pub gate_of_gate : (n : NetOf) (k : ℕ) → gate_of n (gate_var n k) ≡ slice_get n.gates k
gate_of_gate n k =
    let f = not_less (gate_var n k) (gate_var n 0) (omega arith) in
    ap (λ (b : Bool). cond b None (slice_get n.gates (gate_var n k - gate_var n 0))) f ∙ ap (slice_get n.gates) (let e : gate_var n k - gate_var n 0 ≡ k = omega arith in e)

pub gate_of_open : (n : NetOf) (v : ℕ) → v < gate_var n 0 → gate_of n v ≡ None
gate_of_open n v h = ap (λ (b : Bool). cond b None (slice_get n.gates (v - gate_var n 0))) (lt-ltb v (gate_var n 0) h)

pub gate_of_some : (n : NetOf) (v : ℕ) (g : Gate) → gate_of n v ≡ Some g → (k : ℕ) × (slice_get n.gates k ≡ Some g) × (v ≡ gate_var n k)
gate_of_some n v g h = by (ltb v (gate_var n 0)) refl h
  where
    by : (b : Bool) → ltb v (gate_var n 0) ≡ b → cond b None (slice_get n.gates (v - gate_var n 0)) ≡ Some g → (k : ℕ) × (slice_get n.gates k ≡ Some g) × (v ≡ gate_var n k)
    by true e k = absurd (let z : None ≡ Some g = k in cc)
    by false e k = (
      v - gate_var n 0,
      k,
      elim (cases_lt v (gate_var n 0)) as (λ _. v ≡ gate_var n (v - gate_var n 0)) [
        | inl l ↦ absurd (let t = lt-ltb v (gate_var n 0) l in let z : true ≡ false = sym t ∙ e in cc)
        | inr l ↦ omega arith
      ],
    )

pub state_of_state : (n : NetOf) (k : ℕ) → k < length n.states → state_of n (state_var k) ≡ slice_get n.states k
state_of_state n k h =
    ap (λ (b : Bool). cond b (slice_get n.states (state_var k - 2)) None) (lt-ltb (state_var k) (input_var n 0) (omega arith)) ∙ ap (slice_get n.states) (let e : state_var k - 2 ≡ k = omega arith in e)

pub state_of_input : (n : NetOf) (k : ℕ) → state_of n (input_var n k) ≡ None
state_of_input n k = ap (λ (b : Bool). cond b (slice_get n.states (input_var n k - 2)) None) (not_less (input_var n k) (input_var n 0) (omega arith))

-- what a variable is
pub data Kind (n : NetOf) (v : ℕ) : Type 0 where
  truth : v ≡ 1 → Kind n v
  state : (k : ℕ) (s : State) → slice_get n.states k ≡ Some s → v ≡ state_var k → Kind n v
  input : (k : ℕ) → k < n.inputs → v ≡ input_var n k → Kind n v
  gate : (k : ℕ) (g : Gate) → slice_get n.gates k ≡ Some g → v ≡ gate_var n k → Kind n v

pub kind_of : (n : NetOf) (v : ℕ) → 0 < v → v ≤ vars n → Kind n v
kind_of n v p w = elim (cases_eq v 1) as (λ _. Kind n v) [
  | inl e ↦ truth e
  | inr ne ↦ elim (cases_lt v (input_var n 0)) as (λ _. Kind n v) [
    | inl l ↦ let (s, at) = get_some n.states (v - 2) (omega arith) in state (v - 2) s at (omega arith)
    | inr m ↦ elim (cases_lt v (gate_var n 0)) as (λ _. Kind n v) [
      | inl l ↦ input (v - input_var n 0) (omega arith) (omega arith)
      | inr o ↦ let (g, at) = get_some n.gates (v - gate_var n 0) (omega arith) in gate (v - gate_var n 0) g at (omega arith)
    ]
  ]
]

-- the values of a cycle: gates by what they read, round after round
abbrev put_gate : Option Gate → Assignment → Bool → Bool
put_gate None y b = b
put_gate (Some g) y b = bit g y

abbrev round : NetOf → Assignment → Assignment → Assignment
round n x y v = cond (eqb v 1) true (put_gate (gate_of n v) y (x v))

abbrev rounds : NetOf → Assignment → ℕ → Assignment
rounds n x zero = x
rounds n x (suc b) = round n x (rounds n x b)

stable : (n : NetOf) (x : Assignment) (b v : ℕ) → IsNet n → v < b → rounds n x b v ≡ rounds n x (suc b) v
stable n x zero v net h = absurd (omega arith)
stable n x (suc b) v net h = ap (cond (eqb v 1) true) (by (gate_of n v) refl (λ u l. stable n x b u net l))
  where
    by : (o : Option Gate) → gate_of n v ≡ o → ((u : ℕ) → u < b → rounds n x b u ≡ rounds n x (suc b) u) → put_gate o (rounds n x b) (x v) ≡ put_gate o (rounds n x (suc b)) (x v)
    by None e below = refl
    by (Some g) e below =
        let (k, at, q) = gate_of_some n v g e in
        bit_same (rounds n x b) (rounds n x (suc b)) g (λ o c. (let (lo, hi) = others_in (gate_var n k - 1) (operands g) o (net.gates k g at) c in below o.var (omega arith)))

pub evaluated : NetOf → Assignment → Assignment
evaluated n x = rounds n x (suc (vars n))

pub evaluated_frame : (n : NetOf) (x : Assignment) → IsNet n → Frame n (evaluated n x)
unfolding evaluated
evaluated_frame n x net = record { truth = refl; gates = gates }
  where
    gates : (k : ℕ) (g : Gate) → slice_get n.gates k ≡ Some g → rounds n x (suc (vars n)) (gate_var n k) ≡ bit g (rounds n x (suc (vars n)))
    gates k g at =
        let inside = get_less n.gates k g at in
        let s = stable n x (suc (vars n)) (gate_var n k) net (omega arith) in
        let ne : eqb (gate_var n k) 1 ≡ false = not_both (eqb (gate_var n k) 1) (λ e. (let z = eqb-true (gate_var n k) 1 e in omega arith)) in
        s ∙ ap (λ (b : Bool). cond b true (put_gate (gate_of n (gate_var n k)) (rounds n x (suc (vars n))) (x (gate_var n k)))) ne
        ∙ ap (λ (o : Option Gate). put_gate o (rounds n x (suc (vars n))) (x (gate_var n k))) (gate_of_gate n k ∙ at)

pub evaluated_open : (n : NetOf) (x : Assignment) (v : ℕ) → 1 < v → v < gate_var n 0 → evaluated n x v ≡ x v
unfolding evaluated
evaluated_open n x v lo hi =
    let ne : eqb v 1 ≡ false = not_both (eqb v 1) (λ e. (let z = eqb-true v 1 e in omega arith)) in
    ap (λ (b : Bool). cond b true (put_gate (gate_of n v) (rounds n x (vars n)) (x v))) ne ∙ ap (λ (o : Option Gate). put_gate o (rounds n x (vars n)) (x v)) (gate_of_open n v hi)

-- a literal, or what is chosen
abbrev pick : Option State → Assignment → Bool → Bool
pick None y b = b
pick (Some s) y b = lit_in y s.next

-- a frame that has a part's values at what is open and needed has them at all that is needed
same_below : (n : NetOf) (need : ℕ → Bool) (x y : Assignment) → IsNet n → x 1 ≡ true → ((k : ℕ) (g : Gate) → slice_get n.gates k ≡ Some g → need (gate_var n k) ≡ true → x (gate_var n k) ≡ bit g x) →
    ((k : ℕ) (g : Gate) (o : LitOf) → slice_get n.gates k ≡ Some g → need (gate_var n k) ≡ true → Contains (operands g) o → need o.var ≡ true) → Frame n y →
    ((v : ℕ) → 1 < v → v < gate_var n 0 → need v ≡ true → y v ≡ x v) → (b v : ℕ) → v < b → 0 < v → v ≤ vars n → need v ≡ true → y v ≡ x v
same_below n need x y net one gates closed frame begun zero v h p w d = absurd (omega arith)
same_below n need x y net one gates closed frame begun (suc b) v h p w d = by (kind_of n v p w) (λ u l q z e. same_below n need x y net one gates closed frame begun b u l q z e)
  where
    by : Kind n v → ((u : ℕ) → u < b → 0 < u → u ≤ vars n → need u ≡ true → y u ≡ x u) → y v ≡ x v
    by (truth e) below = subst (λ (u : ℕ). y u ≡ x u) (sym e) (frame.truth ∙ sym one)
    by (state k s at e) below = let i = get_less n.states k s at in begun v (omega arith) (omega arith) d
    by (input k l e) below = begun v (omega arith) (omega arith) d
    by (gate k g at e) below =
        let i = get_less n.gates k g at in
        let has : need (gate_var n k) ≡ true = subst (λ (u : ℕ). need u ≡ true) e d in
        let low : (o : LitOf) → Contains (operands g) o → y o.var ≡ x o.var = λ o c.
        (let (a, z) = others_in (gate_var n k - 1) (operands g) o (net.gates k g at) c in
        below o.var (omega arith) a (omega arith) (closed k g o at has c)) in
        subst (λ (u : ℕ). y u ≡ x u) (sym e) (frame.gates k g at ∙ bit_same y x g low ∙ sym (gates k g at has))

pub some_frame : (n : NetOf) (x : Assignment) → IsNet n → (y : Assignment) × Frame n y × ((v : ℕ) → 1 < v → v < gate_var n 0 → y v ≡ x v)
some_frame n x net = (evaluated n x, evaluated_frame n x net, λ v lo hi. evaluated_open n x v lo hi)

pub one_frame : (n : NetOf) (x y : Assignment) → IsNet n → Frame n x → Frame n y → ((v : ℕ) → 1 < v → v < gate_var n 0 → x v ≡ y v) → (v : ℕ) → 0 < v → v ≤ vars n → x v ≡ y v
one_frame n x y net f g same v p w =
    sym (same_below n (λ _. true) x y net f.truth (λ k h at d. f.gates k h at) (λ k h o at d c. refl) g (λ u lo hi d. sym (same u lo hi)) (suc v) v (omega arith) p w refl)

module _ (n : NetOf) (count : ℕ) (need : ℕ → ℕ → Bool) (rest xs : ℕ → Assignment) (net : IsNet n) (closed : IsNeed n count need) (part : PartWindow n count need xs) where
  abbrev chosen : ℕ → Assignment
  chosen t v = cond (need t v) (xs t v) (rest t v)

  abbrev sources : ℕ → Assignment → Assignment
  sources t y v = pick (state_of n v) y (chosen (suc t) v)

  abbrev ys : ℕ → Assignment
  ys zero = evaluated n (chosen 0)
  ys (suc t) = evaluated n (sources t (ys t))

  holds : (t : ℕ) → Frame n (ys t)
  holds zero = evaluated_frame n (chosen 0) net
  holds (suc t) = evaluated_frame n (sources t (ys t)) net

  at_open : (t v : ℕ) (b : Bool) → need t v ≡ b → chosen t v ≡ cond b (xs t v) (rest t v)
  at_open t v b e = ap (λ (c : Bool). cond c (xs t v) (rest t v)) e

  needed_by : (t v : ℕ) → t < count → 0 < v → v ≤ vars n → need t v ≡ true → ((v : ℕ) → 1 < v → v < gate_var n 0 → need t v ≡ true → ys t v ≡ xs t v) → ys t v ≡ xs t v
  needed_by t v l p w d begun =
      same_below n (need t) (xs t) (ys t) net (part.truth t l) (λ k g at h. part.gates t k g l at h) (λ k g o at h c. closed.gates t k g o l at h c) (holds t) begun (suc v) v (omega arith) p w d

  follows : (t k : ℕ) (s : State) → slice_get n.states k ≡ Some s → ys (suc t) (state_var k) ≡ lit_in (ys t) s.next
  follows t k s at =
      let i = get_less n.states k s at in
      evaluated_open n (sources t (ys t)) (state_var k) (omega arith) (omega arith)
      ∙ ap (λ (o : Option State). pick o (ys t) (chosen (suc t) (state_var k))) (state_of_state n k i ∙ at)

  input_is : (t k : ℕ) → k < n.inputs → ys t (input_var n k) ≡ chosen t (input_var n k)
  input_is zero k l = evaluated_open n (chosen 0) (input_var n k) (omega arith) (omega arith)
  input_is (suc t) k l =
      evaluated_open n (sources t (ys t)) (input_var n k) (omega arith) (omega arith)
      ∙ ap (λ (o : Option State). pick o (ys t) (chosen (suc t) (input_var n k))) (state_of_input n k)

  needed : (t v : ℕ) → t < count → 0 < v → v ≤ vars n → need t v ≡ true → ys t v ≡ xs t v
  needed zero v l p w d = needed_by 0 v l p w d (λ u lo hi h. evaluated_open n (chosen 0) u lo hi ∙ at_open 0 u true h)
  needed (suc t) v l p w d = needed_by (suc t) v l p w d (begun (λ u a b c h. needed t u a b c h))
    where
      begun : ((u : ℕ) → t < count → 0 < u → u ≤ vars n → need t u ≡ true → ys t u ≡ xs t u) → (u : ℕ) → 1 < u → u < gate_var n 0 → need (suc t) u ≡ true → ys (suc t) u ≡ xs (suc t) u
      begun before u lo hi h = by (kind_of n u (omega arith) (omega arith))
        where
          by : Kind n u → ys (suc t) u ≡ xs (suc t) u
          by (truth e) = absurd (omega arith)
          by (state k s at e) =
              let has : need (suc t) (state_var k) ≡ true = subst (λ (z : ℕ). need (suc t) z ≡ true) e h in
              let (a, b) = net.next k s at in
              let same = lit_same (ys t) (xs t) s.next (before s.next.var (omega arith) a b (closed.states t k s l at has)) in
              subst (λ (z : ℕ). ys (suc t) z ≡ xs (suc t) z) (sym e) (follows t k s at ∙ same ∙ sym (part.follows t k s l at has))
          by (input k i e) =
              let has : need (suc t) (input_var n k) ≡ true = subst (λ (z : ℕ). need (suc t) z ≡ true) e h in
              subst (λ (z : ℕ). ys (suc t) z ≡ xs (suc t) z) (sym e) (input_is (suc t) k i ∙ at_open (suc t) (input_var n k) true has)
          by (gate k g at e) = absurd (omega arith)

  extended : Extends n count need rest xs ys
  extended = record {
    window = record { frames = λ t l. holds t; follows = λ t l k s at. follows t k s at };
    needed = needed;
    states = λ k s at h. (let i = get_less n.states k s at in evaluated_open n (chosen 0) (state_var k) (omega arith) (omega arith) ∙ at_open 0 (state_var k) false h);
    inputs = λ t k l h. input_is t k l ∙ at_open t (input_var n k) false h;
  }

pub extend : (n : NetOf) (count : ℕ) (need : ℕ → ℕ → Bool) (rest xs : ℕ → Assignment) → IsNet n → IsNeed n count need → PartWindow n count need xs → (ys : ℕ → Assignment) × Extends n count need rest xs ys
extend n count need rest xs net closed part = (ys n count need rest xs net closed part, extended n count need rest xs net closed part)

-- where the choices keep the start digits, a run's part extends to a run
pub extend_run : (n : NetOf) (count : ℕ) (need : ℕ → ℕ → Bool) (rest xs : ℕ → Assignment) → IsNet n → IsNeed n count need → PartRun n count need xs → Starts n (rest 0) →
    (ys : ℕ → Assignment) × Extends n count need rest xs ys × Run n count ys
extend_run n count need rest xs net closed part digits =
    let (ys, e) = extend n count need rest xs net closed part.window in
    (ys, e, record { window = e.window; starts = starts ys e })
  where
    starts : (ys : ℕ → Assignment) → Extends n count need rest xs ys → 0 < count → Starts n (ys 0)
    starts ys e some k s b at d = by (need 0 (state_var k)) refl
      where
        by : (c : Bool) → need 0 (state_var k) ≡ c → ys 0 (state_var k) ≡ b
        by true h = let i = get_less n.states k s at in e.needed 0 (state_var k) some (omega arith) (omega arith) h ∙ part.starts some k s b at d h
        by false h = e.states k s at h ∙ digits k s b at d

pub part_of : (n : NetOf) (count : ℕ) (need : ℕ → ℕ → Bool) (xs : ℕ → Assignment) → Window n count xs → PartWindow n count need xs
part_of n count need xs w = record {
  truth = λ t l. (w.frames t l).truth;
  gates = λ t k g l at h. (w.frames t l).gates k g at;
  follows = λ t k s l at h. w.follows t l k s at;
}

pub part_of_run : (n : NetOf) (count : ℕ) (need : ℕ → ℕ → Bool) (xs : ℕ → Assignment) → Run n count xs → PartRun n count need xs
part_of_run n count need xs r = record { window = part_of n count need xs r.window; starts = λ some k s b at d h. r.starts some k s b at d }
