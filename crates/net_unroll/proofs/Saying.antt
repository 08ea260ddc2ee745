-- What the steps of cycles say.
use Rattle.std.proofs.Common.{◌≡◌, ◌⊎◌, ℕ, zero, suc, ◌+◌, ◌-◌, ◌<◌, ◌≤◌, Bool, true, false, not, ◌&&◌, cond, ltb, List, [], ◌∷◌, ◌++◌, Option, Some, None, refl, sym, ap, ◌∙◌, subst, inl, inr, arith, map}
use Rattle.std.specs.Prelude.{Contains, slice_get}
use Rattle.std.specs.List.{flat_map}
use Rattle.std.proofs.lemmas.Bool.{cases_Bool, cases_lt, lt-ltb}
use Rattle.std.proofs.lemmas.Grind.{flat_map-append}
use Rattle.std.proofs.lemmas.List.{append-nil, map-append}
use Rattle.cnf_form.specs.Cnf.{Assignment, LitOf, LitWithin, lit_in}
use Rattle.gate_graph.specs.declared.gate.Gate.{Gate}
use Rattle.gate_graph.specs.Folding.{bit}
use Rattle.bit_net.specs.Net.{IsNet, NetOf, Window, gate_node, gate_var, input_var, node_at, state_node, state_var, vars}
use Rattle.bit_net.specs.Needs.{Extends, PartWindow}
use Rattle.bit_net.specs.Reaching.{early_before, is_needed, levels, nearer, nexts, numbers}
use Rattle.bit_net.specs.declared.node.State.{State}
use Rattle.bit_net.specs.declared.node.Node.{Node}
use Rattle.bit_net.specs.declared.node.Node.TheVariants as node
use Rattle.bit_net.proofs.Extending.{Kind, extend, get_less, kind_of, not_less, one_frame}
use Rattle.bit_net.proofs.Extending.Kind.{truth, state, input, gate}
use Rattle.bit_net.proofs.Lists.{and_both, both_and, not_both, not_true, numbers_end, true_not}
use Rattle.bit_net.proofs.Needing.{levels_in, needs_in, node_of_state}
use Rattle.bit_net.proofs.Reached.{at_now}
use Rattle.bit_net.proofs.Searching.{node_of_gate}
use Rattle.net_unroll.specs.Asking.{AreCycles}
use Rattle.net_unroll.specs.Program.{Step, cycle, first_steps, later_steps, moves, needed, values, watch}
use Rattle.net_unroll.specs.Program.Step.{Assume, End, Move, Pass}
use Rattle.net_unroll.specs.Promises.{IsOpenAt}
use Rattle.net_unroll.specs.Promises.IsOpenAt.{an_input, a_state}
use Rattle.net_unroll.specs.declared.asking.Cycles.{Cycles}
use Rattle.net_unroll.proofs.Means.{SaidOf, said, said_all}
use Rattle.net_unroll.proofs.Ordered.{needed_ordered, needed_within}
use Rattle.net_unroll.proofs.Walking.{IsGiven, IsSame, Walked, first_act, first_is, later_act, later_is, moved_other, moved_state, state_act, steps_of, walk}
use Rattle.net_unroll.proofs.Walking.Act.{gated, keep, open_at}

pub said_more : (i : ℕ → ℕ → Bool) (s : SaidOf) (a b : List Step) → said_all i s (a ++ b) ≡ said_all i (said_all i s a) b
said_more i s [] b = refl
said_more i s (p ∷ a) b = said_more i (said i s p) a b

pub flat_same : (f g : ℕ → List Step) (vs : List ℕ) → ((v : ℕ) → f v ≡ g v) → flat_map f vs ≡ flat_map g vs
flat_same f g [] h = refl
flat_same f g (v ∷ vs) h = ap (λ (a : List Step). a ++ flat_map f vs) (h v) ∙ ap (λ (a : List Step). g v ++ a) (flat_same f g vs h)

abbrev pub nothing_said : SaidOf
nothing_said = record { values = λ v. true; assumed = true; ok = true; goals = [] }

-- what is asked in a cycle, by whether it is before the first and before the end
abbrev watched : LitOf → Bool → Bool → List Step
watched goal a b = cond a [] (cond b (Pass goal ∷ []) (End goal ∷ Pass goal ∷ []))

pub record WatchSaid (n : NetOf) (goal : LitOf) (before early : Bool) (s t : SaidOf) : Type 0 where
  pub values : t.values ≡ s.values
  pub assumed : t.assumed ≡ (s.assumed && lit_in s.values n.assumed)
  pub ok : t.ok ≡ cond before s.ok (s.ok && not (lit_in s.values goal))
  pub goals : t.goals ≡ cond before s.goals (cond early s.goals (s.goals ++ ((s.assumed && lit_in s.values n.assumed) && (s.ok && lit_in s.values goal)) ∷ []))

watch_said : (n : NetOf) (i : ℕ → ℕ → Bool) (goal : LitOf) (a b : Bool) (s : SaidOf) → WatchSaid n goal a b s (said_all i s (Assume n.assumed ∷ watched goal a b))
watch_said n i goal true b s = record { values = refl; assumed = refl; ok = refl; goals = refl }
watch_said n i goal false true s = record { values = refl; assumed = refl; ok = refl; goals = refl }
watch_said n i goal false false s = record { values = refl; assumed = refl; ok = refl; goals = refl }

-- what is needed is in the list
pub in_needed : (n : NetOf) (goal : LitOf) (c : Cycles) (t v : ℕ) → 1 < v → v ≤ vars n → is_needed n (goal ∷ n.assumed ∷ []) (n.assumed ∷ []) c.first c.count t v ≡ true → Contains (needed n goal c t) v
in_needed n goal c t v lo hi h = by (ltb t c.first) h
  where
    by : (b : Bool) → cond b (nearer n (n.assumed ∷ []) (nexts n (early_before n (goal ∷ n.assumed ∷ []))) (c.count - t) v) (nearer n (goal ∷ n.assumed ∷ []) [] (c.count - t) v) ≡ true →
        Contains (cond b (levels n (n.assumed ∷ []) (nexts n (early_before n (goal ∷ n.assumed ∷ []))) (c.count - t)) (levels n (goal ∷ n.assumed ∷ []) [] (c.count - t))) v
    by true k = levels_in n (n.assumed ∷ []) (nexts n (early_before n (goal ∷ n.assumed ∷ []))) (c.count - t) v lo hi k
    by false k = levels_in n (goal ∷ n.assumed ∷ []) [] (c.count - t) v lo hi k

pub assumed_needed : (n : NetOf) (goal : LitOf) (c : Cycles) (t : ℕ) → t < c.count → is_needed n (goal ∷ n.assumed ∷ []) (n.assumed ∷ []) c.first c.count t n.assumed.var ≡ true
assumed_needed n goal c t l = by (ltb t c.first) (c.count - t) (omega arith)
  where
    by : (b : Bool) (d : ℕ) → 0 < d → cond b (nearer n (n.assumed ∷ []) (nexts n (early_before n (goal ∷ n.assumed ∷ []))) d n.assumed.var) (nearer n (goal ∷ n.assumed ∷ []) [] d n.assumed.var) ≡ true
    by b zero p = absurd (omega arith)
    by true (suc d) p = at_now n (n.assumed ∷ []) (nexts n (early_before n (goal ∷ n.assumed ∷ []))) d n.assumed (0, omega arith, refl)
    by false (suc d) p = at_now n (goal ∷ n.assumed ∷ []) [] d n.assumed (1, omega arith, refl)

pub goal_needed : (n : NetOf) (goal : LitOf) (c : Cycles) (t : ℕ) → t < c.count → c.first ≤ t → is_needed n (goal ∷ n.assumed ∷ []) (n.assumed ∷ []) c.first c.count t goal.var ≡ true
goal_needed n goal c t l late = by (ltb t c.first) (not_less t c.first late) (c.count - t) (omega arith)
  where
    by : (b : Bool) → b ≡ false → (d : ℕ) → 0 < d → cond b (nearer n (n.assumed ∷ []) (nexts n (early_before n (goal ∷ n.assumed ∷ []))) d goal.var) (nearer n (goal ∷ n.assumed ∷ []) [] d goal.var) ≡ true
    by true e d p = absurd (let z : true ≡ false = e in cc)
    by false e zero p = absurd (omega arith)
    by false e (suc d) p = at_now n (goal ∷ n.assumed ∷ []) [] d goal (0, omega arith, refl)

pub node_of_input : (n : NetOf) (k : ℕ) → k < n.inputs → node_at n (input_var n k) ≡ node.Input
node_of_input n k l =
    let f = not_less (input_var n k) (input_var n 0) (omega arith) in
    let g = lt-ltb (input_var n k) (gate_var n 0) (omega arith) in
    ap (λ (b : Bool). cond b (state_node (slice_get n.states (input_var n k - 2))) (cond (ltb (input_var n k) (gate_var n 0)) node.Input (gate_node (slice_get n.gates (input_var n k - gate_var n 0))))) f
    ∙ ap (λ (b : Bool). cond b node.Input (gate_node (slice_get n.gates (input_var n k - gate_var n 0)))) g

first_gates : (start : Bool) (m : Node) (g : Gate) → first_act start m ≡ gated g → m ≡ node.Gate g
first_gates start (node.State s) g e = absurd (by start s.start e)
  where
    by : (b : Bool) (d : Option Bool) → state_act b d ≡ gated g → ⊥
    by true (Some x) h = cc
    by true None h = cc
    by false d h = cc
first_gates start node.Input g e = absurd (let z : open_at 0 ≡ gated g = e in cc)
first_gates start (node.Gate k) g e = let z : gated k ≡ gated g = e in let w : k ≡ g = cc in ap node.Gate w

later_gates : (t : ℕ) (m : Node) (g : Gate) → later_act t m ≡ gated g → m ≡ node.Gate g
later_gates t (node.State s) g e = absurd (let z : keep ≡ gated g = e in cc)
later_gates t node.Input g e = absurd (let z : open_at t ≡ gated g = e in cc)
later_gates t (node.Gate k) g e = let z : gated k ≡ gated g = e in let w : k ≡ g = cc in ap node.Gate w

module _ (n : NetOf) (net : IsNet n) (goal : LitOf) (c : Cycles) (i : ℕ → ℕ → Bool) where
  -- after this many cycles
  pub after : ℕ → SaidOf
  after zero = nothing_said
  after (suc t) = said_all i (after t) (cycle n goal c t)

  -- once a cycle's variables are given
  pub given_at : ℕ → SaidOf
  given_at t = said_all i (after t) (values n c t (needed n goal c t))

  abbrev pub V : ℕ → Assignment
  V t = (given_at t).values

  pub program_said : (k : ℕ) → said_all i nothing_said (flat_map (cycle n goal c) (numbers 0 k)) ≡ after k
  unfolding after
  program_said zero = refl
  program_said (suc k) =
      ap (λ (ts : List ℕ). said_all i nothing_said (flat_map (cycle n goal c) ts)) (numbers_end 0 k)
      ∙ ap (said_all i nothing_said) (flat_map-append (cycle n goal c) (numbers 0 k) ((0 + k) ∷ []))
      ∙ said_more i nothing_said (flat_map (cycle n goal c) (numbers 0 k)) (flat_map (cycle n goal c) ((0 + k) ∷ []))
      ∙ ap (λ (s : SaidOf). said_all i s (flat_map (cycle n goal c) ((0 + k) ∷ []))) (program_said k)
      ∙ ap (said_all i (after k)) (append-nil (cycle n goal c (0 + k)) ∙ ap (cycle n goal c) (let e : 0 + k ≡ k = omega arith in e))

  pub after_watch : (t : ℕ) → WatchSaid n goal (ltb t c.first) (ltb t c.end) (given_at t) (after (suc t))
  unfolding after given_at
  after_watch t =
      subst (WatchSaid n goal (ltb t c.first) (ltb t c.end) (said_all i (after t) (values n c t (needed n goal c t))))
      (sym (said_more i (after t) (values n c t (needed n goal c t)) (Assume n.assumed ∷ watch goal c t)))
      (watch_said n i goal (ltb t c.first) (ltb t c.end) (said_all i (after t) (values n c t (needed n goal c t))))

  pub after_values : (t : ℕ) → (after (suc t)).values ≡ V t
  after_values t = (after_watch t).values

  -- what has been given, and from what
  abbrev Needs : ℕ → ℕ → Type 0
  Needs t u = ⊥ ⊎ Contains (needed n goal c t) u

  first_walked : Walked n i (λ v. first_act c.start (node_at n v)) (λ v g e. first_gates c.start (node_at n v) g e) (λ v. true) (λ u. ⊥) (needed n goal c 0) nothing_said (given_at 0)
  unfolding given_at after
  first_walked =
      subst (λ (p : List Step). Walked n i (λ v. first_act c.start (node_at n v)) (λ v g e. first_gates c.start (node_at n v) g e) (λ v. true) (λ u. ⊥) (needed n goal c 0) nothing_said (said_all i nothing_said p))
      (sym (flat_same (λ v. first_steps c.start v (node_at n v)) (λ v. steps_of v (first_act c.start (node_at n v))) (needed n goal c 0) (λ v. first_is c.start v (node_at n v))))
      (walk n i (λ v. first_act c.start (node_at n v)) (λ v g e. first_gates c.start (node_at n v) g e) (λ v. true) (λ u. ⊥) (needed n goal c 0) nothing_said (needed_ordered n goal c 0 net)
      (record { each = λ v p. absurd p; reads = λ v g o p e d. absurd p; others = λ v h. refl }))

  -- what states have been moved to
  abbrev moved_at : ℕ → SaidOf
  moved_at t = said i (after (suc t)) (Move (moves n (needed n goal c (suc t))))

  later_walked : (t : ℕ) → Walked n i (λ v. later_act (suc t) (node_at n v)) (λ v g e. later_gates (suc t) (node_at n v) g e) (moved_at t).values (λ u. ⊥) (needed n goal c (suc t)) (moved_at t) (given_at (suc t))
  unfolding given_at
  later_walked t =
      subst (λ (p : List Step). Walked n i (λ v. later_act (suc t) (node_at n v)) (λ v g e. later_gates (suc t) (node_at n v) g e) (moved_at t).values (λ u. ⊥) (needed n goal c (suc t)) (moved_at t) (said_all i (moved_at t) p))
      (sym (flat_same (λ v. later_steps (suc t) v (node_at n v)) (λ v. steps_of v (later_act (suc t) (node_at n v))) (needed n goal c (suc t)) (λ v. later_is (suc t) v (node_at n v))))
      (walk n i (λ v. later_act (suc t) (node_at n v)) (λ v g e. later_gates (suc t) (node_at n v) g e) (moved_at t).values (λ u. ⊥) (needed n goal c (suc t)) (moved_at t) (needed_ordered n goal c (suc t) net)
      (record { each = λ v p. absurd p; reads = λ v g o p e d. absurd p; others = λ v h. refl }))

  begun : ((after 0).assumed ≡ true) × ((after 0).ok ≡ true) × ((after 0).goals ≡ [])
  unfolding after
  begun = (refl, refl, refl)

  -- nothing is said of what is asked before the variables are given
  pub given_same : (t : ℕ) → IsSame (after t) (given_at t)
  unfolding after
  given_same zero = let w = start_same in record { assumed = first_walked.same.assumed ∙ w.0; ok = first_walked.same.ok ∙ w.1; goals = first_walked.same.goals ∙ w.2 }
    where
      start_same : (nothing_said.assumed ≡ (after 0).assumed) × (nothing_said.ok ≡ (after 0).ok) × (nothing_said.goals ≡ (after 0).goals)
      start_same = (refl, refl, refl)
  given_same (suc t) = let w = (later_walked t).same in record { assumed = w.assumed; ok = w.ok; goals = w.goals }

  apart_one : (t v : ℕ) → Contains (needed n goal c t) v → v ≡ 1 → ⊥
  apart_one t v d e = let (lo, hi) = needed_within n goal c t v d in omega arith

  pub truth_said : (t : ℕ) → V t 1 ≡ true
  truth_said zero = first_walked.given.others 1 (λ h. elim h as (λ _. ⊥) [ inl b ↦ b | inr d ↦ apart_one 0 1 d refl ])
  truth_said (suc t) =
      (later_walked t).given.others 1 (λ h. elim h as (λ _. ⊥) [ inl b ↦ b | inr d ↦ apart_one (suc t) 1 d refl ])
      ∙ moved_other n (after (suc t)).values (needed n goal c (suc t)) (after (suc t)).values 1 (λ w d e. apart_one (suc t) w d e)
      ∙ ap (λ (f : ℕ → Bool). f 1) (after_values t) ∙ truth_said t

  pub gate_said : (t k : ℕ) (g : Gate) → slice_get n.gates k ≡ Some g → Contains (needed n goal c t) (gate_var n k) → V t (gate_var n k) ≡ bit g (V t)
  gate_said zero k g at d =
      subst (IsGiven i (λ v. true) (V 0) (gate_var n k)) (ap (first_act c.start) (node_of_gate n k g at)) (first_walked.given.each (gate_var n k) (inr d))
  gate_said (suc t) k g at d =
      subst (IsGiven i (moved_at t).values (V (suc t)) (gate_var n k)) (ap (later_act (suc t)) (node_of_gate n k g at)) ((later_walked t).given.each (gate_var n k) (inr d))

  pub state_said : (t k : ℕ) (s : State) → slice_get n.states k ≡ Some s → Contains (needed n goal c (suc t)) (state_var k) → V (suc t) (state_var k) ≡ lit_in (V t) s.next
  state_said t k s at d =
      subst (IsGiven i (moved_at t).values (V (suc t)) (state_var k)) (ap (later_act (suc t)) (node_of_state n k s at)) ((later_walked t).given.each (state_var k) (inr d))
      ∙ moved_state n (after (suc t)).values (needed n goal c (suc t)) (after (suc t)).values (state_var k) s (node_of_state n k s at) (inl d)
      ∙ ap (λ (f : ℕ → Bool). lit_in f s.next) (after_values t)

  pub start_said : (k : ℕ) (s : State) (b : Bool) → slice_get n.states k ≡ Some s → c.start ≡ true → s.start ≡ Some b → Contains (needed n goal c 0) (state_var k) → V 0 (state_var k) ≡ b
  start_said k s b at start digit d =
      subst (IsGiven i (λ v. true) (V 0) (state_var k)) (ap (first_act c.start) (node_of_state n k s at) ∙ ap (λ (z : Bool). state_act z s.start) start ∙ ap (state_act true) digit) (first_walked.given.each (state_var k) (inr d))

  pub open_said : (t v : ℕ) → IsOpenAt n c.start t v → Contains (needed n goal c t) v → V t v ≡ i t v
  open_said zero v (an_input k l e) d =
      subst (IsGiven i (λ u. true) (V 0) v) (ap (first_act c.start) (ap (node_at n) e ∙ node_of_input n k l)) (first_walked.given.each v (inr d))
  open_said (suc t) v (an_input k l e) d =
      subst (IsGiven i (moved_at t).values (V (suc t)) v) (ap (later_act (suc t)) (ap (node_at n) e ∙ node_of_input n k l)) ((later_walked t).given.each v (inr d))
  open_said zero v (a_state k s at e zero_is free) d =
      subst (IsGiven i (λ u. true) (V 0) v) (ap (first_act c.start) (ap (node_at n) e ∙ node_of_state n k s at) ∙ by c.start free) (first_walked.given.each v (inr d))
    where
      by : (b : Bool) → (b ≡ true → s.start ≡ None) → state_act b s.start ≡ open_at 0
      by true h = ap (state_act true) (h refl)
      by false h = refl
  open_said (suc t) v (a_state k s at e zero_is free) d = absurd (omega arith)

  pub part_said : PartWindow n c.count (is_needed n (goal ∷ n.assumed ∷ []) (n.assumed ∷ []) c.first c.count) (λ t. V t)
  part_said = record {
    truth = λ t l. truth_said t;
    gates = λ t k g l at h. (let j = get_less n.gates k g at in gate_said t k g at (in_needed n goal c t (gate_var n k) (omega arith) (omega arith) h));
    follows = λ t k s l at h. (let j = get_less n.states k s at in state_said t k s at (in_needed n goal c (suc t) (state_var k) (omega arith) (omega arith) h));
  }

  -- cycles with the bits that inputs are told to have
  module _ (m : ℕ) (most : m ≤ c.count) (xs : ℕ → Assignment) (cycles : AreCycles c.start n m xs)
      (told : (t v : ℕ) → t < m → IsOpenAt n c.start t v → Contains (needed n goal c t) v → i t v ≡ xs t v) where
    whole : Window n m xs
    whole = by c.start cycles
      where
        by : (b : Bool) → AreCycles b n m xs → Window n m xs
        by true r = r.window
        by false w = w

    starts : (k : ℕ) (s : State) (b : Bool) → 0 < m → c.start ≡ true → slice_get n.states k ≡ Some s → s.start ≡ Some b → xs 0 (state_var k) ≡ b
    starts k s b some start at digit = (subst (λ (z : Bool). AreCycles z n m xs) start cycles).starts some k s b at digit

    module _ (ys : ℕ → Assignment) (e : Extends n c.count (is_needed n (goal ∷ n.assumed ∷ []) (n.assumed ∷ []) c.first c.count) xs (λ t. V t) ys) where
      at_input : (t k : ℕ) → t < m → k < n.inputs → ys t (input_var n k) ≡ xs t (input_var n k)
      at_input t k l j = elim (cases_Bool (is_needed n (goal ∷ n.assumed ∷ []) (n.assumed ∷ []) c.first c.count t (input_var n k))) as (λ _. ys t (input_var n k) ≡ xs t (input_var n k)) [
        | inl need ↦
            let d = in_needed n goal c t (input_var n k) (omega arith) (omega arith) need in
            e.needed t (input_var n k) (omega arith) (omega arith) (omega arith) need ∙ open_said t (input_var n k) (an_input k j refl) d ∙ told t (input_var n k) l (an_input k j refl) d
        | inr nope ↦ e.inputs t k j nope
      ]

      at_state : (k : ℕ) (s : State) → 0 < m → slice_get n.states k ≡ Some s → ys 0 (state_var k) ≡ xs 0 (state_var k)
      at_state k s some at = elim (cases_Bool (is_needed n (goal ∷ n.assumed ∷ []) (n.assumed ∷ []) c.first c.count 0 (state_var k))) as (λ _. ys 0 (state_var k) ≡ xs 0 (state_var k)) [
        | inl need ↦
            let j = get_less n.states k s at in
            let d = in_needed n goal c 0 (state_var k) (omega arith) (omega arith) need in
            e.needed 0 (state_var k) (omega arith) (omega arith) (omega arith) need ∙ by d c.start refl s.start refl
        | inr nope ↦ e.states k s at nope
      ]
        where
          free : Contains (needed n goal c 0) (state_var k) → (c.start ≡ true → s.start ≡ None) → V 0 (state_var k) ≡ xs 0 (state_var k)
          free d f = open_said 0 (state_var k) (a_state k s at refl refl f) d ∙ told 0 (state_var k) some (a_state k s at refl refl f) d

          by : Contains (needed n goal c 0) (state_var k) → (b : Bool) → c.start ≡ b → (o : Option Bool) → s.start ≡ o → V 0 (state_var k) ≡ xs 0 (state_var k)
          by d true q (Some x) digit = start_said k s x at q digit d ∙ sym (starts k s x some q at digit)
          by d true q None digit = free d (λ z. digit)
          by d false q o digit = free d (λ z. absurd (let w : false ≡ true = sym q ∙ z in cc))

      same_open : (t v : ℕ) → t < m → ((k : ℕ) (s : State) → slice_get n.states k ≡ Some s → ys t (state_var k) ≡ xs t (state_var k)) → 1 < v → v < gate_var n 0 → ys t v ≡ xs t v
      same_open t v l states lo hi = by (kind_of n v (omega arith) (omega arith))
        where
          by : Kind n v → ys t v ≡ xs t v
          by (truth q) = absurd (omega arith)
          by (state k s at q) = subst (λ (w : ℕ). ys t w ≡ xs t w) (sym q) (states k s at)
          by (input k j q) = subst (λ (w : ℕ). ys t w ≡ xs t w) (sym q) (at_input t k l j)
          by (gate k g at q) = absurd (omega arith)

      same_frame : (t : ℕ) → t < m → ((k : ℕ) (s : State) → slice_get n.states k ≡ Some s → ys t (state_var k) ≡ xs t (state_var k)) → (v : ℕ) → 0 < v → v ≤ vars n → ys t v ≡ xs t v
      same_frame t l states v lo hi = one_frame n (ys t) (xs t) net (e.window.frames t (omega arith)) (whole.frames t l) (λ u p q. same_open t u l states p q) v lo hi

      same_all : (t : ℕ) → t < m → (v : ℕ) → 0 < v → v ≤ vars n → ys t v ≡ xs t v
      same_all zero l v lo hi = same_frame 0 l (λ k s at. at_state k s l at) v lo hi
      same_all (suc t) l v lo hi = same_frame (suc t) l (λ k s at.
          (let (a, b) = net.next k s at in
          e.window.follows t (omega arith) k s at ∙ ap (λ (z : Bool). cond s.next.negated (not z) z) (same_all t (omega arith) s.next.var a b) ∙ sym (whole.follows t l k s at))) v lo hi

    pub same_values : (t v : ℕ) → t < m → 0 < v → v ≤ vars n → is_needed n (goal ∷ n.assumed ∷ []) (n.assumed ∷ []) c.first c.count t v ≡ true → V t v ≡ xs t v
    same_values t v l lo hi need =
        let (ys, e) = extend n c.count (is_needed n (goal ∷ n.assumed ∷ []) (n.assumed ∷ []) c.first c.count) xs (λ t. V t) net (needs_in n (goal ∷ n.assumed ∷ []) (n.assumed ∷ []) c.first c.count net) part_said in
        sym (e.needed t v (omega arith) lo hi need) ∙ same_all ys e t l v lo hi

    lit_same : (t : ℕ) (l : LitOf) → t < m → LitWithin (vars n) l → is_needed n (goal ∷ n.assumed ∷ []) (n.assumed ∷ []) c.first c.count t l.var ≡ true → lit_in (V t) l ≡ lit_in (xs t) l
    lit_same t l h w need = ap (λ (z : Bool). cond l.negated (not z) z) (same_values t l.var h w.0 w.1 need)

    pub assumed_same : (t : ℕ) → t < m → lit_in (V t) n.assumed ≡ lit_in (xs t) n.assumed
    assumed_same t l = lit_same t n.assumed l net.assumed (assumed_needed n goal c t (omega arith))

    pub goal_same : LitWithin (vars n) goal → (t : ℕ) → t < m → c.first ≤ t → lit_in (V t) goal ≡ lit_in (xs t) goal
    goal_same w t l late = lit_same t goal l w (goal_needed n goal c t (omega arith) late)

  -- what is told of what is asked
  pub assumed_told : (k : ℕ) → ((after k).assumed ≡ true → (t : ℕ) → t < k → lit_in (V t) n.assumed ≡ true) × (((t : ℕ) → t < k → lit_in (V t) n.assumed ≡ true) → (after k).assumed ≡ true)
  assumed_told zero = ((λ h t l. absurd (omega arith)), (λ h. begun.0))
  assumed_told (suc k) =
      let w = (after_watch k).assumed ∙ ap (λ (b : Bool). b && lit_in (V k) n.assumed) (given_same k).assumed in
      let (f, g) = assumed_told k in (
        (λ h t l.
            let (a, b) = both_and (after k).assumed (lit_in (V k) n.assumed) (sym w ∙ h) in
            elim (cases_lt t k) as (λ _. lit_in (V t) n.assumed ≡ true) [ inl m ↦ f a t m | inr m ↦ subst (λ (u : ℕ). lit_in (V u) n.assumed ≡ true) (let z : k ≡ t = omega arith in z) b ]),
        (λ h. w ∙ and_both (after k).assumed (lit_in (V k) n.assumed) (g (λ t l. h t (omega arith))) (h k (omega arith))),
      )

  pub ok_told : (k : ℕ) → ((after k).ok ≡ true → (t : ℕ) → t < k → c.first ≤ t → lit_in (V t) goal ≡ false) × (((t : ℕ) → t < k → c.first ≤ t → lit_in (V t) goal ≡ false) → (after k).ok ≡ true)
  ok_told zero = ((λ h t l. absurd (omega arith)), (λ h. begun.1))
  ok_told (suc k) =
      let (f, g) = ok_told k in
      elim (cases_lt k c.first) as (λ _. ((after (suc k)).ok ≡ true → (t : ℕ) → t < suc k → c.first ≤ t → lit_in (V t) goal ≡ false) × (((t : ℕ) → t < suc k → c.first ≤ t → lit_in (V t) goal ≡ false) → (after (suc k)).ok ≡ true)) [
        | inl l ↦
            let w : (after (suc k)).ok ≡ (after k).ok = (after_watch k).ok ∙ ap (λ (b : Bool). cond b (given_at k).ok ((given_at k).ok && not (lit_in (V k) goal))) (lt-ltb k c.first l) ∙ (given_same k).ok in (
              (λ h t i late. f (sym w ∙ h) t (omega arith) late),
              (λ h. w ∙ g (λ t i late. h t (omega arith) late)),
            )
        | inr l ↦
            let w : (after (suc k)).ok ≡ ((after k).ok && not (lit_in (V k) goal)) =
            (after_watch k).ok ∙ ap (λ (b : Bool). cond b (given_at k).ok ((given_at k).ok && not (lit_in (V k) goal))) (not_less k c.first l) ∙ ap (λ (b : Bool). b && not (lit_in (V k) goal)) (given_same k).ok in (
              (λ h t i late.
                  let (a, b) = both_and (after k).ok (not (lit_in (V k) goal)) (sym w ∙ h) in
                  elim (cases_lt t k) as (λ _. lit_in (V t) goal ≡ false) [
                    | inl m ↦ f a t m late
                    | inr m ↦ subst (λ (u : ℕ). lit_in (V u) goal ≡ false) (let z : k ≡ t = omega arith in z) (not_both (lit_in (V k) goal) (λ e. true_not (lit_in (V k) goal) b e))
                  ]),
              (λ h. w ∙ and_both (after k).ok (not (lit_in (V k) goal)) (g (λ t i late. h t (omega arith) late)) (not_true (lit_in (V k) goal) (h k (omega arith) l))),
            )
      ]

  -- the literal of a cycle that may be the last
  abbrev pub ends : ℕ → Bool
  ends t = (after (suc t)).assumed && ((after t).ok && lit_in (V t) goal)

  pub goals_told : (low : ℕ) → ((t : ℕ) → t < low → (t < c.first) ⊎ (t < c.end)) → c.first ≤ low → c.end ≤ low → (k : ℕ) → (after k).goals ≡ map ends (numbers low (k - low))
  goals_told low short a b zero = begun.2 ∙ ap (λ (j : ℕ). map ends (numbers low j)) (let z : 0 ≡ 0 - low = omega arith in z)
  goals_told low short a b (suc k) = elim (cases_lt k low) as (λ _. (after (suc k)).goals ≡ map ends (numbers low (suc k - low))) [
    | inl l ↦ same l ∙ goals_told low short a b k ∙ ap (λ (j : ℕ). map ends (numbers low j)) (let z : k - low ≡ suc k - low = omega arith in z)
    | inr l ↦
        let early = not_less k c.first (omega arith) in
        let soon = not_less k c.end (omega arith) in
        let whole = (after_watch k).goals ∙ ap (λ (z : Bool). cond z (given_at k).goals (cond (ltb k c.end) (given_at k).goals ((given_at k).goals ++ (((given_at k).assumed && lit_in (V k) n.assumed) && ((given_at k).ok && lit_in (V k) goal)) ∷ []))) early
        ∙ ap (λ (z : Bool). cond z (given_at k).goals ((given_at k).goals ++ (((given_at k).assumed && lit_in (V k) n.assumed) && ((given_at k).ok && lit_in (V k) goal)) ∷ [])) soon in
        let one : (((given_at k).assumed && lit_in (V k) n.assumed) && ((given_at k).ok && lit_in (V k) goal)) ≡ ends k =
        ap (λ (z : Bool). z && ((given_at k).ok && lit_in (V k) goal)) (sym (after_watch k).assumed) ∙ ap (λ (z : Bool). (after (suc k)).assumed && (z && lit_in (V k) goal)) (given_same k).ok in
        whole
        ∙ ap (λ (z : Bool). (given_at k).goals ++ z ∷ []) one
        ∙ ap (λ (gs : List Bool). gs ++ ends k ∷ []) ((given_same k).goals ∙ goals_told low short a b k)
        ∙ ap (λ (j : ℕ). map ends (numbers low (k - low)) ++ ends j ∷ []) (let z : k ≡ low + (k - low) = omega arith in z)
        ∙ sym (map-append ends (numbers low (k - low)) ((low + (k - low)) ∷ []))
        ∙ ap (map ends) (sym (numbers_end low (k - low)))
        ∙ ap (λ (j : ℕ). map ends (numbers low j)) (let z : suc (k - low) ≡ suc k - low = omega arith in z)
  ]
    where
      same : k < low → (after (suc k)).goals ≡ (after k).goals
      same l =
          (after_watch k).goals
          ∙ elim (short k l) as (λ _. cond (ltb k c.first) (given_at k).goals (cond (ltb k c.end) (given_at k).goals ((given_at k).goals ++ (((given_at k).assumed && lit_in (V k) n.assumed) && ((given_at k).ok && lit_in (V k) goal)) ∷ [])) ≡ (given_at k).goals) [
            | inl q ↦ ap (λ (z : Bool). cond z (given_at k).goals (cond (ltb k c.end) (given_at k).goals ((given_at k).goals ++ (((given_at k).assumed && lit_in (V k) n.assumed) && ((given_at k).ok && lit_in (V k) goal)) ∷ []))) (lt-ltb k c.first q)
            | inr q ↦ two (ltb k c.first) (ap (λ (z : Bool). cond z (given_at k).goals ((given_at k).goals ++ (((given_at k).assumed && lit_in (V k) n.assumed) && ((given_at k).ok && lit_in (V k) goal)) ∷ [])) (lt-ltb k c.end q))
          ]
          ∙ (given_same k).goals
        where
          two : (z : Bool) {gs hs : List Bool} → hs ≡ gs → cond z gs hs ≡ gs
          two true e = refl
          two false e = e
