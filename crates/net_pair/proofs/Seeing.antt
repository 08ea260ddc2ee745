-- What the pair of a model's net says of the model.
use Rattle.std.proofs.Common.{◌≡◌, ℕ, zero, suc, ◌+◌, ◌-◌, ◌<◌, ◌≤◌, ◌^◌, Bool, true, false, not, cond, List, [], ◌∷◌, Option, Some, None, length, map, refl, sym, ap, ◌∙◌, subst, inl, inr, arith, ltb}
use Rattle.std.specs.Prelude.{◌↔◌, Contains, slice_get, slice_index_or}
use Rattle.std.proofs.lemmas.Bool.{lt-ltb}
use Rattle.std.proofs.lemmas.List.Elements.{Contains-append_left, Contains-append_right, Contains-append_cases}
use Rattle.cnf_form.specs.Cnf.{Assignment, LitOf, Satisfies, lit_in}
use Rattle.gate_graph.specs.Kept.{clauses_from, lit_of}
use Rattle.gate_graph.proofs.OneTable.{lit_negated}
use Rattle.bit_net.specs.Net as net
use Rattle.bit_net.specs.Net.{IsNet, NetOf, gate_var, input_var, state_var, vars}
use Rattle.bit_net.specs.Reaching.{entries}
use Rattle.bit_net.specs.declared.node.State.{State}
use Rattle.bit_net.proofs.Extending.{get_less, not_less, one_frame, some_frame}
use Rattle.bit_net.proofs.Lists.{cases_in, head_in, none_in}
use Rattle.model_core.specs.Meaning.{Assumed, Broken, Cycle, Follows, Frame, Starts}
use Rattle.model_core.specs.Meaning as model
use Rattle.model_core.specs.Served.{IsModel}
use Rattle.model_core.specs.Shape.{ModelOf, states}
use Rattle.model_core.specs.declared.model.Statement.{Statement}
use Rattle.model_core.proofs.Lists.{at_place, contained_at}
use Rattle.frame_gates.proofs.Lists.{length_map, one_at}
use Rattle.frame_net.specs.NetOf.{IsAlike, IsNetOf}
use Rattle.frame_net.proofs.Running.{near, near_back, run, run_back, window, window_back}
use Rattle.pair_form.specs.Pair.{PairOf, bit_at}
use Rattle.pair_form.specs.declared.pair.BitLits.{BitLits}
use Rattle.pair_form.specs.declared.pair.Frame.TheVariants.{First, Second}
use Rattle.pair_model.specs.Meaning.{IsPairOf, IsSeen}
use Rattle.net_pair.specs.Numbers.{HaveStates}
use Rattle.net_pair.specs.Pairing.{bad_by, bit_by, both, made, now, pair_of, state_lits}
use Rattle.net_pair.proofs.Placing.{both_net, fits}
use Rattle.net_pair.proofs.Telling.{cycle_of, first_frame, first_open, follow, lit_value, satisfied, satisfies, second_frame, second_input, second_state, start_told, start_tells}

-- two cycles as a row of them
abbrev two : {A : Type 0} → A → A → ℕ → A
two a b zero = a
two a b (suc t) = b

-- a number that has literals has a state
pub bit_state : (n : NetOf) (bits : List (Option ℕ)) (i : ℕ) (b : BitLits) → slice_index_or (map (bit_by n) bits) i None ≡ Some b →
    (k : ℕ) × (s : State) × (slice_get bits i ≡ Some (Some k)) × (slice_get n.states k ≡ Some s) × (b.first ≡ lit_of (state_var k) true) × (b.second ≡ now n s.next)
bit_state n [] i b h = absurd (let z : None ≡ Some b = h in cc)
bit_state n (o ∷ bits) (suc i) b h = bit_state n bits i b h
bit_state n (None ∷ bits) zero b h = absurd (let z : None ≡ Some b = h in cc)
bit_state n (Some k ∷ bits) zero b h = by (slice_get n.states k) refl h
  where
    by : (o : Option State) → slice_get n.states k ≡ o → state_lits n k o ≡ Some b →
        (j : ℕ) × (s : State) × (Some (Some k) ≡ Some (Some j)) × (slice_get n.states j ≡ Some s) × (b.first ≡ lit_of (state_var j) true) × (b.second ≡ now n s.next)
    by None e g = absurd (let z : None ≡ Some b = g in cc)
    by (Some s) e g =
        let l : BitLits = record { first = lit_of (state_var k) true; second = now n s.next } in
        let z : Some l ≡ Some b = g in
        let here : l ≡ b = cc in
        (k, s, refl, e, ap (λ (c : BitLits). c.first) (sym here), ap (λ (c : BitLits). c.second) (sym here))

not_false : (b : Bool) → not b ≡ true → b ≡ false
not_false true h = absurd (let z : false ≡ true = h in cc)
not_false false h = refl

module _ (m : ModelOf) (n : NetOf) (is : IsModel m) (served : IsNet n) (of : IsNetOf m n) where
  many : length n.states ≡ length (states m)
  many = sym (length_map (λ (s : State). s.start) n.states) ∙ ap length of.starts ∙ is.starts

  -- a start of the model is one of the net, and back
  starts_to : (c : Cycle) (x : Assignment) → IsAlike m n c x → model.Frame m c → model.Starts m c → net.Starts n x
  starts_to c x same frame h k s b at e =
      let q = many in
      let l = get_less n.states k s at in
      let (p, here) = at_place (states m) k (omega arith) in
      let (r, alike) = run m n is served of 1 (λ t. c) (record { window = record { some = omega arith; frames = λ t l. frame; follows = λ t l. absurd (omega arith) }; starts = h }) in
      same.states k p here ∙ sym ((alike 0 (omega arith)).states k p here) ∙ r.starts (omega arith) k s b at e

  starts_from : (c : Cycle) (x : Assignment) → IsAlike m n c x → net.Frame n x → net.Starts n x → model.Starts m c
  starts_from c x same frame h k p b here e =
      let (r, alike) = run_back m n is served of 1 (λ t. x) (omega arith) (record { window = record { frames = λ t l. frame; follows = λ t l. absurd (omega arith) }; starts = λ l. h }) in
      sym (same.states k p here) ∙ (alike 0 (omega arith)).states k p here ∙ r.starts k p b here e

  module _ (places : List ℕ) (bits : List (Option ℕ)) (have : HaveStates (states m) places bits) (few : made n bits ≤ 2 ^ 27) where
    abbrev p : PairOf
    p = pair_of n bits

    whole : IsNet (both n)
    whole = both_net n served (fits n bits few)

    placed : (i : ℕ) (b : BitLits) → bit_at p i ≡ Some b → (place : ℕ) × (slice_get places i ≡ Some place)
    placed i b h =
        let (k, s, here, at, first, second) = bit_state n bits i b h in
        let (place, there, state) = have.some i k here in
        (place, there)

    -- the state of a number is the place's
    state_at : (i k place : ℕ) → slice_get bits i ≡ Some (Some k) → slice_get places i ≡ Some place → slice_get (states m) k ≡ Some place
    state_at i k place here there =
        let (q, at, state) = have.some i k here in
        subst (λ (r : ℕ). slice_get (states m) k ≡ Some r) (one_at places i q place at there) state

    bad_told : (x : Assignment) (c : Cycle) → net.Frame (both n) x → model.Frame m c → IsAlike m n c (cycle_of n First x) → (lit_in x (bad_by n n.asserted) ≡ true) ↔ ((a : ℕ) × Broken m c a)
    bad_told x c f frame same = by n.asserted refl
      where
        none : n.asserted ≡ None → (a : ℕ) → Broken m c a → ⊥
        none e a (s, at, en, value) = let z : None ≡ Some s = ap (λ (ss : List Statement). slice_get ss a) (sym (of.asserted.0 e)) ∙ at in cc

        by : (o : Option LitOf) → n.asserted ≡ o → (lit_in x (bad_by n o) ≡ true) ↔ ((a : ℕ) × Broken m c a)
        by None e = (
          λ h. absurd (let z : true ≡ false = sym f.truth ∙ not_false (x 1) h in cc),
          λ (a, broken). absurd (none e a broken),
        )
        by (Some l) e =
            let says = of.says c (cycle_of n First x) frame (first_frame n x f) same in
            let value = lit_negated x (now n l) ∙ ap not (lit_value n First x l) in (
              λ h. (says.asserted l e).0 (not_false (lit_in (cycle_of n First x) l) (sym value ∙ h)),
              λ broken. value ∙ ap not ((says.asserted l e).1 broken),
            )

    -- an assignment of both cycles has what two cycles of the model have that are alike
    seen : (x : Assignment) (c e : Cycle) → net.Frame (both n) x → model.Frame m c → model.Frame m e → IsAlike m n c (cycle_of n First x) → IsAlike m n e (cycle_of n Second x) → IsSeen m places p x c e
    seen x c e f frame later_frame same other = record {
      first = λ i place b there h.
          let (k, s, here, at, first, second) = bit_state n bits i b h in
          let l = get_less n.states k s at in
          ap (lit_in x) first ∙ sym (first_open n x f (state_var k) (omega arith)) ∙ same.states k place (state_at i k place here there);
      second = λ i place b there h.
          let (k, s, here, at, first, second) = bit_state n bits i b h in
          ap (lit_in x) second ∙ lit_value n First x s.next ∙ sym (second_state n x f k s at) ∙ other.states k place (state_at i k place here there);
      start = (
        λ h. starts_from c (cycle_of n First x) same (first_frame n x f) (start_told n x f h),
        λ h. start_tells n x f (starts_to c (cycle_of n First x) same frame h),
      );
      next =
          let says = of.says e (cycle_of n Second x) later_frame (second_frame n x f) other in
          let value = lit_value n Second x n.assumed in
          (λ h. says.assumed.0 (sym value ∙ h), λ h. value ∙ says.assumed.1 h);
      bad = bad_told x c f frame same;
    }

    assumed_told : (x : Assignment) (c : Cycle) → net.Frame (both n) x → model.Frame m c → IsAlike m n c (cycle_of n First x) → lit_in x (now n n.assumed) ≡ true → Assumed m c
    assumed_told x c f frame same h = (of.says c (cycle_of n First x) frame (first_frame n x f) same).assumed.0 (sym (lit_value n First x n.assumed) ∙ h)

    assumed_tells : (x : Assignment) (c : Cycle) → net.Frame (both n) x → model.Frame m c → IsAlike m n c (cycle_of n First x) → Assumed m c → lit_in x (now n n.assumed) ≡ true
    assumed_tells x c f frame same h = lit_value n First x n.assumed ∙ (of.says c (cycle_of n First x) frame (first_frame n x f) same).assumed.1 h

    -- the clauses are those of both cycles, and that the first is assumed
    clauses_told : (x : Assignment) → Satisfies x p.formula.clauses → net.Frame (both n) x × (lit_in x (now n n.assumed) ≡ true)
    clauses_told x s = (
      satisfied (both n) x whole (λ c h. s c (Contains-append_left (clauses_from (entries (both n))) ((now n n.assumed ∷ []) ∷ []) c h)),
      (let (l, i, e) = s (now n n.assumed ∷ []) (Contains-append_right (clauses_from (entries (both n))) ((now n n.assumed ∷ []) ∷ []) (now n n.assumed ∷ []) (head_in (now n n.assumed ∷ []) [])) in
          elim (cases_in (now n n.assumed) [] l i) as (λ _. lit_in x (now n n.assumed) ≡ true) [ inl z ↦ ap (lit_in x) z ∙ e | inr d ↦ absurd (none_in l d) ]),
    )

    clauses_tell : (x : Assignment) → net.Frame (both n) x → lit_in x (now n n.assumed) ≡ true → Satisfies x p.formula.clauses
    clauses_tell x f h c i = elim (Contains-append_cases (clauses_from (entries (both n))) ((now n n.assumed ∷ []) ∷ []) c i) as (λ _. (l : LitOf) × Contains c l × (lit_in x l ≡ true)) [
      | inl j ↦ satisfies (both n) x whole f c j
      | inr j ↦ elim (cases_in (now n n.assumed ∷ []) [] c j) as (λ _. (l : LitOf) × Contains c l × (lit_in x l ≡ true)) [
        | inl z ↦ (now n n.assumed, subst (λ (d : List LitOf). Contains d (now n n.assumed)) z (head_in (now n n.assumed) []), h)
        | inr d ↦ absurd (none_in c d)
      ]
    ]

    cycles : (x : Assignment) → net.Frame (both n) x → net.Window n 2 (two (cycle_of n First x) (cycle_of n Second x))
    cycles x f = record { frames = frames; follows = follows }
      where
        frames : (t : ℕ) → t < 2 → net.Frame n (two (cycle_of n First x) (cycle_of n Second x) t)
        frames zero l = first_frame n x f
        frames (suc t) l = second_frame n x f

        follows : (t : ℕ) → suc t < 2 → net.Follows n (two (cycle_of n First x) (cycle_of n Second x) t) (two (cycle_of n First x) (cycle_of n Second x) (suc t))
        follows zero l = follow n x f
        follows (suc t) l = absurd (omega arith)

    sound : (x : Assignment) → Satisfies x p.formula.clauses → (c : Cycle) × (e : Cycle) × Frame m c × Frame m e × Follows m c e × Assumed m c × IsSeen m places p x c e
    sound x s =
        let (f, h) = clauses_told x s in
        let (w, alike) = window_back m n is served of 2 (two (cycle_of n First x) (cycle_of n Second x)) (omega arith) (cycles x f) in
        let cs : ℕ → Cycle = λ t. (near_back m n is served of (two (cycle_of n First x) (cycle_of n Second x) t)).0 in (
          cs 0,
          cs 1,
          w.frames 0 (omega arith),
          w.frames 1 (omega arith),
          w.follows 0 (omega arith),
          assumed_told x (cs 0) f (w.frames 0 (omega arith)) (alike 0 (omega arith)) h,
          seen x (cs 0) (cs 1) f (w.frames 0 (omega arith)) (w.frames 1 (omega arith)) (alike 0 (omega arith)) (alike 1 (omega arith)),
        )

    -- any states and inputs of the first cycle with any inputs of the second
    choice : Assignment → Assignment → Assignment
    choice a b v = cond (ltb v (gate_var n 0)) (a v) (b (v - n.inputs))

    chosen : (a b : Assignment) → net.Frame n a → (x : Assignment) × net.Frame (both n) x × ((v : ℕ) → 0 < v → v ≤ vars n → cycle_of n First x v ≡ a v) × ((k : ℕ) → k < n.inputs → cycle_of n Second x (input_var n k) ≡ b (input_var n k))
    unfolding choice
    chosen a b frame =
        let (x, f, chosen_open) = some_frame (both n) (choice a b) whole in (
          x,
          f,
          one_frame n (cycle_of n First x) a served (first_frame n x f) frame (λ v lo hi.
              first_open n x f v hi ∙ chosen_open v lo (omega arith) ∙ ap (λ (t : Bool). cond t (a v) (b (v - n.inputs))) (lt-ltb v (gate_var n 0) hi)),
          λ k l.
              second_input n x f k l ∙ chosen_open (input_var n k + n.inputs) (omega arith) (omega arith)
              ∙ ap (λ (t : Bool). cond t (a (input_var n k + n.inputs)) (b (input_var n k + n.inputs - n.inputs))) (not_less (input_var n k + n.inputs) (gate_var n 0) (omega arith))
              ∙ ap b (let z : input_var n k + n.inputs - n.inputs ≡ input_var n k = omega arith in z),
        )

    alike_first : (x a : Assignment) (c : Cycle) → ((v : ℕ) → 0 < v → v ≤ vars n → cycle_of n First x v ≡ a v) → IsAlike m n c a → IsAlike m n c (cycle_of n First x)
    alike_first x a c h same = record {
      states = λ k q here. let l = get_less (states m) k q here in let z = many in h (state_var k) (omega arith) (omega arith) ∙ same.states k q here;
      inputs = λ k q here. let l = get_less m.inputs k q here in let z = of.inputs in h (input_var n k) (omega arith) (omega arith) ∙ same.inputs k q here;
    }

    complete : (c e : Cycle) → Frame m c → Frame m e → Follows m c e → Assumed m c → (x : Assignment) × Satisfies x p.formula.clauses × IsSeen m places p x c e
    complete c e frame other after assumed =
        let (w, alike) = window m n is served of 2 (two c e) (record { some = omega arith; frames = frames; follows = follows }) in
        let a : Assignment = (near m n is served of c).0 in
        let b : Assignment = (near m n is served of e).0 in
        let (x, f, first, inputs) = chosen a b (w.frames 0 (omega arith)) in
        let same : IsAlike m n c (cycle_of n First x) = alike_first x a c first (alike 0 (omega arith)) in
        let late : IsAlike m n e (cycle_of n Second x) = record {
          states = λ k q here.
              let l = get_less (states m) k q here in
              let z = many in
              let (s, at) = at_place n.states k (omega arith) in
              let (lo, hi) = served.next k s at in
              second_state n x f k s at ∙ ap (λ (t : Bool). cond s.next.negated (not t) t) (first s.next.var lo hi) ∙ sym (w.follows 0 (omega arith) k s at) ∙ (alike 1 (omega arith)).states k q here;
          inputs = λ k q here. let l = get_less m.inputs k q here in let z = of.inputs in inputs k (omega arith) ∙ (alike 1 (omega arith)).inputs k q here;
        } in
        (x, clauses_tell x f (assumed_tells x c f frame same assumed), seen x c e f frame other same late)
      where
        frames : (t : ℕ) → t < 2 → model.Frame m (two c e t)
        frames zero l = frame
        frames (suc t) l = other

        follows : (t : ℕ) → suc t < 2 → model.Follows m (two c e t) (two c e (suc t))
        follows zero l = after
        follows (suc t) l = absurd (omega arith)

    lone : (c : Cycle) → Frame m c → Assumed m c → (x : Assignment) × (e : Cycle) × Satisfies x p.formula.clauses × IsSeen m places p x c e
    lone c frame assumed =
        let (a, net_frame, alike) = near m n is served of c in
        let (x, f, first, inputs) = chosen a a net_frame in
        let (w, cs_alike) = window_back m n is served of 2 (two (cycle_of n First x) (cycle_of n Second x)) (omega arith) (cycles x f) in
        let same : IsAlike m n c (cycle_of n First x) = alike_first x a c first alike in (
          x,
          (near_back m n is served of (cycle_of n Second x)).0,
          clauses_tell x f (assumed_tells x c f frame same assumed),
          seen x c (near_back m n is served of (cycle_of n Second x)).0 f frame (w.frames 1 (omega arith)) same (cs_alike 1 (omega arith)),
        )

    pub pair_is : IsPairOf m places (pair_of n bits)
    pair_is = record { placed = placed; sound = sound; complete = complete; lone = lone }

-- what a number's bit is
bit_of : (n : NetOf) (bits : List (Option ℕ)) (i : ℕ) (o : Option ℕ) → slice_get bits i ≡ Some o → slice_index_or (map (bit_by n) bits) i None ≡ bit_by n o
bit_of n [] i o h = absurd (let z : None ≡ Some o = h in cc)
bit_of n (b ∷ bits) zero o h = let z : Some b ≡ Some o = h in let here : b ≡ o = cc in ap (bit_by n) here
bit_of n (b ∷ bits) (suc i) o h = bit_of n bits i o h

pub literals : (m : ModelOf) (n : NetOf) → IsModel m → IsNetOf m n → (places : List ℕ) (bits : List (Option ℕ)) → HaveStates (states m) places bits →
    (i place : ℕ) → slice_get places i ≡ Some place → (bit_at (pair_of n bits) i ≡ None) ↔ (Contains (states m) place → ⊥)
literals m n is of places bits have i place there =
    let l = get_less places i place there in
    let q = have.size in
    let (o, at) = at_place bits i (omega arith) in
    subst (λ (b : Option BitLits). (b ≡ None) ↔ (Contains (states m) place → ⊥)) (sym (bit_of n bits i o at)) (by o at)
  where
    by : (o : Option ℕ) → slice_get bits i ≡ Some o → (bit_by n o ≡ None) ↔ (Contains (states m) place → ⊥)
    by None at = (λ h. have.none i place at there, λ h. refl)
    by (Some k) at =
        let (p, here, state) = have.some i k at in
        let l = get_less (states m) k p state in
        let many = sym (length_map (λ (s : State). s.start) n.states) ∙ ap length of.starts ∙ is.starts in
        let (s, is_at) = at_place n.states k (omega arith) in (
          λ h. absurd (let z : Some (record { first = lit_of (state_var k) true; second = now n s.next }) ≡ None = ap (state_lits n k) (sym is_at) ∙ h in cc),
          λ h. absurd (h (subst (Contains (states m)) (one_at places i p place here there) (contained_at (states m) p k state))),
        )
