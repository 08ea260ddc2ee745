-- The gates of a cycle are a net.
use Rattle.std.proofs.Common.{◌≡◌, ℕ, ◌+◌, ◌<◌, ◌≤◌, Bool, true, false, not, List, [], Option, Some, None, refl, sym, ap, ◌∙◌, subst, inl, inr, arith, length, map}
use Rattle.std.specs.Prelude.{◌↔◌, slice_get, Contains}
use Rattle.std.proofs.lemmas.Bool.{cases_lt}
use Rattle.std.proofs.lemmas.Option.{slice_get_within}
use Rattle.cnf_form.specs.Cnf.{LitOf, LitWithin, Assignment, Satisfies, lit_in, negate}
use Rattle.gate_graph.specs.declared.gate.Gate.{Gate}
use Rattle.gate_graph.specs.Circuit.{AgreeTo, GatesOf, IsGates, Means}
use Rattle.gate_graph.specs.Folding.{constant}
use Rattle.gate_graph.specs.Kept.{AreKept, HasRoom, IsRising, lit_of}
use Rattle.gate_graph.proofs.Keeping.{lit_from}
use Rattle.gate_graph.proofs.OneTable.{lit_negated}
use Rattle.gate_graph.proofs.Tables.{lit_agrees}
use Rattle.model_core.specs.Shape.{ModelOf, states}
use Rattle.model_core.specs.Meaning as model
use Rattle.model_core.specs.Meaning.{Assumed, Broken, Cycle, Reached, next_states}
use Rattle.model_core.specs.Served.{IsModel}
use Rattle.model_core.specs.Choices.{Agree}
use Rattle.model_core.proofs.Frames.{assumed_kept, broken_kept, frames_same, reached_kept}
use Rattle.model_core.proofs.Runs.{next_same}
use Rattle.bit_net.specs.Net.{Frame, IsNet, NetOf, gate_var, input_var, state_var, vars}
use Rattle.bit_net.specs.Reaching.{numbers}
use Rattle.bit_net.specs.declared.node.State.{State}
use Rattle.bit_net.proofs.Lists.{in_numbers, numbers_in}
use Rattle.bit_net.proofs.Extending.{one_frame}
use Rattle.frame_gates.specs.Frames.{Tells, cycle_of, lit_at, lits_at}
use Rattle.std.proofs.lemmas.List.Elements.{Contains-append_cases}
use Rattle.model_core.proofs.Lists.{all_at, place_of_contained}
use Rattle.frame_gates.proofs.Lists.{all_contained, all_of, length_map, map_at, map_map, map_same, one_at}
use Rattle.frame_net.specs.Making.{AreInOrder, HasEach, IsCycle, TellsAsserted, row_from}
use Rattle.frame_net.specs.NetOf.{IsAlike, IsNetOf, SaysTheSame}
use Rattle.frame_net.proofs.Rows.{row_from-at}

module _ (m : ModelOf) (g : GatesOf) (gates : IsGates g) (kept : AreKept g) (room : HasRoom g) (rising : IsRising g.formula.vars g.inputs g.kept)
    (inputs : g.inputs ≡ numbers 2 (length (states m) + length m.inputs)) where
  open_in : (v : ℕ) → 1 < v → v < 2 + length (states m) + length m.inputs → Contains g.inputs v
  open_in v lo hi = subst (λ (vs : List ℕ). Contains vs v) (sym inputs) (in_numbers 2 (length (states m) + length m.inputs) v (omega arith) (omega arith))

  -- there is room for the inputs
  pub inputs_fit : 1 + length (states m) + length m.inputs ≤ g.formula.vars
  inputs_fit = elim (cases_lt 0 (length (states m) + length m.inputs)) as (λ _. 1 + length (states m) + length m.inputs ≤ g.formula.vars) [
    | inl l ↦ let (a, b) = gates.inputs_within (1 + length (states m) + length m.inputs) (open_in (1 + length (states m) + length m.inputs) (omega arith) (omega arith)) in omega arith
    | inr l ↦ let s = room.some in omega arith
  ]

  has_gate : (v : ℕ) → 2 + length (states m) + length m.inputs ≤ v → v ≤ g.formula.vars → (k : Gate) × Contains g.kept (k, lit_of v true)
  has_gate v lo hi = elim (rising.each v (omega arith) hi) as (λ _. (k : Gate) × Contains g.kept (k, lit_of v true)) [
    | inl e ↦ absurd (omega arith)
    | inr r ↦ elim r as (λ _. (k : Gate) × Contains g.kept (k, lit_of v true)) [
      | inl c ↦ absurd (let (a, b) = numbers_in 2 (length (states m) + length m.inputs) v (subst (λ (vs : List ℕ). Contains vs v) inputs c) in omega arith)
      | inr k ↦ k
    ]
  ]

  above : (e : Gate × LitOf) → Contains g.kept e → (2 + length (states m) + length m.inputs ≤ e.1.var) × (e.1.var ≤ g.formula.vars)
  above e c =
      let up = rising.above e.0 e.1 c in
      let later = up.later in
      let within = (kept.all e.0 e.1 c).within in (
        elim (cases_lt e.1.var (2 + length (states m) + length m.inputs)) as (λ _. 2 + length (states m) + length m.inputs ≤ e.1.var) [
          | inl l ↦ absurd (up.own (open_in e.1.var later l))
          | inr l ↦ l
        ],
        within.1,
      )

  pub has_each : (first count : ℕ) → first ≡ 2 + length (states m) + length m.inputs → first + count ≡ g.formula.vars + 1 → HasEach g.kept first count
  has_each first count f e = record {
    each = λ k l. has_gate (first + k) (omega arith) (omega arith);
    within = all_of (λ (d : Gate × LitOf). (first ≤ d.1.var) × (d.1.var < first + count)) g.kept (λ d c. let (a, b) = above d c in (omega arith, omega arith));
    plain = all_of (λ (d : Gate × LitOf). d.1 ≡ lit_of d.1.var true) g.kept (λ d c. lit_from d.1 d.1.var refl (rising.above d.0 d.1 c).plain);
  }

not_false : (x : Assignment) (l : LitOf) → lit_in x l ≡ false → lit_in x (negate l) ≡ true
not_false x l e = lit_negated x l ∙ ap not e

false_not : (x : Assignment) (l : LitOf) → lit_in x (negate l) ≡ true → lit_in x l ≡ false
false_not x l e = by (lit_in x l) (sym (lit_negated x l) ∙ e)
  where
    by : (b : Bool) → not b ≡ true → b ≡ false
    by true h = absurd (let z : false ≡ true = h in cc)
    by false h = refl

module _ (m : ModelOf) (is : IsModel m) (g : GatesOf) (gates : IsGates g) (kept : AreKept g) (room : HasRoom g) (rising : IsRising g.formula.vars g.inputs g.kept) (truth : Means g (constant true) (λ _. true))
    (next : List LitOf) (asserted : Option LitOf) (assumed : LitOf) (covers : List LitOf) (cycle : IsCycle m g next asserted assumed covers)
    (n : NetOf) (starts : map (λ (s : State). s.start) n.states ≡ m.starts) (nexts : map (λ (s : State). s.next) n.states ≡ next) (ins : n.inputs ≡ length m.inputs)
    (asserts : n.asserted ≡ asserted) (assumes : n.assumed ≡ assumed) (reaches : n.covers ≡ covers)
    (first count : ℕ) (is_first : first ≡ 2 + length (states m) + length m.inputs) (is_count : first + count ≡ g.formula.vars + 1) (order : AreInOrder g.kept first count n.gates) where
  many : length n.states ≡ length (states m)
  many = sym (length_map (λ (s : State). s.start) n.states) ∙ ap length starts ∙ is.starts

  pub all_vars : vars n ≡ g.formula.vars
  all_vars = let a = many in let b = order.size in omega arith

  first_gate : (k : ℕ) → gate_var n k ≡ first + k
  first_gate k = let a = many in omega arith

  gate_in : (k : ℕ) (d : Gate) → slice_get n.gates k ≡ Some d → Contains g.kept (d, lit_of (gate_var n k) true)
  gate_in k d at = subst (λ (v : ℕ). Contains g.kept (d, lit_of v true)) (sym (first_gate k)) (order.each k d at)

  raise : (l : LitOf) → LitWithin g.formula.vars l → LitWithin (vars n) l
  raise l w = let a = all_vars in let (lo, hi) = w in (lo, omega arith)

  pub is_net : IsNet n
  is_net = record {
    limit = let a = all_vars in let b = gates.limit in omega arith;
    gates = λ k d at. (rising.above d (lit_of (gate_var n k) true) (gate_in k d at)).operands;
    next = λ k s at. raise s.next (all_at (LitWithin g.formula.vars) next k s.next cycle.takes.within (subst (λ (ls : List LitOf). slice_get ls k ≡ Some s.next) nexts (map_at (λ (t : State). t.next) n.states k s at)));
    asserted = λ l e. raise l (said l asserted cycle.breaks (sym asserts ∙ e));
    assumed = raise n.assumed (subst (LitWithin g.formula.vars) (sym assumes) cycle.assumes.within);
    covers = all_of (LitWithin (vars n)) n.covers (λ l c.
        (let (k, at) = place_of_contained n.covers l c in
        raise l (cycle.reaches.each k l (subst (λ (ls : List LitOf). slice_get ls k ≡ Some l) reaches at)).within));
  }
    where
      said : (l : LitOf) (o : Option LitOf) → TellsAsserted m g cycle.table o → o ≡ Some l → LitWithin g.formula.vars l
      said l None t e = absurd (let z : None ≡ Some l = e in cc)
      said l (Some k) t e = let z : Some k ≡ Some l = e in let w : k ≡ l = cc in subst (LitWithin g.formula.vars) w (let (lo, hi) = t.1.within in (lo, hi))

  module _ (x : Assignment) (frame : Frame n x) where
    met : (y : Assignment) × Satisfies y g.formula.clauses × AgreeTo (vars n) y x
    met =
        let (y, s, a) = gates.extends x in
        let is_frame : Frame n y = record {
          truth = truth y s;
          gates = λ k d at. (kept.all d (lit_of (gate_var n k) true) (gate_in k d at)).means y s;
        } in
        (y, s, λ v lo hi. one_frame n y x is_net is_frame frame (λ u p q. sym (a u (open_in m g gates kept room rising cycle.inputs u p (let b = many in omega arith)))) v lo hi)

    module _ (c : Cycle) (whole : model.Frame m c) (alike : IsAlike m n c x) (y : Assignment) (s : Satisfies y g.formula.clauses) (a : AgreeTo (vars n) y x) where
      e : Cycle
      e = cycle_of cycle.table y

      table_at : (places : List ℕ) (low long k p : ℕ) → lits_at cycle.table places ≡ row_from low long → k < long → slice_get places k ≡ Some p → cycle_of cycle.table y p ≡ y (low + k)
      table_at places low long k p row l at =
          let q = map_at (lit_at cycle.table) places k p at in
          let r : slice_get (row_from low long) k ≡ Some (lit_at cycle.table p) = subst (λ (ls : List LitOf). slice_get ls k ≡ Some (lit_at cycle.table p)) row q in
          ap (lit_in y) (one_at (row_from low long) k (lit_at cycle.table p) (lit_of (low + k) true) r (row_from-at low long k l))

      agree : Agree m c (cycle_of cycle.table y)
      agree = frames_same m is c (cycle_of cycle.table y) whole (cycle.frame.frame y s) (λ p h. elim (Contains-append_cases (states m) m.inputs p h) as (λ _. c p ≡ cycle_of cycle.table y p) [
        | inl i ↦
            let (k, at) = place_of_contained (states m) p i in
            let l = slice_get_within (states m) k p at in
            let z : 2 + k ≡ state_var k = omega arith in
            let b = many in
            sym (table_at (states m) 2 (length (states m)) k p cycle.frame.states l at ∙ ap y z ∙ a (state_var k) (omega arith) (omega arith) ∙ alike.states k p at)
        | inr i ↦
            let (k, at) = place_of_contained m.inputs p i in
            let l = slice_get_within m.inputs k p at in
            let b = many in
            let z : (2 + length (states m)) + k ≡ input_var n k = omega arith in
            sym (table_at m.inputs (2 + length (states m)) (length m.inputs) k p cycle.frame.inputs l at ∙ ap y z ∙ a (input_var n k) (omega arith) (omega arith) ∙ alike.inputs k p at)
      ])

      back : Agree m (cycle_of cycle.table y) c
      back p l = sym (agree p l)

      lit_same : (l : LitOf) → LitWithin g.formula.vars l → lit_in x l ≡ lit_in y l
      lit_same l w = sym (lit_agrees (vars n) y x l a (raise l w))

      tells : (holds : Cycle → Type 0) (l : LitOf) → Tells g (λ z. holds (cycle_of cycle.table z)) l → (holds (cycle_of cycle.table y) → holds c) → (holds c → holds (cycle_of cycle.table y)) → (lit_in x l ≡ true) ↔ holds c
      tells holds l t to from = ((λ h. to ((t.means y s).0 (sym (lit_same l t.within) ∙ h))), (λ h. lit_same l t.within ∙ (t.means y s).1 (from h)))

      same : SaysTheSame m n c x
      same = record {
        next = sym (map_map (lit_in x) (λ (t : State). t.next) n.states) ∙ ap (map (lit_in x)) nexts
            ∙ map_same (lit_in x) (lit_in y) next (λ l i. lit_same l (all_contained (LitWithin g.formula.vars) next l cycle.takes.within i))
            ∙ cycle.takes.means y s ∙ next_same m is (cycle_of cycle.table y) c back;
        asserted = λ l h. by l asserted cycle.breaks (sym asserts ∙ h);
        assumed = subst (λ (l : LitOf). (lit_in x l ≡ true) ↔ Assumed m c) (sym assumes)
            (tells (Assumed m) assumed cycle.assumes (assumed_kept m is (cycle_of cycle.table y) c back) (assumed_kept m is c (cycle_of cycle.table y) agree));
        covers = λ k l h. tells (λ d. Reached m d k) l (cycle.reaches.each k l (subst (λ (ls : List LitOf). slice_get ls k ≡ Some l) reaches h))
            (reached_kept m is (cycle_of cycle.table y) c back k) (reached_kept m is c (cycle_of cycle.table y) agree k);
      }
        where
          by : (l : LitOf) (o : Option LitOf) → TellsAsserted m g cycle.table o → o ≡ Some l → (lit_in x l ≡ false) ↔ ((k : ℕ) × Broken m c k)
          by l None t h = absurd (let z : None ≡ Some l = h in cc)
          by l (Some k) t h =
              let z : Some k ≡ Some l = h in
              let w : k ≡ l = cc in
              let r = tells (λ d. (j : ℕ) × Broken m d j) (negate k) t.1 (λ (j, b). (j, broken_kept m is (cycle_of cycle.table y) c back j b)) (λ (j, b). (j, broken_kept m is c (cycle_of cycle.table y) agree j b)) in
              subst (λ (j : LitOf). (lit_in x j ≡ false) ↔ ((i : ℕ) × Broken m c i)) w ((λ f. r.0 (not_false x k f)), (λ b. false_not x k (r.1 b)))

  pub is_net_of : IsNetOf m n
  is_net_of = record {
    starts = starts;
    inputs = ins;
    asserted = subst (λ (o : Option LitOf). (o ≡ None) ↔ (m.asserts ≡ [])) (sym asserts) (by asserted cycle.breaks);
    covers = ap length reaches ∙ cycle.reaches.size;
    says = λ c x whole frame alike. (let (y, s, a) = met x frame in same x frame c whole alike y s a);
  }
    where
      by : (o : Option LitOf) → TellsAsserted m g cycle.table o → (o ≡ None) ↔ (m.asserts ≡ [])
      by None t = ((λ h. t), (λ h. refl))
      by (Some l) t = ((λ h. absurd (let z : Some l ≡ None = h in cc)), (λ h. absurd (t.0 h)))
