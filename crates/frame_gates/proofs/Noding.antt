-- A node at its place.
use Rattle.std.proofs.Common.{◌≡◌, ℕ, suc, ◌+◌, ◌*◌, ◌^◌, ◌<◌, ◌≤◌, Bool, cond, List, Some, refl, sym, ap, ◌∙◌, subst, arith, length, take, get_or}
use Rattle.std.specs.Prelude.{slice_get, All}
use Rattle.std.specs.List.{sum_by}
use Rattle.std.proofs.lemmas.List.Sums.{sum_by_more, sum_by_more_le}
use Rattle.std.proofs.lemmas.Option.{get_or_from_slice_get, slice_get_within}
use Rattle.cnf_form.specs.Cnf.{LitOf, Assignment, LitWithin, lit_in}
use Rattle.gate_graph.specs.Circuit.{GatesOf, Continues}
use Rattle.gate_graph.specs.Laws.{Continues-refl}
use Rattle.gate_rows.specs.Literals.{MeansRow, row_of}
use Rattle.sby_bits.specs.Rows.{Row}
use Rattle.model_core.specs.Shape.{NodeOf, RegisterOf, ModelOf, IsDistinct, IsRegister, states}
use Rattle.model_core.specs.Meaning.{is_active, next_row, node_fn, row_at}
use Rattle.model_core.specs.Served.{HasWidths, IsModel, IsNode}
use Rattle.model_core.specs.declared.op.Op.{Op}
use Rattle.model_core.specs.declared.op.Op.TheVariants.{Copy as CopyOp}
use Rattle.model_core.specs.declared.model.Control.{Control}
use Rattle.frame_gates.specs.Costs.{node_gates, op_gates}
use Rattle.frame_gates.specs.Frames.{cycle_of, lit_at, lits_at}
use Rattle.frame_gates.specs.Rows.{IsGiven, IsWritten}
use Rattle.model_core.proofs.Fitting.{node_rows_fit}
use Rattle.frame_gates.proofs.Giving.{given_row}
use Rattle.model_core.proofs.Lists.{all_at, at_place}
use Rattle.frame_gates.proofs.Lists.{all_of, flat_contained, length_map, one_at}
use Rattle.frame_gates.proofs.Places.{a_below, b_below, output_small, s_below, states_below, y_below, y_distinct}
use Rattle.frame_gates.proofs.Reading.{read_row, within_lits}

pub read_within : (vars : ℕ) (table row : List LitOf) (places : List ℕ) → All (λ p. p < length table) places → All (LitWithin vars) table → row ≡ lits_at table places → All (LitWithin vars) row
read_within vars table row places b w e = subst (All (LitWithin vars)) (sym e) (within_lits vars table places b w)

module _ (m : ModelOf) (is : IsModel m) (node : ℕ) (h : node < length m.nodes) (table : List LitOf) (size : length table ≡ m.size) (places : List ℕ) where
  below_table : All (λ p. p < m.size) places → All (λ p. p < length table) places
  below_table a k d l = let q = a k d l in omega arith

  pub a_read : ((n : NodeOf) → slice_get m.nodes node ≡ Some n → places ≡ n.a) → All (λ p. p < length table) places
  a_read e = let n = at_place m.nodes node h in below_table (subst (All (λ (p : ℕ). p < m.size)) (sym (e n.0 n.1)) (a_below m is node n.0 n.1))

  pub b_read : ((n : NodeOf) → slice_get m.nodes node ≡ Some n → places ≡ n.b) → All (λ p. p < length table) places
  b_read e = let n = at_place m.nodes node h in below_table (subst (All (λ (p : ℕ). p < m.size)) (sym (e n.0 n.1)) (b_below m is node n.0 n.1))

  pub s_read : ((n : NodeOf) → slice_get m.nodes node ≡ Some n → places ≡ n.s) → All (λ p. p < length table) places
  s_read e = let n = at_place m.nodes node h in below_table (subst (All (λ (p : ℕ). p < m.size)) (sym (e n.0 n.1)) (s_below m is node n.0 n.1))

  pub y_read : ((n : NodeOf) → slice_get m.nodes node ≡ Some n → places ≡ n.y) → All (λ p. p < length table) places
  y_read e = let n = at_place m.nodes node h in below_table (subst (All (λ (p : ℕ). p < m.size)) (sym (e n.0 n.1)) (y_below m is node n.0 n.1))

  pub y_once : ((n : NodeOf) → slice_get m.nodes node ≡ Some n → places ≡ n.y) → IsDistinct places
  y_once e = let n = at_place m.nodes node h in subst IsDistinct (sym (e n.0 n.1)) (y_distinct m is node n.0 n.1)

  pub y_small : ((n : NodeOf) → slice_get m.nodes node ≡ Some n → places ≡ n.y) → length places ≤ 8192
  y_small e =
      let n = at_place m.nodes node h in
      let w = output_small n.0.op (length n.0.a) (length n.0.b) (length n.0.s) (length n.0.y) (all_at IsNode m.nodes node n.0 is.nodes n.1) in
      let l = ap length (e n.0 n.1) in
      omega arith

lits_long : (table row : List LitOf) (places more : List ℕ) → row ≡ lits_at table places → places ≡ more → length row ≡ length more
lits_long table row places more e f = ap length e ∙ length_map (lit_at table) places ∙ ap length f

widths_at : (op p : Op) (a b s y e f g h : ℕ) → op ≡ p → a ≡ e → b ≡ f → s ≡ g → y ≡ h → HasWidths p e f g h → HasWidths op a b s y
widths_at op p a b s y e f g h i j k l n w = rw (i, j, k, l, n) w

gates_at : (op p : Op) (a b y e f h : ℕ) → op ≡ p → a ≡ e → b ≡ f → y ≡ h → op_gates op a b y ≡ op_gates p e f h
gates_at op p a b y e f h i j k n = rw (i, j, k, n) refl

fn_same : (op p : Op) (y z : ℕ) (a b s a' b' s' : Row) → op ≡ p → y ≡ z → a ≡ a' → b ≡ b' → s ≡ s' → node_fn op y a b s ≡ node_fn p z a' b' s'
fn_same op p y z a b s a' b' s' e f g h i = rw (e, f, g, h, i) refl

module _ (m : ModelOf) (is : IsModel m) (node : ℕ) (h : node < length m.nodes) (table a b s : List LitOf) (op : Op) (pa pb ps py : List ℕ) (y : ℕ)
    (o : (n : NodeOf) → slice_get m.nodes node ≡ Some n → op ≡ n.op) (ea : (n : NodeOf) → slice_get m.nodes node ≡ Some n → pa ≡ n.a) (eb : (n : NodeOf) → slice_get m.nodes node ≡ Some n → pb ≡ n.b)
    (es : (n : NodeOf) → slice_get m.nodes node ≡ Some n → ps ≡ n.s) (ey : (n : NodeOf) → slice_get m.nodes node ≡ Some n → py ≡ n.y)
    (ra : a ≡ lits_at table pa) (rb : b ≡ lits_at table pb) (rs : s ≡ lits_at table ps) (ly : y ≡ length py) where
  pub node_widths : HasWidths op (length a) (length b) (length s) y
  node_widths =
      let n = at_place m.nodes node h in
      widths_at op n.0.op (length a) (length b) (length s) y (length n.0.a) (length n.0.b) (length n.0.s) (length n.0.y) (o n.0 n.1) (lits_long table a pa n.0.a ra (ea n.0 n.1))
      (lits_long table b pb n.0.b rb (eb n.0 n.1)) (lits_long table s ps n.0.s rs (es n.0 n.1)) (ly ∙ ap length (ey n.0 n.1)) (all_at IsNode m.nodes node n.0 is.nodes n.1)

  pub node_costs : (n : NodeOf) → slice_get m.nodes node ≡ Some n → op_gates op (length a) (length b) y ≡ node_gates n
  node_costs n at =
      gates_at op n.op (length a) (length b) y (length n.a) (length n.b) (length n.y) (o n at) (lits_long table a pa n.a ra (ea n at)) (lits_long table b pb n.b rb (eb n at)) (ly ∙ ap length (ey n at))

  pub node_long : (k : GatesOf) (row : List LitOf) → MeansRow k (λ x. node_fn op y (row_of x a) (row_of x b) (row_of x s)) row → length row ≡ length py
  node_long k row r =
      let n = at_place m.nodes node h in
      let x : Assignment = λ _. Rattle.std.proofs.Common.false in
      r.as_many x
      ∙ ap length (fn_same op n.0.op y (length n.0.y) (row_of x a) (row_of x b) (row_of x s) (row_at (cycle_of table x) n.0.a) (row_at (cycle_of table x) n.0.b) (row_at (cycle_of table x) n.0.s) (o n.0 n.1)
      (ly ∙ ap length (ey n.0 n.1)) (ap (row_of x) (ra ∙ ap (lits_at table) (ea n.0 n.1)) ∙ read_row x table n.0.a) (ap (row_of x) (rb ∙ ap (lits_at table) (eb n.0 n.1)) ∙ read_row x table n.0.b)
      (ap (row_of x) (rs ∙ ap (lits_at table) (es n.0 n.1)) ∙ read_row x table n.0.s))
      ∙ node_rows_fit (cycle_of table x) n.0 (all_at IsNode m.nodes node n.0 is.nodes n.1) ∙ sym (ap length (ey n.0 n.1))

  pub node_given : (g k : GatesOf) (row new : List LitOf) → Continues g k → All (LitWithin g.formula.vars) table → IsWritten py row (length py) table new →
      MeansRow k (λ x. node_fn op y (row_of x a) (row_of x b) (row_of x s)) row → length row ≡ length py → (n : NodeOf) → slice_get m.nodes node ≡ Some n → IsGiven k n table new
  node_given g k row new c w t r l n at =
      let eo = o n at in
      let fa = ea n at in
      let fb = eb n at in
      let fs = es n at in
      let fy = ey n at in
      let r1 = subst (λ (q : Op). MeansRow k (λ x. node_fn q y (row_of x a) (row_of x b) (row_of x s)) row) eo r in
      let r2 = subst (λ (q : ℕ). MeansRow k (λ x. node_fn n.op q (row_of x a) (row_of x b) (row_of x s)) row) (ly ∙ ap length fy) r1 in
      let r3 = subst (λ (q : List LitOf). MeansRow k (λ x. node_fn n.op (length n.y) (row_of x q) (row_of x b) (row_of x s)) row) (ra ∙ ap (lits_at table) fa) r2 in
      let r4 = subst (λ (q : List LitOf). MeansRow k (λ x. node_fn n.op (length n.y) (row_of x (lits_at table n.a)) (row_of x q) (row_of x s)) row) (rb ∙ ap (lits_at table) fb) r3 in
      let r5 = subst (λ (q : List LitOf). MeansRow k (λ x. node_fn n.op (length n.y) (row_of x (lits_at table n.a)) (row_of x (lits_at table n.b)) (row_of x q)) row) (rs ∙ ap (lits_at table) fs) r4 in
      let t1 = subst (λ (q : List ℕ). IsWritten q row (length q) table new) fy t in
      given_row g k n table new row c w (l ∙ ap length fy) t1 r5

-- a node that copies its operand
module _ (m : ModelOf) (is : IsModel m) (node : ℕ) (n : NodeOf) (table row : List LitOf) (pa py : List ℕ) (at : slice_get m.nodes node ≡ Some n) (o : n.op ≡ CopyOp) (ea : pa ≡ n.a) (ey : py ≡ n.y)
    (r : row ≡ lits_at table pa) where
  copy_row : length row ≡ length n.y
  copy_row =
      let w = subst (λ (k : Op). HasWidths k (length n.a) (length n.b) (length n.s) (length n.y)) o (all_at IsNode m.nodes node n is.nodes at) in
      lits_long table row pa n.a r ea ∙ sym w.1

  pub copy_long : length row ≡ length py
  copy_long = copy_row ∙ sym (ap length ey)

  pub copy_given : (g : GatesOf) (new : List LitOf) → All (λ p. p < length table) pa → IsWritten py row (length py) table new → All (LitWithin g.formula.vars) table → IsGiven g n table new
  copy_given g new below t within =
      let e : row ≡ lits_at table n.a = r ∙ ap (lits_at table) ea in
      let means : MeansRow g (λ x. row_of x (lits_at table n.a)) row = record {
        as_many = λ x. sym (length_map (lit_in x) row) ∙ ap (λ (ls : List LitOf). length (row_of x ls)) e;
        within = read_within g.formula.vars table row pa below within r;
        means = λ x s. ap (row_of x) e;
      } in
      given_row g g n table new row (Continues-refl g) within copy_row (subst (λ (q : List ℕ). IsWritten q row (length q) table new) ey t)
      (subst (λ (k : Op). MeansRow g (λ x. node_fn k (length n.y) (row_of x (lits_at table n.a)) (row_of x (lits_at table n.b)) (row_of x (lits_at table n.s))) row) (sym o) means)

-- a register at its place
module _ (m : ModelOf) (is : IsModel m) (i : ℕ) (h : i < length m.registers) (table : List LitOf) (size : length table ≡ m.size) where
  register : (r : RegisterOf) × (slice_get m.registers i ≡ Some r) × IsRegister m.size r
  register = let r = at_place m.registers i h in (r.0, r.1, all_at (IsRegister m.size) m.registers i r.0 is.registers r.1)

  below_size : (places : List ℕ) → All (λ p. p < m.size) places → All (λ p. p < length table) places
  below_size places a k d l = let q = a k d l in omega arith

  pub q_read : (places : List ℕ) → ((r : RegisterOf) → slice_get m.registers i ≡ Some r → places ≡ r.q) → All (λ p. p < length table) places
  q_read places e =
      below_size places (subst (All (λ (p : ℕ). p < m.size)) (sym (e register.0 register.1)) (all_of (λ (p : ℕ). p < m.size) register.0.q (λ p c.
      Rattle.frame_gates.proofs.Lists.all_contained (λ (q : ℕ). q < m.size) (states m) p (states_below m is) (flat_contained (λ (k : RegisterOf). k.q) m.registers i register.0 p register.1 c))))

  pub d_read : (places : List ℕ) → ((r : RegisterOf) → slice_get m.registers i ≡ Some r → places ≡ r.d) → All (λ p. p < length table) places
  d_read places e = below_size places (subst (All (λ (p : ℕ). p < m.size)) (sym (e register.0 register.1)) register.2.d_below)

  pub value_read : (places : List ℕ) → ((r : RegisterOf) → slice_get m.registers i ≡ Some r → places ≡ r.value) → All (λ p. p < length table) places
  value_read places e = below_size places (subst (All (λ (p : ℕ). p < m.size)) (sym (e register.0 register.1)) register.2.value_below)

  pub enable_below : (c : Control) → ((r : RegisterOf) → slice_get m.registers i ≡ Some r → c ≡ r.enable) → c.place < length table
  enable_below c e = let s = e register.0 register.1 in subst (λ (k : Control). k.place < length table) (sym s) (let q = register.2.enable in omega arith)

  pub reset_below : (c : Control) → ((r : RegisterOf) → slice_get m.registers i ≡ Some r → c ≡ r.reset) → c.place < length table
  reset_below c e = let s = e register.0 register.1 in subst (λ (k : Control). k.place < length table) (sym s) (let q = register.2.reset in omega arith)

  module _ (qs ds vs : List ℕ) (a b s : List LitOf) (eq : (r : RegisterOf) → slice_get m.registers i ≡ Some r → qs ≡ r.q) (ed : (r : RegisterOf) → slice_get m.registers i ≡ Some r → ds ≡ r.d)
      (ev : (r : RegisterOf) → slice_get m.registers i ≡ Some r → vs ≡ r.value) (ra : a ≡ lits_at table qs) (rb : b ≡ lits_at table ds) (rs : s ≡ lits_at table vs) where
    pub d_long : length b ≡ length a
    d_long = let r = register in lits_long table b ds r.0.d rb (ed r.0 r.1) ∙ r.2.d ∙ sym (lits_long table a qs r.0.q ra (eq r.0 r.1))

    pub value_long : length s ≡ length a
    value_long = let r = register in lits_long table s vs r.0.value rs (ev r.0 r.1) ∙ r.2.value ∙ sym (lits_long table a qs r.0.q ra (eq r.0 r.1))

    pub q_long : (r : RegisterOf) → slice_get m.registers i ≡ Some r → length a ≡ length r.q
    q_long r at = lits_long table a qs r.q ra (eq r at)

    rows : (x : Assignment) (r : RegisterOf) → slice_get m.registers i ≡ Some r → (row_of x a ≡ row_at (cycle_of table x) r.q) × (row_of x b ≡ row_at (cycle_of table x) r.d) × (row_of x s ≡ row_at (cycle_of table x) r.value)
    rows x r at = (
      ap (row_of x) (ra ∙ ap (lits_at table) (eq r at)) ∙ read_row x table r.q,
      ap (row_of x) (rb ∙ ap (lits_at table) (ed r at)) ∙ read_row x table r.d,
      ap (row_of x) (rs ∙ ap (lits_at table) (ev r at)) ∙ read_row x table r.value,
    )

    first_row : (first e r e' r' : Bool) (va da qa va' da' qa' : Row) → first ≡ Rattle.std.proofs.Common.true → e ≡ e' → r ≡ r' → va ≡ va' → da ≡ da' → qa ≡ qa' →
        cond r va (cond e da qa) ≡ cond first (cond r' va' (cond e' da' qa')) (cond e' (cond r' va' da') qa')
    first_row first e r e' r' va da qa va' da' qa' f p q s t u = rw (f, p, q, s, t, u) refl

    second_row : (first e r e' r' : Bool) (va da qa va' da' qa' : Row) → first ≡ Rattle.std.proofs.Common.false → e ≡ e' → r ≡ r' → va ≡ va' → da ≡ da' → qa ≡ qa' →
        cond e (cond r va da) qa ≡ cond first (cond r' va' (cond e' da' qa')) (cond e' (cond r' va' da') qa')
    second_row first e r e' r' va da qa va' da' qa' f p q s t u = rw (f, p, q, s, t, u) refl

    module _ (g : GatesOf) (word : List LitOf) (ce cr : Control) (enable reset : LitOf) (first : Bool) (xe : (r : RegisterOf) → slice_get m.registers i ≡ Some r → ce ≡ r.enable)
        (xr : (r : RegisterOf) → slice_get m.registers i ≡ Some r → cr ≡ r.reset) (xf : (r : RegisterOf) → slice_get m.registers i ≡ Some r → first ≡ r.reset_first)
        (me : (x : Assignment) → lit_in x enable ≡ is_active (cycle_of table x) ce) (mr : (x : Assignment) → lit_in x reset ≡ is_active (cycle_of table x) cr) where
      same_first : first ≡ Rattle.std.proofs.Common.true → (x : Assignment) (r : RegisterOf) → slice_get m.registers i ≡ Some r →
          cond (lit_in x reset) (row_of x s) (cond (lit_in x enable) (row_of x b) (row_of x a)) ≡ next_row (cycle_of table x) r
      same_first f x r at =
          let z = rows x r at in
          first_row r.reset_first (lit_in x enable) (lit_in x reset) (is_active (cycle_of table x) r.enable) (is_active (cycle_of table x) r.reset) (row_of x s) (row_of x b) (row_of x a)
          (row_at (cycle_of table x) r.value) (row_at (cycle_of table x) r.d) (row_at (cycle_of table x) r.q) (sym (xf r at) ∙ f)
          (me x ∙ ap (is_active (cycle_of table x)) (xe r at)) (mr x ∙ ap (is_active (cycle_of table x)) (xr r at)) z.2 z.1 z.0

      same_second : first ≡ Rattle.std.proofs.Common.false → (x : Assignment) (r : RegisterOf) → slice_get m.registers i ≡ Some r →
          cond (lit_in x enable) (cond (lit_in x reset) (row_of x s) (row_of x b)) (row_of x a) ≡ next_row (cycle_of table x) r
      same_second f x r at =
          let z = rows x r at in
          second_row r.reset_first (lit_in x enable) (lit_in x reset) (is_active (cycle_of table x) r.enable) (is_active (cycle_of table x) r.reset) (row_of x s) (row_of x b) (row_of x a)
          (row_at (cycle_of table x) r.value) (row_at (cycle_of table x) r.d) (row_at (cycle_of table x) r.q) (sym (xf r at) ∙ f)
          (me x ∙ ap (is_active (cycle_of table x)) (xe r at)) (mr x ∙ ap (is_active (cycle_of table x)) (xr r at)) z.2 z.1 z.0

      pub register_first : first ≡ Rattle.std.proofs.Common.true → MeansRow g (λ x. cond (lit_in x reset) (row_of x s) (cond (lit_in x enable) (row_of x b) (row_of x a))) word →
          (r : RegisterOf) → slice_get m.registers i ≡ Some r → MeansRow g (λ x. next_row (cycle_of table x) r) word
      register_first f w r at = record {
        as_many = λ x. w.as_many x ∙ ap length (same_first f x r at);
        within = w.within;
        means = λ x t. w.means x t ∙ same_first f x r at;
      }

      pub register_second : first ≡ Rattle.std.proofs.Common.false → MeansRow g (λ x. cond (lit_in x enable) (cond (lit_in x reset) (row_of x s) (row_of x b)) (row_of x a)) word →
          (r : RegisterOf) → slice_get m.registers i ≡ Some r → MeansRow g (λ x. next_row (cycle_of table x) r) word
      register_second f w r at = record {
        as_many = λ x. w.as_many x ∙ ap length (same_second f x r at);
        within = w.within;
        means = λ x t. w.means x t ∙ same_second f x r at;
      }

-- sums over a list's front
pub sum_step : {A : Type 0} (f : A → ℕ) (xs : List A) (i : ℕ) (x : A) → slice_get xs i ≡ Some x → sum_by f (take (i + 1) xs) ≡ sum_by f (take i xs) + f x
sum_step {A} f xs i x at =
    sum_by_more f xs i x (slice_get_within xs i x at) ∙ ap (λ (z : A). sum_by f (take i xs) + f z) (get_or_from_slice_get xs i x x at)

pub sum_within : {A : Type 0} (f : A → ℕ) (xs : List A) (i : ℕ) (x : A) → slice_get xs i ≡ Some x → sum_by f (take i xs) + f x ≤ sum_by f xs
sum_within f xs i x at =
    let m = sum_by_more_le f xs i x (slice_get_within xs i x at) in
    let e = ap f (get_or_from_slice_get xs i x x at) in
    omega (arith, m, e)
